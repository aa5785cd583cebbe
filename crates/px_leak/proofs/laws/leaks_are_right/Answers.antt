use Rattle.px_meaning.specs.CoreCalls.{CoreCalls}
use Rattle.px_meaning.specs.TreeCalls.{TreeCalls}
use Rattle.px_leak.proofs.LeakLemmas.{leaks_right}
use Rattle.px_leak.proofs.laws.leaks_are_right.Goals as goal

pub returns : goal.returns
returns c = record {
  core = λ P f. leaks_right c.tests_decide.ensures (CoreCalls P f) (c.asking_nothing_is_taken.ensures.core P f);
  tree = λ P f. leaks_right c.tests_decide.ensures (TreeCalls P f) (c.asking_nothing_is_taken.ensures.tree P f);
}
