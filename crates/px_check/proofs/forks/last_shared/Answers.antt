use Rattle.std.proofs.Common.{Some}
use Rattle.std.proofs.lemmas.List.Elements.{All-pop}
use Rattle.px_check.specs.Follows.{IsForkOf}
use Rattle.px_check.proofs.ForkLemmas.{fork_for}
use Rattle.px_check.proofs.forks.last_shared.Goals as goal

pub returns-clause-fork : goal.returns-clause-fork
returns-clause-fork c = λ j all.
    fork_for j c.args.steps.now c.in-Some.fork c.shared_steps.result (All-pop (IsForkOf j) c.go_back.new.forks.items c.pop.new.self.items (Some c.in-Some.fork) c.in-Some.ensures.items (c.go_back.ensures j all)).1
    c.shared_steps.ensures.same c.if-shared_steps-fork.false c.shared_steps.ensures.within

pub returns-clause-forks : goal.returns-clause-forks
returns-clause-forks c = λ j all. (All-pop (IsForkOf j) c.go_back.new.forks.items c.pop.new.self.items (Some c.in-Some.fork) c.in-Some.ensures.items (c.go_back.ensures j all)).0

pub returns-then-shared_steps-fork-clause-forks : goal.returns-then-shared_steps-fork-clause-forks
returns-then-shared_steps-fork-clause-forks c = λ j all. (All-pop (IsForkOf j) c.go_back.new.forks.items c.pop.new.self.items (Some c.in-Some.fork) c.in-Some.ensures.items (c.go_back.ensures j all)).0
