use Rattle.std.proofs.lemmas.List.Elements.{All-pop}
use Rattle.px_check.specs.Follows.{IsForkOf}
use Rattle.px_check.proofs.forks.go_back.Goals as goal

pub loop-fork-preserved-else-fork-place : goal.loop-fork-preserved-else-fork-place
loop-fork-preserved-else-fork-place c = λ j all. (All-pop (IsForkOf j) c.loop-fork.forks.items c.pop.new.self.items c.pop.result c.pop.ensures.items (c.loop-fork.invariant j all)).0
