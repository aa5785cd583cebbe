use Rattle.std.proofs.Common.{◌≡◌, map, take}
use Rattle.px_bodies.specs.Environment.{environment_of}
use Rattle.px_typing.specs.Keeping.{judged}
use Rattle.px_typing.specs.ItemViews.{marked_of, judged_of}
use Rattle.px_typing.proofs.judging.judge.Given as goal

abbrev pub invariant-loop-i : goal.invariant-loop-i
invariant-loop-i l = map judged_of l.judged.items ≡ map (judged (environment_of l.environment)) (map marked_of (take l.i l.marked))
