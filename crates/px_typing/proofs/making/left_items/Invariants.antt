use Rattle.std.proofs.Common.{◌≡◌, map, filter_map, take}
use Rattle.px_bodies.specs.Environment.{environment_of}
use Rattle.px_typing.specs.ItemViews.{judged_of}
use Rattle.px_typing.specs.Programs.{left_of}
use Rattle.px_typing.proofs.making.left_items.Given as goal

abbrev pub invariant-loop-i : goal.invariant-loop-i
invariant-loop-i l = l.all ≡ filter_map (left_of (environment_of l.environment)) (map judged_of (take l.i l.judged))
