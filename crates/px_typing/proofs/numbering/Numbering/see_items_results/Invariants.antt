use Rattle.std.proofs.Common.{[], map, flat_map, take}
use Rattle.px_bodies.specs.Environment.{environment_of}
use Rattle.px_typing.specs.ItemViews.{judged_of}
use Rattle.px_typing.specs.Numberings.{Sees}
use Rattle.px_typing.specs.Programs.{mentions, called_blocks}
use Rattle.px_typing.proofs.numbering.Numbering.see_items_results.Given as goal

abbrev pub invariant-loop-i : goal.invariant-loop-i
invariant-loop-i l =
    Sees l.initial.self l.self [] (flat_map (called_blocks (environment_of l.initial.self.environment).signature) (mentions (map judged_of (take l.i l.judged))))
