use Rattle.std.proofs.Common.{map, filter_map, flat_map, take}
use Rattle.px_typing.specs.ItemViews.{judged_of}
use Rattle.px_typing.specs.Numberings.{Sees}
use Rattle.px_typing.specs.Programs.{mentions, mentioned_name, mentioned_blocks}
use Rattle.px_typing.proofs.numbering.Numbering.see_items.Given as goal

abbrev pub invariant-loop-i : goal.invariant-loop-i
invariant-loop-i l =
    Sees l.initial.self l.self (filter_map mentioned_name (mentions (map judged_of (take l.i l.judged)))) (flat_map mentioned_blocks (mentions (map judged_of (take l.i l.judged))))
