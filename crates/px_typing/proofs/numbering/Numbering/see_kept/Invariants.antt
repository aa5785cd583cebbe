use Rattle.std.proofs.Common.{[], map, filter_map, take}
use Rattle.px_typing.specs.ItemViews.{judged_of}
use Rattle.px_typing.specs.Numberings.{Sees}
use Rattle.px_typing.specs.Programs.{kept_name}
use Rattle.px_typing.proofs.numbering.Numbering.see_kept.Given as goal

abbrev pub invariant-loop-i : goal.invariant-loop-i
invariant-loop-i l = Sees l.initial.self l.self (filter_map kept_name (map judged_of (take l.i l.judged))) []
