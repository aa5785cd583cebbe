use Rattle.std.proofs.Common.{◌≡◌, map, take}
use Rattle.px_typing.specs.ItemViews.{judged_of}
use Rattle.px_typing.specs.Apart.{is_kept}
use Rattle.px_typing.proofs.making.kept_items.Given as goal

abbrev pub invariant-loop-i : goal.invariant-loop-i
invariant-loop-i l = l.all.items ≡ map is_kept (map judged_of (take l.i l.judged))
