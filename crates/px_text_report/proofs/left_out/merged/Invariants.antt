use Rattle.std.proofs.Common.{◌≡◌, ◌≤◌, ◌++◌, drop, length}
use Rattle.px_text_report.specs.LeftOut.{by_place}
use Rattle.px_text_report.proofs.left_out.merged.Given as goal

abbrev pub invariant-loop-item : goal.invariant-loop-item
invariant-loop-item l = (l.from ≤ length l.others) × (l.all.items ++ by_place (drop l.item-index l.left) (drop l.from l.others) ≡ by_place l.left l.others)
