use Rattle.std.proofs.Common.{◌≡◌, ◌++◌, drop}
use Rattle.px_text_report.proofs.left_out.put_copies.Given as goal

abbrev pub invariant-loop-item : goal.invariant-loop-item
invariant-loop-item l = l.all.items ++ drop l.item-index l.items ≡ l.initial.all.items ++ l.items
