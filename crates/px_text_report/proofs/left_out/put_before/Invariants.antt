use Rattle.std.proofs.Common.{◌≡◌, ◌++◌, drop}
use Rattle.px_text_report.specs.LeftOut.{those_before, those_after}
use Rattle.px_text_report.proofs.left_out.put_before.Given as goal

abbrev pub invariant-loop-i : goal.invariant-loop-i
invariant-loop-i l =
    (l.all.items ++ those_before l.site (drop l.i l.others) ≡ l.initial.all.items ++ those_before l.site l.others)
    × (those_after l.site (drop l.i l.others) ≡ those_after l.site l.others)
