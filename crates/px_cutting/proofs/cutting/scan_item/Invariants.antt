use Rattle.std.proofs.Common.{◌≡◌, [], false, drop}
use Rattle.px_lexer.specs.Lent.{as_tokens}
use Rattle.px_cutting.specs.Scan.{scan}
use Rattle.px_cutting.proofs.cutting.scan_item.Given as goal

abbrev pub invariant-loop-i : goal.invariant-loop-i
invariant-loop-i l = scan l.scanner.open l.scanner.body l.scanner.after (drop l.i (as_tokens l.tokens)) ≡ scan [] false false (as_tokens l.tokens)
