use Rattle.std.proofs.Common.{◌≡◌, [], false, drop, map}
use Rattle.px_real_cutting.specs.declared.roles.Before.TheVariants.{Nothing}
use Rattle.px_real_cutting.specs.Roles.{as_mark}
use Rattle.px_real_cutting.specs.Scan.{scan}
use Rattle.px_real_cutting.proofs.scanner.scan_piece.Given as goal

abbrev pub invariant-loop-index : goal.invariant-loop-index
invariant-loop-index l = scan l.scanner.open l.scanner.before l.scanner.head (map (as_mark l.source) (drop l.index l.tokens)) ≡ scan [] Nothing false (map (as_mark l.source) l.tokens)
