use Rattle.std.proofs.Common.{◌≡◌, drop}
use Rattle.px_real_tokens.specs.Scanning.{marks_from}
use Rattle.px_real_tokens.specs.declared.piece.Gap.TheVariants.{Outside}
use Rattle.px_real_tokens.proofs.lines.is_marker.Given as goal

abbrev pub invariant-loop-index : goal.invariant-loop-index
invariant-loop-index l = marks_from Outside l.line ≡ marks_from l.gap (drop l.index l.line)
