use Rattle.std.proofs.Common.{◌≡◌, drop}
use Rattle.px_lexer.specs.Scanning.{includes_from}
use Rattle.px_lexer.specs.declared.piece.Gap.TheVariants.{Outside}
use Rattle.px_lexer.proofs.lines.includes.Given as goal

abbrev pub invariant-loop-index : goal.invariant-loop-index
invariant-loop-index l = includes_from Outside l.line ≡ includes_from l.gap (drop l.index l.line)
