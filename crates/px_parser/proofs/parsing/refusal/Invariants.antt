use Rattle.std.proofs.Common.{take}
use Rattle.px_lexer.specs.Lent.{as_tokens}
use Rattle.px_parser.specs.Refusals.{NoneOutside}
use Rattle.px_parser.proofs.parsing.refusal.Given as goal

abbrev pub invariant-loop-i : goal.invariant-loop-i
invariant-loop-i l = NoneOutside l.source (take l.i (as_tokens l.tokens))
