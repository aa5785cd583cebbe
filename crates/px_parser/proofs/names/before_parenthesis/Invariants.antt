use Rattle.std.proofs.Common.{◌≡◌, drop, None}
use Rattle.px_lexer.specs.Lent.{as_tokens}
use Rattle.px_parser.specs.Names.{before_first}
use Rattle.px_parser.proofs.names.before_parenthesis.Given as goal

abbrev pub invariant-loop-i : goal.invariant-loop-i
invariant-loop-i l = before_first l.last (drop l.i (as_tokens l.tokens)) ≡ before_first None (as_tokens l.tokens)
