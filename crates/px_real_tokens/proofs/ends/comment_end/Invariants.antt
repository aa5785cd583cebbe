use Rattle.std.proofs.Common.{◌≡◌, ◌+◌, drop, option_map, false}
use Rattle.px_lexer.specs.Scanning.{comment_end}
use Rattle.px_real_tokens.proofs.ends.comment_end.Given as goal

abbrev pub invariant-loop-index : goal.invariant-loop-index
invariant-loop-index l = comment_end false l.bytes ≡ option_map (λ n. l.index + n) (comment_end l.star (drop l.index l.bytes))
