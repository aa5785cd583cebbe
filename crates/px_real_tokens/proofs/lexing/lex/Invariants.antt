use Rattle.std.proofs.Common.{length}
use Rattle.px_real_tokens.proofs.LoopLemmas.{HasRead}
use Rattle.px_real_tokens.proofs.lexing.lex.Given as goal

abbrev pub decreases-loop-rest : goal.decreases-loop-rest
decreases-loop-rest l = length l.rest

abbrev pub invariant-loop-rest : goal.invariant-loop-rest
invariant-loop-rest l = HasRead l.file l.source l.tokens.items l.fresh l.start l.cursor l.rest
