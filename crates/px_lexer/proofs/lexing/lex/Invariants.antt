use Rattle.std.proofs.Common.{length}
use Rattle.px_lexer.specs.Kept.{all_on_lines}
use Rattle.px_lexer.proofs.LoopLemmas.{HasRead}
use Rattle.px_lexer.proofs.lexing.lex.Given as goal

abbrev pub decreases-loop-rest : goal.decreases-loop-rest
decreases-loop-rest l = length l.rest

abbrev pub invariant-loop-rest : goal.invariant-loop-rest
invariant-loop-rest l = HasRead l.file l.source (all_on_lines l.lines.file l.lines.starts.items l.kept.items) l.fresh l.start l.rest
