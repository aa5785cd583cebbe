use Rattle.std.proofs.Common.{drop, arith}
use Rattle.px_real_symbols.specs.Symbols.{seen}
use Rattle.px_real_symbols.proofs.AnswerLemmas.{gives_same}
use Rattle.px_real_declaring.proofs.DepthEquations.{declarator_is, no_declarator_at}
use Rattle.px_real_declaring.proofs.declarators.+declarator.Goals as goal

pub declarator-returns-then-depth-eq0 : goal.declarator-returns-then-depth-eq0
declarator-returns-then-depth-eq0 g t c = no_declarator_at _ c.args.may_miss c.args.depth (drop c.args.at (seen c.args.on)) c.if-depth-eq0.true

pub declarator-returns : goal.declarator-returns
declarator-returns g t c = gives_same (seen c.args.on) _ _ _ _ (declarator_is _ c.args.may_miss c.args.depth (drop c.args.at (seen c.args.on)) (omega (arith, c.if-depth-eq0.false))) c.opened.ensures
