use Rattle.std.proofs.Common.{List, map, ap, subst, ◌∙◌}
use Rattle.px_real_expressions.specs.declared.terminal.Terminal.TheVariants.{OpenBrace, CloseBrace}
use Rattle.px_real_expressions.specs.Lexemes.{Lexeme}
use Rattle.px_real_expressions.specs.Grammar.{Between, IsHeld}
use Rattle.px_real_symbols.specs.Symbols.{see}
use Rattle.px_real_blocks.proofs.bodies.body_of.Goals as goal

pub returns-clause-unbraced : goal.returns-clause-unbraced
returns-clause-unbraced c = λ h. subst (λ z. (o : Lexeme) (a : List Lexeme) → Between OpenBrace CloseBrace IsHeld z o a → ⊥) (ap (map (see c.args.source.now)) c.deref.ensures.value ∙ c.in_ok-symbols.ensures) (c.read.ensures.unbraced h)
