use Rattle.std.proofs.Common.{◌∙◌, ◌||◌, sym, ap, arith, slice_index_or}
use Rattle.px_real_expressions.specs.declared.terminal.Terminal.TheVariants as T
use Rattle.px_real_expressions.specs.Lexemes.{Lexeme, same}
use Rattle.px_real_symbols.specs.Symbols.{see}
use Rattle.px_real_symbols.proofs.FrontLemmas.{blank}
use Rattle.px_real_locals.proofs.LookLemmas.{leads_there}
use Rattle.px_real_locals.proofs.names.leads_on.Goals as goal

pub returns-then-eq : goal.returns-then-eq
returns-then-eq c =
    let t : Lexeme = see c.args.source.now (slice_index_or c.args.symbols.now c.args.at blank) in
    c.if-eq.true
    ∙ sym (leads_there (see c.args.source.now) c.args.symbols.now c.args.at blank (omega (arith, c.if-at-symbols.false)) ∙ ap (λ b. b || same t.terminal T.OpenBracket) (sym c.eq.ensures ∙ c.if-eq.true))

pub returns-else-eq : goal.returns-else-eq
returns-else-eq c =
    let t : Lexeme = see c.args.source.now (slice_index_or c.args.symbols.now c.args.at blank) in
    c.eq-else-eq.ensures
    ∙ sym (leads_there (see c.args.source.now) c.args.symbols.now c.args.at blank (omega (arith, c.if-at-symbols.false)) ∙ ap (λ b. b || same t.terminal T.OpenBracket) (sym c.eq.ensures ∙ c.if-eq.false))
