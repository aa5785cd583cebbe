use Rattle.std.proofs.Common.{◌≡◌, true, false, refl, sym, ◌∙◌}
use Rattle.std.proofs.lemmas.Bool.{not-false, not-true}
use Rattle.px_real_expressions.specs.Lexemes.{same}
use Rattle.px_real_symbols.proofs.held.close.Goals as goal

pub returns-then-ne : goal.returns-then-ne
returns-then-ne c = λ t ts h.
    let e : same c.args.terminal c.args.brackets.now.last ≡ false = not-true _ (sym c.ne.ensures ∙ c.if-ne.true) in
    rw (h, e) refl

pub returns-in-Some : goal.returns-in-Some
returns-in-Some c = λ t ts h.
    let e : same c.args.terminal c.args.brackets.now.last ≡ true = not-false _ (sym c.ne.ensures ∙ c.if-ne.false) in
    rw (h, e, c.in-Some.ensures.some) refl

pub returns-in-None : goal.returns-in-None
returns-in-None c = λ t ts h.
    let e : same c.args.terminal c.args.brackets.now.last ≡ true = not-false _ (sym c.ne.ensures ∙ c.if-ne.false) in
    rw (h, e, c.in-None.ensures.none.0) refl
