use Rattle.std.proofs.Common.{◌≡◌, true, sym, ◌∙◌}
use Rattle.std.proofs.lemmas.Bool.{not-false}
use Rattle.px_expressions.specs.Lexemes.{same}
use Rattle.px_expressions.proofs.FrontLemmas.{front_kept}
use Rattle.px_expressions.proofs.fronts.front.Goals as goal

pub returns : goal.returns
returns c =
    let e : same c.args.input.terminal c.args.terminal ≡ true = not-false _ (sym c.ne.ensures ∙ c.if-ne.false) in
    rw (c.new.ensures.reads, c.new.ensures.same_source) (front_kept c.args.terminal c.args.input _ _ e c.in_ok-symbol.ensures.some)
