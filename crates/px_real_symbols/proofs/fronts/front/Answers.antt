use Rattle.std.proofs.Common.{sym, ◌∙◌}
use Rattle.std.proofs.lemmas.Bool.{not-false, not-true}
use Rattle.px_real_symbols.proofs.FrontLemmas.{front_of, no_front}
use Rattle.px_real_symbols.proofs.fronts.front.Goals as goal

pub returns-then-ne : goal.returns-then-ne
returns-then-ne c = no_front c.args.terminal _ _ c.in_ok-symbol.ensures (not-true _ (sym c.ne.ensures ∙ c.if-ne.true))

pub returns : goal.returns
returns c = front_of c.args.terminal _ _ c.in_ok-symbol.ensures (not-false _ (sym c.ne.ensures ∙ c.if-ne.false))
