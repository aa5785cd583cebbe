use Rattle.std.proofs.Common.{sym, ◌∙◌}
use Rattle.px_terms.specs.Valuations.{valuation_of}
use Rattle.px_terms.specs.Conjuncts.{IsTrueUnder}
use Rattle.px_check.proofs.ValueLemmas.{own_apart}
use Rattle.px_check.proofs.separate.is_its_own.Goals as goal

pub returns : goal.returns
returns c =
    own_apart (IsTrueUnder (valuation_of c.args.values.now)) c.args.vars.now c.args.earlier.now c.args.atom.now c.is_apart_from.result (sym c.is_made.ensures ∙ c.if-is_made.false)
    (c.is_not_null.ensures.0 c.if-not-is_not_null.false) c.is_apart_from.ensures
