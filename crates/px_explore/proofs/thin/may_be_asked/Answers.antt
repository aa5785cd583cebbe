use Rattle.std.proofs.Common.{ap, sym, ◌∙◌}
use Rattle.px_entry.specs.Sorts.{is_well_sorted}
use Rattle.px_explore.proofs.thin.may_be_asked.Goals as goal

pub returns-clause-pure : goal.returns-clause-pure
returns-clause-pure c = λ yes. c.is_small.ensures.pure c.if-not-is_small.false

pub returns-clause-atoms : goal.returns-clause-atoms
returns-clause-atoms c = λ yes. c.is_small.ensures.atoms c.if-not-is_small.false

pub returns-clause-sorted : goal.returns-clause-sorted
returns-clause-sorted c = λ yes. ap (λ z. is_well_sorted z c.args.conjunct.now) (sym c.as_slice.ensures) ∙ sym c.is_well_sorted.ensures ∙ c.if-not-is_well_sorted.false
