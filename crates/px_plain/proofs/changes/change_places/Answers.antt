use Rattle.std.proofs.Common.{refl, subst}
use Rattle.px_plain.specs.Joins.{JoinsPlaces}
use Rattle.px_terms.proofs.Tests.{never_both}
use Rattle.px_plain.proofs.changes.change_places.Goals as goal

pub returns-then-difference : goal.returns-then-difference
returns-then-difference c = record {
  equal = λ e. (subst (λ z. JoinsPlaces c.args.vars.now c.args.owners.now c.args.table.now z c.args.difference c.merge.new.table c.merge.result) c.deref.ensures.value c.merge.ensures, refl);
  unequal = λ e. absurd (never_both c.args.difference.equal c.if-difference.true e);
}
