use Rattle.std.proofs.Common.{refl, subst}
use Rattle.px_plain.specs.Joins.{JoinsWords}
use Rattle.px_terms.proofs.Tests.{never_both}
use Rattle.px_plain.proofs.changes.change_words.Goals as goal

pub returns-then-difference : goal.returns-then-difference
returns-then-difference c = record {
  equal = λ e. (subst (λ z. JoinsWords c.args.table.now z c.args.difference c.join.new.table c.join.result) c.deref.ensures.value c.join.ensures, refl);
  unequal = λ e. absurd (never_both c.args.difference.equal c.if-difference.true e);
}
