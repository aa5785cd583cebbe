use Rattle.std.proofs.Common.{ap, sym, ◌∙◌}
use Rattle.std.proofs.lemmas.Bool.{or_parts}
use Rattle.px_entry.specs.Decided.{is_true, decided}
use Rattle.px_explore.proofs.said.may_add.Goals as goal

pub returns-in-None : goal.returns-in-None
returns-in-None c = λ yes. record {
  undecided = ap (λ z. is_true (decided z c.args.conjunct.now)) (sym c.as_slice.ensures) ∙ (or_parts _ _ (sym c.stands.ensures ∙ c.if-stands.false)).0;
  room = sym c.in-None.ensures.first;
}
