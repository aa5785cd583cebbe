use Rattle.std.proofs.Common.{◌≡◌, true, false, ◌∷◌, [], refl, sym, ◌∙◌}
use Rattle.px_sat.proofs.AcceptLemmas.{refuted_follows, refuted_more}
use Rattle.px_sat.proofs.accepting.Checker.take.Goals as goal

pub returns-then-self-clause-answer : goal.returns-then-self-clause-answer
returns-then-self-clause-answer c = λ all k. (λ _. (c.in_ok-is_clause.ensures.0 c.if-not-branch.false, refuted_follows all c.args.clause.now (k.refuted c.if-self.true)), λ _. refl)

pub returns-then-self-clause-taken : goal.returns-then-self-clause-taken
returns-then-self-clause-taken c = λ all k _. record {
  same = λ f. let e : true ≡ false = sym c.if-self.true ∙ f in cc;
  base = λ f. let e : true ≡ false = sym c.if-self.true ∙ f in cc;
  refuted = λ t. refuted_more all (c.args.clause.now ∷ []) (k.refuted t);
}
