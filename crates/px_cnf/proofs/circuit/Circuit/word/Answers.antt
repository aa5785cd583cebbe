use Rattle.std.proofs.Common.{List, ℕ, ◌+◌, ◌%◌, ◌^◌, sym, subst, ap₂, ◌∙◌, arith}
use Rattle.std.specs.Prelude.{flat_map}
use Rattle.std.proofs.lemmas.Result.{IfOk-weaker}
use Rattle.px_terms.specs.Terms.{Term, value_at}
use Rattle.px_cnf.specs.Bases.{AreKnown}
use Rattle.px_cnf.proofs.circuit.Circuit.word.Goals as goal

pub terms-requires-clause-known : goal.terms-requires-clause-known
terms-requires-clause-known c =
    subst (λ (ts : List Term). AreKnown c.args.base.bits.now (flat_map (λ (t : Term). t.vars) ts)) (sym c.monomials.ensures.value) c.requires.known

pub returns-clause-value : goal.returns-clause-value
returns-clause-value c =
    IfOk-weaker c.word_or.result _ _ (λ z h a w m g.
    h a m ∙ c.in_ok-sum.ensures.value c.constant.result (let f = c.constant.ensures.form.0.constant in let e = c.constant.ensures.value in omega arith) c.in_ok-start.ensures.value a w m g
    ∙ ap₂ (λ (k : ℕ) (ts : List Term). (k + value_at w ts) % 2 ^ 32) c.constant.ensures.value c.monomials.ensures.value)
    c.word_or.ensures.value
