use Rattle.std.proofs.Common.{List, ◌+◌, ◌-◌, ◌%◌, ◌^◌, refl, sym, subst, ap, ◌∙◌, arith}
use Rattle.std.specs.Prelude.{flat_map}
use Rattle.std.proofs.lemmas.Result.{IfOk-weaker}
use Rattle.px_terms.specs.Terms.{Term, value_at}
use Rattle.px_cnf.specs.Clauses.{AreBelow}
use Rattle.px_cnf.specs.Words.{matching}
use Rattle.px_cnf.specs.Bases.{AreKnown}
use Rattle.px_cnf.proofs.Matching.{below_matching}
use Rattle.px_cnf.proofs.BaseLemmas.{zero_matched}
use Rattle.px_cnf.proofs.circuit.Circuit.zero.Goals as goal

pub terms-requires-clause-known : goal.terms-requires-clause-known
terms-requires-clause-known c =
    subst (λ (ts : List Term). AreKnown c.args.base.bits.now (flat_map (λ (t : Term). t.vars) ts)) (sym c.monomials.ensures.value) c.requires.known

pub returns-clause-inside : goal.returns-clause-inside
returns-clause-inside c =
    IfOk-weaker c.matching.result _ _ (λ z e.
    subst (AreBelow c.terms.new.self.variables) (sym (e ∙ ap (λ ls. matching ls c.opposite.result) c.deref.ensures.value)) (below_matching c.terms.new.self.variables c.in_ok-word.word.items c.opposite.result c.in_ok-word.ensures.word.below))
    c.matching.ensures

pub returns-clause-value : goal.returns-clause-value
returns-clause-value c =
    IfOk-weaker c.matching.result _ _ (λ z e a w m g.
    zero_matched a c.in_ok-word.word.items z.items c.args.p.now.constant (value_at w c.args.p.now.monomials) c.opposite.result c.in_ok-word.ensures.word.size (e ∙ ap (λ ls. matching ls c.opposite.result) c.deref.ensures.value)
    c.constant.ensures.form.0.constant
    (c.in_ok-word.ensures.value a m ∙ c.in_ok-sum.ensures.value 0 (omega arith) (λ b n. refl) a w m g ∙ ap (λ (ts : List Term). (0 + value_at w ts) % 2 ^ 32) c.monomials.ensures.value)
    (c.opposite.ensures ∙ ap (λ n. (2 ^ 32 - n) % 2 ^ 32) c.constant.ensures.value))
    c.matching.ensures
