use Rattle.std.proofs.Common.{subst}
use Rattle.std.specs.Prelude.{All}
use Rattle.std.proofs.lemmas.List.Elements.{All-more, All-map}
use Rattle.px_terms.specs.Terms.{Term}
use Rattle.px_terms.specs.Monomials.{term_of}
use Rattle.px_terms.specs.declared.monomial.Monomial.{Monomial}
use Rattle.px_terms.specs.Conjuncts.{IsIntVariable}
use Rattle.px_plain.proofs.Options.{checked_all, parts_all}
use Rattle.part_cases.proofs.terms.sorts.is_int_sum.Goals as goal

pub loop-m-preserved : goal.loop-m-preserved
loop-m-preserved c =
    let P = λ (m : Monomial 4). All (IsIntVariable c.args.vars.now) (term_of m).vars in
    All-more P c.monomials-m-items.result.now c.loop-m.m-index c.m-item.result c.loop-m-test.true c.loop-m.invariant
    (subst P c.m-item.is (subst (All (IsIntVariable c.args.vars.now)) c.vars.ensures (c.are_ints.ensures c.if-not-are_ints.false)))

pub returns : goal.returns
returns c = λ e.
    let P = λ (m : Monomial 4). All (IsIntVariable c.args.vars.now) (term_of m).vars in
    let Q = λ (t : Term). All (IsIntVariable c.args.vars.now) t.vars in
    let ms = c.monomials-m-items.result.now in
    parts_all (IsIntVariable c.args.vars.now) (λ (t : Term). t.vars) c.args.p.now.monomials
    (subst (All Q) c.monomials-m-items.ensures.value
    (All-map Q (term_of {n = 4}) ms (checked_all P ms c.loop-m.m-index c.loop-m-test.false c.loop-m.invariant)))
