use Rattle.std.proofs.Common.{◌≤◌, length, refl, ap, subst, arith}
use Rattle.std.proofs.lemmas.List.Elements.{All-more}
use Rattle.px_terms.specs.Terms.{Term}
use Rattle.px_terms.specs.Monomials.{term_of}
use Rattle.px_terms.specs.declared.monomial.Monomial.{Monomial}
use Rattle.px_parity.proofs.Sums.{at_term, all_terms}
use Rattle.px_parity.proofs.equations.is_linear.Goals as goal

pub returns-then-vars-gt1 : goal.returns-then-vars-gt1
returns-then-vars-gt1 c = (
  λ e. absurd cc,
  λ h.
      let e = ap length c.vars.ensures in
      let l : length (term_of c.term-item.result).vars ≤ 1 = at_term (λ (t : Term). length t.vars ≤ 1) c.monomials-term-items.result.now c.args.p.now.monomials c.loop-term.term-index c.term-item.result c.monomials-term-items.ensures.value h c.loop-term-test.true c.term-item.is in
      absurd (omega arith),
)

pub loop-term-preserved : goal.loop-term-preserved
loop-term-preserved c =
    let P = λ (m : Monomial 4). length (term_of m).vars ≤ 1 in
    let e = ap length c.vars.ensures in
    let l : length (term_of c.term-item.result).vars ≤ 1 = omega arith in
    All-more P c.monomials-term-items.result.now c.loop-term.term-index c.term-item.result c.loop-term-test.true c.loop-term.invariant (subst P c.term-item.is l)

pub returns : goal.returns
returns c = (
  λ e. all_terms (λ (t : Term). length t.vars ≤ 1) c.monomials-term-items.result.now c.args.p.now.monomials c.loop-term.term-index c.monomials-term-items.ensures.value c.loop-term-test.false c.loop-term.invariant,
  λ h. refl,
)
