use Rattle.std.proofs.Common.{◌<◌, ◌+◌, take, subst, arith}
use Rattle.std.specs.Prelude.{All}
use Rattle.std.proofs.lemmas.List.Elements.{All-more}
use Rattle.px_terms.specs.Terms.{Term}
use Rattle.px_terms.specs.Monomials.{term_of}
use Rattle.px_terms.specs.declared.monomial.Monomial.{Monomial}
use Rattle.px_parity.specs.Equations.{column_of}
use Rattle.px_parity.proofs.Sums.{at_term, all_terms}
use Rattle.px_parity.proofs.equations.last_column.Goals as goal

pub column-requires : goal.column-requires
column-requires c =
    at_term (λ (t : Term). column_of t.vars < 65537) c.monomials-term-items.result.now c.args.p.now.monomials c.loop-term.term-index c.term-item.result c.monomials-term-items.ensures.value c.requires c.loop-term-test.true c.term-item.is

pub loop-term-preserved : goal.loop-term-preserved
loop-term-preserved c =
    let items = c.monomials-term-items.result.now in
    let P : Monomial 4 → Type 0 = λ m. column_of (term_of m).vars < c.max-last.result + 1 in
    let small : column_of (term_of c.term-item.result).vars < 65537 = at_term (λ (t : Term). column_of t.vars < 65537) items c.args.p.now.monomials c.loop-term.term-index c.term-item.result c.monomials-term-items.ensures.value c.requires c.loop-term-test.true c.term-item.is in
    let here : P c.term-item.result = omega arith in
    let before : All P (take c.loop-term.term-index items) = λ k d l. let h = c.loop-term.invariant.last k d l in omega arith in
    record { small = omega arith; last = All-more P items c.loop-term.term-index c.term-item.result c.loop-term-test.true before (subst P c.term-item.is here) }

pub returns-clause-last : goal.returns-clause-last
returns-clause-last c =
    all_terms (λ (t : Term). column_of t.vars < c.loop-term.last + 1) c.monomials-term-items.result.now c.args.p.now.monomials c.loop-term.term-index c.monomials-term-items.ensures.value c.loop-term-test.false c.loop-term.invariant.last
