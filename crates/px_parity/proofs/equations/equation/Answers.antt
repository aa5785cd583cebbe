use Rattle.std.proofs.Common.{◌≡◌, ◌+◌, ◌<◌, ◌≤◌, length, map, ap, ◌∙◌, arith}
use Rattle.std.proofs.lemmas.List.{take_all}
use Rattle.px_terms.specs.Terms.{Term, value_at}
use Rattle.px_terms.specs.Monomials.{term_of}
use Rattle.px_parity.specs.Equations.{odd, column_of}
use Rattle.px_parity.proofs.Sums.{at_term, says_more}
use Rattle.px_parity.proofs.equations.equation.Goals as goal

pub loop-term-init : goal.loop-term-init
loop-term-init c =
    let e = c.constant.ensures.value in
    let f : c.constant.result ≡ c.args.p.now.constant + 0 = omega arith in
    record { size = c.in_ok-row.ensures.size; says = λ v. c.in_ok-row.ensures.value v ∙ ap odd f }

pub add_term-requires-clause-linear : goal.add_term-requires-clause-linear
add_term-requires-clause-linear c =
    at_term (λ (t : Term). length t.vars ≤ 1) c.monomials-term-items.result.now c.args.p.now.monomials c.loop-term.term-index c.term-item.result c.monomials-term-items.ensures.value c.requires.linear c.loop-term-test.true c.term-item.is

pub add_term-requires-clause-small : goal.add_term-requires-clause-small
add_term-requires-clause-small c =
    at_term (λ (t : Term). column_of t.vars < 65537) c.monomials-term-items.result.now c.args.p.now.monomials c.loop-term.term-index c.term-item.result c.monomials-term-items.ensures.value c.requires.few c.loop-term-test.true c.term-item.is

pub add_term-requires-clause-inside : goal.add_term-requires-clause-inside
add_term-requires-clause-inside c =
    let l : column_of (term_of c.term-item.result).vars < c.last_column-last.result + 1 = at_term (λ (t : Term). column_of t.vars < c.last_column-last.result + 1) c.monomials-term-items.result.now c.args.p.now.monomials c.loop-term.term-index c.term-item.result c.monomials-term-items.ensures.value c.last_column-last.ensures.last c.loop-term-test.true c.term-item.is in
    omega arith

pub loop-term-preserved : goal.loop-term-preserved
loop-term-preserved c = record {
  size = c.add_term.ensures.size ∙ c.loop-term.invariant.size;
  says = λ v. says_more v c.monomials-term-items.result.now c.loop-term.term-index c.term-item.result c.args.p.now.constant _ _ c.loop-term-test.true c.term-item.is (c.loop-term.invariant.says v) (c.add_term.ensures.sum v);
}

pub returns : goal.returns
returns c = λ v.
    c.loop-term.invariant.says v
    ∙ ap (λ z. odd (c.args.p.now.constant + value_at v (map (term_of {n = 4}) z))) (take_all c.loop-term.term-index c.monomials-term-items.result.now c.loop-term-test.false)
    ∙ ap (λ z. odd (c.args.p.now.constant + value_at v z)) c.monomials-term-items.ensures.value
