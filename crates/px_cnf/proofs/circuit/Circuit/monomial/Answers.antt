use Rattle.std.proofs.Common.{sym, subst, ◌∙◌, arith}
use Rattle.std.proofs.lemmas.Result.{IfOk-weaker}
use Rattle.px_terms.specs.Monomials.{term_of}
use Rattle.px_cnf.specs.Circuits.{gates_of}
use Rattle.px_cnf.specs.Bases.{AreKnown}
use Rattle.px_cnf.proofs.Growing.{grows_none, grows_twice}
use Rattle.px_cnf.proofs.BaseLemmas.{number_or_small, known_at, no_factors, factors_next, factors_end}
use Rattle.px_cnf.proofs.circuit.Circuit.monomial.Goals as goal

pub loop-i-init : goal.loop-i-init
loop-i-init c = record {
  grows = grows_none (gates_of c.args.self.now) c.requires.base.circuit;
  word = c.in_ok-word.ensures.word;
  value = λ a w m g. no_factors _ _ (number_or_small (gates_of c.args.self.now) 1 c.in_ok-word.word a (omega arith) c.in_ok-word.ensures.word) (c.in_ok-word.ensures.value a m ∙ c.coefficient.ensures);
}

pub loop-i-preserved : goal.loop-i-preserved
loop-i-preserved c =
    let v = c.loop-i.invariant in
    record {
      grows = grows_twice (gates_of c.args.self.now) (gates_of c.loop-i.self) (gates_of c.times.new.self) v.grows c.in_ok-product.ensures.grows;
      word = c.in_ok-product.ensures.word;
      value = λ a w m g.
          factors_next w c.vars-vars.result.now c.loop-i.i _ _ _ _ c.loop-i-test.true (c.in_ok-product.ensures.value a m) (v.value a w (c.in_ok-product.ensures.grows.clauses a m) g)
          (c.in_ok-by.ensures.value a w (c.in_ok-product.ensures.grows.clauses a m) g);
    }

pub variable-requires-clause-known : goal.variable-requires-clause-known
variable-requires-clause-known c =
    known_at c.args.base.bits.now c.vars-vars.result.now c.loop-i.i 0 c.loop-i-test.true (subst (AreKnown c.args.base.bits.now) (sym c.vars-vars.ensures) c.requires.known)

pub returns-clause-value : goal.returns-clause-value
returns-clause-value c =
    IfOk-weaker c.word_or.result _ _ (λ z h a w m g.
    factors_end w c.vars-vars.result.now (term_of c.args.m.now).vars c.loop-i.i (term_of c.args.m.now).coefficient _ _ c.loop-i-test.false c.vars-vars.ensures (h a m) (c.loop-i.invariant.value a w m g))
    c.word_or.ensures.value
