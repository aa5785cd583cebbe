use Rattle.std.proofs.Common.{◌≡◌, ℕ, map, refl}
use Rattle.std.specs.Prelude.{Any}
use Rattle.px_terms.specs.Monomials.{term_of}
use Rattle.px_terms.proofs.Evaluation.{variables_at}
use Rattle.px_cnf.specs.Circuits.{gates_of}
use Rattle.px_cnf.proofs.Growing.{grows_twice}
use Rattle.px_cnf.proofs.BaseLemmas.{summands_next}
use Rattle.px_cnf.proofs.circuit.Circuit.terms.Goals as goal

pub loop-m-preserved : goal.loop-m-preserved
loop-m-preserved c =
    let v = c.loop-m.invariant in
    record {
      grows = grows_twice (gates_of c.args.self.now) (gates_of c.loop-m.self) (gates_of c.plus.new.self) v.grows
          (grows_twice (gates_of c.loop-m.self) (gates_of c.monomial.new.self) (gates_of c.plus.new.self) c.in_ok-by.ensures.grows c.in_ok-sum.ensures.grows);
      word = c.in_ok-sum.ensures.word;
      value = λ n l k a w m g.
          summands_next w c.args.monomials.now c.loop-m.m-index c.m-item.result n _ _ _ c.loop-m-test.true c.m-item.is (c.in_ok-sum.ensures.value a m)
          (v.value n l k a w (c.in_ok-by.ensures.grows.clauses a (c.in_ok-sum.ensures.grows.clauses a m)) g) (c.in_ok-by.ensures.value a w (c.in_ok-sum.ensures.grows.clauses a m) g);
    }

pub monomial-requires-clause-known : goal.monomial-requires-clause-known
monomial-requires-clause-known c =
    variables_at (λ (x : ℕ). Any (λ b. b.0.0 ≡ x) c.args.base.bits.now) c.args.monomials.now c.loop-m.m-index c.m-item.result (map term_of c.args.monomials.now) c.loop-m-test.true c.m-item.is refl c.requires.known
