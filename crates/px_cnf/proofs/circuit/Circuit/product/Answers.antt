use Rattle.std.proofs.Common.{◌+◌, length, ap, ◌∙◌, arith}
use Rattle.std.proofs.lemmas.List.{length-take-le}
use Rattle.px_cnf.specs.Circuits.{gates_of}
use Rattle.px_cnf.proofs.Growing.{grows_twice}
use Rattle.px_cnf.proofs.Sums.{product_next, product_at_end}
use Rattle.px_cnf.proofs.circuit.Circuit.product.Goals as goal

pub loop-k-preserved : goal.loop-k-preserved
loop-k-preserved c =
    let v = c.loop-k.invariant in
    let size = c.in_ok-row.ensures.size ∙ length-take-le (c.loop-k.k + 1) c.args.y.now (let s = c.requires.size in let t = c.loop-k-test.true in omega arith) in
    record {
      grows = grows_twice (gates_of c.args.self.now) (gates_of c.loop-k.self) (gates_of c.doubled.new.self) v.grows
          (grows_twice (gates_of c.loop-k.self) (gates_of c.masked.new.self) (gates_of c.doubled.new.self) c.in_ok-row.ensures.grows c.in_ok-product.ensures.grows);
      inside = c.in_ok-product.ensures.inside;
      size = c.in_ok-product.ensures.size ∙ ap length c.deref-in-loop-k.ensures.value ∙ size;
      value = λ a m.
          product_next a c.args.x.now c.args.y.now c.loop-k.product.items c.in_ok-row.row.items c.in_ok-product.product.items c.loop-k.k _ c.loop-k-test.true c.requires.size
          (c.in_ok-row.ensures.value a (c.in_ok-product.ensures.grows.clauses a m)) size
          (rw (c.deref.ensures.value, c.deref-in-loop-k.ensures.value) at (c.in_ok-product.ensures.value a m))
          (v.value a (c.in_ok-row.ensures.grows.clauses a (c.in_ok-product.ensures.grows.clauses a m)));
    }

pub returns-clause-value : goal.returns-clause-value
returns-clause-value c a m =
    product_at_end a c.args.x.now c.args.y.now c.loop-k.product.items c.loop-k.k c.loop-k-test.false c.loop-k.auto.k-end (c.loop-k.invariant.value a m)
