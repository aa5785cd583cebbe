use Rattle.std.proofs.Common.{◌≡◌, ◌+◌, ◌*◌, ◌^◌, List, take, subst, sym, arith}
use Rattle.px_cnf.specs.declared.literal.Literal.{Literal}
use Rattle.px_cnf.specs.Clauses.{holds}
use Rattle.px_cnf.specs.Circuits.{gates_of}
use Rattle.px_cnf.specs.Words.{bit, number}
use Rattle.px_cnf.proofs.Growing.{grows_twice}
use Rattle.px_cnf.proofs.Sums.{sum_next, sum_at_end, length_pushed, below_pushed}
use Rattle.px_cnf.proofs.circuit.Circuit.sum.Goals as goal

pub loop-i-preserved : goal.loop-i-preserved
loop-i-preserved c =
    let v = c.loop-i.invariant in
    record {
      grows = grows_twice (gates_of c.args.self.now) (gates_of c.loop-i.self) (gates_of c.add.new.self) v.grows c.in_ok-bits.ensures.grows;
      inside = below_pushed c.loop-i.self.variables c.add.new.self.variables c.loop-i.sum.items _ c.in_ok-bits.bits.0 c.in_ok-push.ensures.items c.in_ok-bits.ensures.grows.variables v.inside c.in_ok-bits.ensures.inside.0;
      size = length_pushed c.loop-i.sum.items _ c.in_ok-bits.bits.0 c.loop-i.i c.in_ok-push.ensures.items v.size;
      carried = c.in_ok-bits.ensures.inside.1;
      value = λ a m.
          subst (λ (z : List Literal). number a z + 2 ^ (c.loop-i.i + 1) * bit (holds a c.in_ok-bits.bits.1) ≡ number a (take (c.loop-i.i + 1) c.args.x.now) + number a (take (c.loop-i.i + 1) c.args.y.now) + bit (holds a c.args.carry)) (sym c.in_ok-push.ensures.items)
          (sum_next a c.args.x.now c.args.y.now c.loop-i.sum.items c.in_ok-bits.bits.0 c.in_ok-bits.bits.1 c.loop-i.carried c.args.carry c.loop-i.i _ c.loop-i-test.true (let s = c.requires.size in omega arith) v.size
          (c.in_ok-bits.ensures.value a m) (v.value a (c.in_ok-bits.ensures.grows.clauses a m)));
    }

pub returns-clause-value : goal.returns-clause-value
returns-clause-value c a m =
    sum_at_end a c.args.x.now c.args.y.now c.loop-i.sum.items c.loop-i.carried c.args.carry c.loop-i.i c.loop-i-test.false c.loop-i.auto.i-end c.requires.size c.loop-i.invariant.size (c.loop-i.invariant.value a m)
