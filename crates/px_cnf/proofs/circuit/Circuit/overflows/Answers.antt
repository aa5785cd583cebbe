use Rattle.std.proofs.Common.{arith}
use Rattle.px_cnf.specs.Clauses.{holds}
use Rattle.px_cnf.specs.Circuits.{gates_of}
use Rattle.px_cnf.specs.Words.{bit}
use Rattle.px_cnf.proofs.Growing.{grows_twice}
use Rattle.px_cnf.proofs.Sums.{carry_next, carry_at_end}
use Rattle.px_cnf.proofs.circuit.Circuit.overflows.Goals as goal

pub loop-i-preserved : goal.loop-i-preserved
loop-i-preserved c =
    let v = c.loop-i.invariant in
    record {
      grows = grows_twice (gates_of c.args.self.now) (gates_of c.loop-i.self) (gates_of c.carry.new.self) v.grows c.in_ok-above.ensures.grows;
      carried = c.in_ok-above.ensures.inside;
      value = λ a m.
          carry_next a c.args.x.now c.args.y.now c.in_ok-above.above c.loop-i.carried (bit (holds a c.args.carry)) c.loop-i.i _ c.loop-i-test.true (let s = c.requires.size in omega arith)
          (c.in_ok-above.ensures.value a m) (v.value a (c.in_ok-above.ensures.grows.clauses a m));
    }

pub returns-clause-value : goal.returns-clause-value
returns-clause-value c a m =
    carry_at_end a c.args.x.now c.args.y.now c.loop-i.carried (bit (holds a c.args.carry)) c.loop-i.i c.loop-i-test.false c.loop-i.auto.i-end c.requires.size (c.loop-i.invariant.value a m)
