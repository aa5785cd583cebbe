use Rattle.std.proofs.Common.{◌≡◌, ◌+◌, ◌*◌, List, take, subst, sym}
use Rattle.px_cnf.specs.declared.literal.Literal.{Literal}
use Rattle.px_cnf.specs.Clauses.{holds}
use Rattle.px_cnf.specs.Circuits.{gates_of}
use Rattle.px_cnf.specs.Words.{bit, number}
use Rattle.px_cnf.proofs.Growing.{grows_twice}
use Rattle.px_cnf.proofs.Sums.{masked_next, length_pushed, below_pushed}
use Rattle.px_cnf.proofs.circuit.Circuit.masked.Goals as goal

pub loop-i-preserved : goal.loop-i-preserved
loop-i-preserved c =
    let v = c.loop-i.invariant in
    record {
      grows = grows_twice (gates_of c.args.self.now) (gates_of c.loop-i.self) (gates_of c.both.new.self) v.grows c.in_ok-bit.ensures.grows;
      inside = below_pushed c.loop-i.self.variables c.both.new.self.variables c.loop-i.masked.items _ c.in_ok-bit.bit c.in_ok-push.ensures.items c.in_ok-bit.ensures.grows.variables v.inside c.in_ok-bit.ensures.inside;
      size = length_pushed c.loop-i.masked.items _ c.in_ok-bit.bit c.loop-i.i c.in_ok-push.ensures.items v.size;
      value = λ a m.
          subst (λ (z : List Literal). number a z ≡ bit (holds a c.args.p) * number a (take (c.loop-i.i + 1) c.args.y.now)) (sym c.in_ok-push.ensures.items)
          (masked_next a c.args.y.now c.loop-i.masked.items c.args.p c.in_ok-bit.bit c.loop-i.i _ c.loop-i-test.true v.size (c.in_ok-bit.ensures.value a m) (v.value a (c.in_ok-bit.ensures.grows.clauses a m)));
    }
