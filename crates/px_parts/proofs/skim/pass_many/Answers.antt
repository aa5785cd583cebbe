use Rattle.std.proofs.Common.{arith}
use Rattle.px_parts.proofs.Passing.{passes_less}
use Rattle.px_parts.proofs.skim.pass_many.Goals as goal

pub loop-left-preserved : goal.loop-left-preserved
loop-left-preserved c =
    let before = c.loop-left.invariant in
    record {
      passes = λ dues. passes_less c.args.form c.args.count c.loop-left.left dues c.args.bytes.now c.loop-left.rest.now c.in-Some.after.now (omega (arith, c.loop-left-test.true)) (before.passes dues)
          (λ n. c.in-Some.ensures.passes n dues);
      within = omega (arith, before.within, c.in-Some.ensures.shorter);
      few = omega (arith, before.few);
      shorter = λ less. omega (arith, before.within, c.in-Some.ensures.shorter);
    }
