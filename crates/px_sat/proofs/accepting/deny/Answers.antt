use Rattle.std.proofs.Common.{false, refl, arith, inl}
use Rattle.px_sat.specs.Denials.{none_yet}
use Rattle.px_sat.proofs.AcceptLemmas.{denied_next, true_before}
use Rattle.px_sat.proofs.accepting.deny.Goals as goal

pub loop-literal-init : goal.loop-literal-init
loop-literal-init c = record {
  denies = none_yet refl;
  all = λ m (i, h, e). absurd (omega arith);
  only = λ k t. inl t;
}

pub returns-then-is_true-clause-some_true : goal.returns-then-is_true-clause-some_true
returns-then-is_true-clause-some_true c = λ _.
    true_before c.args.clause.now c.args.trail.now c.loop-literal.trail c.loop-literal.literal-index (record { variable = 0; positive = false }) c.requires (let t = c.loop-literal-test.true in omega arith) c.loop-literal.invariant.only (c.is_true.ensures.0 c.if-is_true.true)

pub loop-literal-preserved : goal.loop-literal-preserved
loop-literal-preserved c =
    let r = denied_next c.args.clause.now c.args.trail.now c.loop-literal.literal-index (record { variable = 0; positive = false }) (let t = c.loop-literal-test.true in omega arith)
    c.loop-literal.trail c.set_false.new.trail c.loop-literal.invariant.denies c.loop-literal.invariant.all c.loop-literal.invariant.only c.in_ok-set_false.ensures in
    record { denies = r.0; all = r.1; only = r.2 }
