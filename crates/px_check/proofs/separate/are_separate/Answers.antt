use Rattle.std.proofs.Common.{refl}
use Rattle.px_terms.specs.Valuations.{valuation_of}
use Rattle.px_terms.specs.Conjuncts.{IsTrueUnder}
use Rattle.px_check.proofs.ValueLemmas.{separate_stops, separate_goes, separate_ends}
use Rattle.px_check.proofs.separate.are_separate.Goals as goal

pub returns-then-not-is_its_own : goal.returns-then-not-is_its_own
returns-then-not-is_its_own c = (
  λ e. cc,
  λ h. absurd (separate_stops (IsTrueUnder (valuation_of c.args.values.now)) c.args.vars.now c.args.atoms.now c.loop-i.i c.index-atoms-i.result c.is_its_own.result c.loop-i-test.true c.index-atoms-i.is c.is_its_own.ensures c.if-not-is_its_own.true c.loop-i.invariant h),
)

pub loop-i-preserved : goal.loop-i-preserved
loop-i-preserved c = separate_goes (IsTrueUnder (valuation_of c.args.values.now)) c.args.vars.now c.args.atoms.now c.loop-i.i c.index-atoms-i.result c.is_its_own.result c.loop-i-test.true c.index-atoms-i.is c.is_its_own.ensures c.if-not-is_its_own.false c.loop-i.invariant

pub returns : goal.returns
returns c = (λ e. separate_ends (IsTrueUnder (valuation_of c.args.values.now)) c.args.vars.now c.args.atoms.now c.loop-i.i c.loop-i-test.false c.loop-i.invariant, λ h. refl)
