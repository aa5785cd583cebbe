use Rattle.std.proofs.Common.{refl}
use Rattle.px_terms.specs.Valuations.{valuation_of}
use Rattle.px_terms.specs.Conjuncts.{IsTrueUnder}
use Rattle.px_check.proofs.ValueLemmas.{apart_stops, apart_goes, apart_ends}
use Rattle.px_check.proofs.separate.is_apart_from.Goals as goal

pub returns-then-not-is_apart : goal.returns-then-not-is_apart
returns-then-not-is_apart c = (
  λ e. cc,
  λ h. absurd (apart_stops (IsTrueUnder (valuation_of c.args.values.now)) c.args.vars.now c.args.atom.now c.args.earlier.now c.loop-i.i c.index-earlier-i.result c.is_apart.result c.loop-i-test.true c.index-earlier-i.is c.is_apart.ensures c.if-not-is_apart.true c.loop-i.invariant h),
)

pub loop-i-preserved : goal.loop-i-preserved
loop-i-preserved c = apart_goes (IsTrueUnder (valuation_of c.args.values.now)) c.args.vars.now c.args.atom.now c.args.earlier.now c.loop-i.i c.index-earlier-i.result c.is_apart.result c.loop-i-test.true c.index-earlier-i.is c.is_apart.ensures c.if-not-is_apart.false c.loop-i.invariant

pub returns : goal.returns
returns c = (λ e. apart_ends (IsTrueUnder (valuation_of c.args.values.now)) c.args.vars.now c.args.atom.now c.args.earlier.now c.loop-i.i c.loop-i-test.false c.loop-i.invariant, λ h. refl)
