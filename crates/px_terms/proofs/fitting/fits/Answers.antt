use Rattle.std.proofs.Common.{◌∙◌, refl, sym, arith}
use Rattle.px_terms.proofs.FitLemmas.{fits_from, fits_to}
use Rattle.px_terms.proofs.fitting.fits.Goals as goal

pub returns-then-not-fits_at : goal.returns-then-not-fits_at
returns-then-not-fits_at c = (
  λ e. cc,
  λ f. sym c.if-not-fits_at.true ∙ c.fits_at.ensures.1 (fits_to c.args.vars.now c.args.values.now f.fits c.loop-x.x c.loop-x-test.true),
)

pub returns : goal.returns
returns c =
    let end = c.loop-x-test.false in (
      λ e. record { size = c.if-values-vars.false; fits = fits_from c.args.vars.now c.args.values.now (λ k l. c.loop-x.invariant k (omega arith)) },
      λ f. refl,
    )
