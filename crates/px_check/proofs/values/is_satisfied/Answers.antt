use Rattle.px_check.proofs.EndLemmas.{satisfied_by, untrue_by}
use Rattle.px_check.proofs.values.is_satisfied.Goals as goal

pub returns-then-are_true : goal.returns-then-are_true
returns-then-are_true c =
    satisfied_by c.args.entry.now c.as_slice-vars.result.now c.as_slice-values.result.now c.as_slice.result.now c.as_slice-vars.ensures c.as_slice-values.ensures c.as_slice.ensures
    c.as_slice-then-are_true.result.now c.are_separate.result c.as_slice-then-are_true.ensures (c.fits.ensures.0 c.if-fits.true) (c.are_true.ensures.0 c.if-are_true.true) c.are_separate.ensures

pub returns-else-are_true : goal.returns-else-are_true
returns-else-are_true c =
    untrue_by c.args.entry.now c.as_slice-vars.result.now c.as_slice-values.result.now c.as_slice.result.now c.as_slice-vars.ensures c.as_slice-values.ensures c.as_slice.ensures
    c.are_true.result c.if-are_true.false c.are_true.ensures
