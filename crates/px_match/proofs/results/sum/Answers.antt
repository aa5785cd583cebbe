use Rattle.px_terms.specs.Polynomials.{sum_of}
use Rattle.px_match.proofs.Lengths.{is_kept}
use Rattle.px_match.proofs.results.sum.Goals as goal

pub returns-in-Ok : goal.returns-in-Ok
returns-in-Ok c = is_kept c.in-Ok.sum (sum_of c.args.p.now c.args.q.now) c.in-Ok.ensures.form c.in-Ok.ensures.short
