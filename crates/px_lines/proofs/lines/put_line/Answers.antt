use Rattle.px_lines.proofs.LineLemmas.{rose_after, prefix_front, prefix_after, on_err}
use Rattle.px_terms.proofs.Outcomes.{err_any}
use Rattle.px_lines.proofs.lines.put_line.Goals as goal

pub returns-in_err-write_all-2-clause-part : goal.returns-in_err-write_all-2-clause-part
returns-in_err-write_all-2-clause-part g c = err_any c.from_residual-in_err-write_all-2.result (
  rose_after _ _ _ c.in_ok-write_all.ensures.cause.unfailed c.in_err-write_all-2.ensures.cause.failed,
  prefix_after _ _ _ _ _ c.in_ok-write_all.ensures.all (prefix_front _ _ c.args.name.now c.args.after.now c.in_err-write_all-2.ensures.part),
)

pub returns-clause-part : goal.returns-clause-part
returns-clause-part g c = on_err c.write_all-3.result c.write_all-3.ensures.cause.failed c.write_all-3.ensures.part (λ rose part. (
  rose_after _ _ _ c.in_ok-write_all.ensures.cause.unfailed (rose_after _ _ _ c.in_ok-write_all-2.ensures.cause.unfailed rose),
  prefix_after _ _ _ _ _ c.in_ok-write_all.ensures.all (prefix_after _ _ _ _ _ c.in_ok-write_all-2.ensures.all part),
))
