use Rattle.std.proofs.Common.{sym, ap, ◌∙◌}
use Rattle.px_parity.specs.Held.{last_mark}
use Rattle.px_parity.proofs.Holding.{refuted_exactly}
use Rattle.px_parity.proofs.parity.ParityDomain.refuted.Goals as goal

pub returns : goal.returns
returns c = λ cs h.
    let same = ap last_mark c.deref.ensures.value in
    let exactly = refuted_exactly c.args.self.now.pivots.items c.args.self.now.marks.items cs h in (
      λ e. exactly.0 (sym same ∙ c.is_refuted.ensures.0 e),
      λ r. c.is_refuted.ensures.1 (same ∙ exactly.1 r),
    )
