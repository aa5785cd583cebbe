use Rattle.std.proofs.Common.{◌≡◌, ◌↔◌, ℕ, List, Option, true, false, subst}
use Rattle.px_pieces.specs.declared.desk.Status.{Status}
use Rattle.px_book.specs.Ready.{status_at, is_unsettled}
use Rattle.px_book.specs.Rolls.{RollParts, AllSettled}
use Rattle.px_book.proofs.RollLemmas.{decides_settled}
use Rattle.px_book.proofs.roll.Roll.is_done.Goals as goal

pub returns : goal.returns
returns c =
    let i = c.self.inside in
    let b = c.none_unsettled.result in
    let h = c.none_unsettled.ensures in
    let e = c.deref.ensures.value in
    subst (λ (z : RollParts). (b ≡ true) ↔ AllSettled z) c.self.view_is
    (decides_settled i.graph i.callers i.out i.statuses.items i.ready i.held.items i.history.items c.self.invariant.0 b
    (subst (λ (z : List (Option Status)). b ≡ true → (f : ℕ) → is_unsettled (status_at z f) ≡ false) e h.all)
    (subst (λ (z : List (Option Status)). b ≡ false → (f : ℕ) × (is_unsettled (status_at z f) ≡ true)) e h.some))
