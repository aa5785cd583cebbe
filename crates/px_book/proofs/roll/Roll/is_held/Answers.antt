use Rattle.std.proofs.Common.{◌≡◌, ◌↔◌, ℕ, List, Option, true, false, subst}
use Rattle.px_pieces.specs.declared.desk.Status.{Status}
use Rattle.px_pieces.specs.Desk.{IsHeldUnder}
use Rattle.px_book.specs.Ready.{status_at}
use Rattle.px_book.specs.Rolls.{RollParts, statuses_of}
use Rattle.px_book.proofs.RollLemmas.{decides_held}
use Rattle.px_book.proofs.roll.Roll.is_held.Goals as goal

pub returns : goal.returns
returns c =
    let i = c.self.inside in
    let b = c.some_held.result in
    let h = c.some_held.ensures in
    let e = c.deref.ensures.value in
    subst (λ (z : RollParts). (b ≡ true) ↔ ((ticket f : ℕ) × IsHeldUnder (statuses_of z) ticket f)) c.self.view_is
    (decides_held i.graph i.callers i.out i.statuses.items i.ready i.held.items i.history.items c.self.invariant.0 b
    (subst (λ (z : List (Option Status)). b ≡ true → (ticket f : ℕ) × IsHeldUnder (status_at z) ticket f) e h.some)
    (subst (λ (z : List (Option Status)). b ≡ false → (ticket f : ℕ) → ¬ IsHeldUnder (status_at z) ticket f) e h.none))
