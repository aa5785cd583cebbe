-- The list of what is held.
use Rattle.std.proofs.Common.{◌≡◌, ◌≢◌, ◌⊎◌, inl, inr, ℕ, ◌+◌, ◌-◌, ◌<◌, ◌≤◌, List, length, get_or, Bool, true, Option, Some, None, refl, sym, ap, subst, ◌∙◌, arith}
use Rattle.std.specs.Prelude.{Contains}
use Rattle.std.proofs.lemmas.Bool.{cases_eq}
use Rattle.std.proofs.lemmas.List.{get_or_default}
use Rattle.px_base.specs.declared.trace.ProcId.{ProcId}
use Rattle.px_pieces.specs.declared.desk.Who.{Who}
use Rattle.px_pieces.specs.declared.desk.Status.{Status}
use Rattle.px_pieces.specs.declared.desk.Status.TheVariants.{Held}
use Rattle.px_pieces.specs.Desk.{IsHeldUnder}
use Rattle.px_book.specs.Ready.{status_at}
use Rattle.px_book.specs.RollKeeping.{AreHeld}
use Rattle.px_book.proofs.ReadyLemmas.{zero_proc}

-- none of the first ones is held under the ticket
abbrev pub NoneUnder : List (Option Status) → List ProcId → ℕ → ℕ → Type 0
NoneUnder statuses held ticket n = (k : ℕ) → k < n → ¬ IsHeldUnder (status_at statuses) ticket (get_or held k zero_proc).0

-- none of the first ones is held
abbrev pub NoneHeld : List (Option Status) → List ProcId → ℕ → Type 0
NoneHeld statuses held n = (k : ℕ) → k < n → (ticket : ℕ) → ¬ IsHeldUnder (status_at statuses) ticket (get_or held k zero_proc).0

same_place : (held : List ProcId) (k f : ℕ) → k < length held → get_or held k (record { 0 = f }) ≡ record { 0 = f } → (get_or held k zero_proc).0 ≡ f
same_place held k f l e = ap (λ (p : ProcId). p.0) (get_or_default held k zero_proc (record { 0 = f }) l ∙ e)

pub none_under : (statuses : List (Option Status)) (held : List ProcId) (ticket n f : ℕ) → AreHeld statuses held → length held ≤ n → NoneUnder statuses held ticket n → ¬ IsHeldUnder (status_at statuses) ticket f
none_under statuses held ticket n f all last none q =
    let ((k, l, e), few) = all f ticket q.who q.losses q.held in
    none k (omega arith) (subst (IsHeldUnder (status_at statuses) ticket) (sym (same_place held k f l e)) q)

pub none_held : (statuses : List (Option Status)) (held : List ProcId) (n : ℕ) → AreHeld statuses held → length held ≤ n → NoneHeld statuses held n → (ticket f : ℕ) → ¬ IsHeldUnder (status_at statuses) ticket f
none_held statuses held n all last none ticket f q =
    let ((k, l, e), few) = all f ticket q.who q.losses q.held in
    none k (omega arith) ticket (subst (IsHeldUnder (status_at statuses) ticket) (sym (same_place held k f l e)) q)

pub held_more : (statuses : List (Option Status)) (held : List ProcId) (n : ℕ) → NoneHeld statuses held n → ((ticket : ℕ) → ¬ IsHeldUnder (status_at statuses) ticket (get_or held n zero_proc).0) →
    NoneHeld statuses held (n + 1)
held_more statuses held n h here k l ticket q = elim (cases_eq k n) [
  | inl e ↦ here ticket (subst (λ z. IsHeldUnder (status_at statuses) ticket (get_or held z zero_proc).0) e q)
  | inr d ↦ h k (omega arith) ticket q
]

-- what remains where the last takes the place of one
pub remains : (old new : List ProcId) (i : ℕ) (p q : ProcId) → get_or old i p ≡ p → i < length old → length new + 1 ≡ length old →
    (((d : ProcId) → i + 1 < length old → get_or new i d ≡ get_or old (length old - 1) d) × ((k : ℕ) (d : ProcId) → k ≢ i → k + 1 < length old → get_or new k d ≡ get_or old k d)) →
    q ≢ p → Contains old q → Contains new q
remains old new i p q here l many by other (k, m, e) = elim (cases_eq (k + 1) (length old)) [
  | inl last ↦ (
    i,
    (let z : i < length new = omega (arith, last, moved_from) in z),
    by.0 q (omega (arith, last, moved_from)) ∙ ap (λ z. get_or old z q) (let z : length old - 1 ≡ k = omega (arith, last) in z) ∙ e,
  )
  | inr more ↦ (
    k,
    (let z : k < length new = omega (arith, more, m) in z),
    by.1 k q moved_from (omega (arith, more, m)) ∙ e,
  )
]
  where
    moved_from : k ≢ i
    moved_from z = other (sym e ∙ ap (λ v. get_or old v q) z ∙ get_or_default old i q p l ∙ here)
