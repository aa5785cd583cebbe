-- The statuses at the start.
use Rattle.std.proofs.Common.{◌≡◌, ℕ, zero, suc, ◌+◌, ◌<◌, ◌≤◌, ◌&&◌, ◌||◌, List, [], ◌∷◌, length, get_or, drop, replicate, Bool, true, false, not, nat_eq, nat_lt, cond, Option, Some, None, refl, sym, ap, ◌∙◌, subst, arith, inl, inr}
use Rattle.std.specs.List.{list_any}
use Rattle.std.proofs.lemmas.Bool.{cases_lt, lt-ltb, le-ltb}
use Rattle.std.proofs.lemmas.List.{get_or_past, get_or-replicate, length-replicate}
use Rattle.px_base.specs.declared.trace.ProcId.{ProcId}
use Rattle.px_pieces.specs.declared.desk.Status.{Status}
use Rattle.px_pieces.specs.declared.desk.Status.TheVariants.{Waiting}
use Rattle.px_pieces.specs.Desk.{start}
use Rattle.px_book.specs.Ready.{status_at, is_unsettled}
use Rattle.px_book.specs.Rolls.{no_bodies}

-- where a procedure stands once these are left out
abbrev pub without : List ProcId → ℕ → Option Status → Option Status
without out f o = cond (list_any (λ (p : ProcId). nat_eq p.0 f) out) None o

pub without_more : (p : ProcId) (out : List ProcId) (f : ℕ) (o : Option Status) → without out f (cond (nat_eq p.0 f) None o) ≡ without (p ∷ out) f o
without_more p out f o = by (nat_eq p.0 f) (list_any (λ (q : ProcId). nat_eq q.0 f) out)
  where
    by : (a b : Bool) → cond b None (cond a None o) ≡ cond (a || b) None o
    by true true = refl
    by true false = refl
    by false true = refl
    by false false = refl

waiting : (kept f : ℕ) → status_at (replicate kept (Some (Waiting 0))) f ≡ cond (nat_lt f kept) (Some (Waiting 0)) None
waiting kept f = elim (cases_lt f kept) [
  | inl l ↦ get_or-replicate kept f (Some (Waiting 0)) None l ∙ sym (ap (λ b. cond b (Some (Waiting 0)) None) (lt-ltb f kept l))
  | inr m ↦ get_or_past (replicate kept (Some (Waiting 0))) f None (let z = length-replicate kept (Some (Waiting 0)) in omega arith)
      ∙ sym (ap (λ b. cond b (Some (Waiting 0)) None) (le-ltb f kept m))
]

-- all wait, but those that are left out
pub starts : (kept f : ℕ) (out : List ProcId) → without out f (status_at (replicate kept (Some (Waiting 0))) f) ≡ start (record { bodies = no_bodies; kept = kept; out = out }) f
starts kept f out = ap (without out f) (waiting kept f) ∙ by (nat_lt f kept) (list_any (λ (p : ProcId). nat_eq p.0 f) out)
  where
    by : (a b : Bool) → cond b None (cond a (Some (Waiting 0)) None) ≡ cond (a && not b) (Some (Waiting 0)) None
    by true true = refl
    by true false = refl
    by false true = refl
    by false false = refl

-- none of the first ones is left to be settled
abbrev pub NoneLeft : List (Option Status) → ℕ → Type 0
NoneLeft statuses n = (k : ℕ) → k < n → is_unsettled (status_at statuses k) ≡ false

pub none_left : (statuses : List (Option Status)) (n : ℕ) → length statuses ≤ n → NoneLeft statuses n → (f : ℕ) → is_unsettled (status_at statuses f) ≡ false
none_left statuses n last none f = elim (cases_lt f (length statuses)) [
  | inl l ↦ none f (omega arith)
  | inr l ↦ ap is_unsettled (get_or_past statuses f None l)
]
