-- A history with one event more.
use Rattle.std.proofs.Common.{◌≡◌, ◌≢◌, ◌⊎◌, ℕ, zero, suc, ◌+◌, ◌<◌, ◌≤◌, true, cond, nat_eq, List, [], ◌∷◌, ◌++◌, length, take, Option, Some, None, slice_get, option_map, refl, sym, ap, ap₂, subst, ◌∙◌, inl, inr, arith}
use Rattle.std.proofs.lemmas.Bool.{cases_eq, ne_eqb}
use Rattle.std.proofs.lemmas.List.{take_all}
use Rattle.std.proofs.lemmas.Option.{same_Some}
use Rattle.px_base.specs.declared.trace.ProcId.{ProcId}
use Rattle.px_pieces.specs.declared.desk.Who.{Who}
use Rattle.px_pieces.specs.declared.desk.Lost.{Lost}
use Rattle.px_pieces.specs.declared.desk.Event.{Event}
use Rattle.px_pieces.specs.declared.desk.Event.TheVariants.{Claim, Publish, Lose}
use Rattle.px_pieces.specs.declared.desk.Status.{Status}
use Rattle.px_pieces.specs.declared.desk.Status.TheVariants.{Waiting, Held, Settled}
use Rattle.px_pieces.specs.Desk.{Desk, is_of_desk, Statuses, start, status_after, after, replay_from, replay, IsHeldUnder, MayCome, IsLegal}
use Rattle.px_pieces.proofs.Moments.{is_on_desk, stands, one_under}

from_more : (p : ℕ) (s : Statuses) (h : List Event) (e : Event) → replay_from p s (h ++ e ∷ []) ≡ after (length h + p) e (replay_from p s h)
from_more p s [] e = ap (λ z. after z e s) (let z : p ≡ length {A = Event} [] + p = omega arith in z)
from_more p s (x ∷ h) e = from_more (suc p) (after p x s) h e ∙ ap (λ z. after z e (replay_from (suc p) (after p x s) h)) (omega arith)

-- where they stand after it
pub replay_more : (d : Desk) (h : List Event) (e : Event) → replay d (h ++ e ∷ []) ≡ after (length h) e (replay d h)
replay_more d h e = from_more 0 (start d) h e ∙ ap (λ z. after z e (replay d h)) (omega arith)

-- an event of the longer history stands in the shorter one, or is the last
event_cases : (h : List Event) (e x : Event) (n : ℕ) → slice_get (h ++ e ∷ []) n ≡ Some x →
    ((slice_get h n ≡ Some x) × (take n (h ++ e ∷ []) ≡ take n h)) ⊎ ((e ≡ x) × (take n (h ++ e ∷ []) ≡ h))
event_cases [] e x zero q = inr (same_Some e x q, refl)
event_cases [] e x (suc n) q = cc
event_cases (y ∷ h) e x zero q = inl (q, refl)
event_cases (y ∷ h) e x (suc n) q = elim (event_cases h e x n q) [
  | inl c ↦ inl (c.0, ap (λ z. y ∷ z) c.1)
  | inr c ↦ inr (c.0, ap (λ z. y ∷ z) c.1)
]

-- it is legal, where the event may come
pub legal_more : (d : Desk) (h : List Event) (e : Event) → IsLegal d h → MayCome d (replay d h) e → IsLegal d (h ++ e ∷ [])
legal_more d h e l m n x q = elim (event_cases h e x n q) [
  | inl c ↦ subst (λ z. MayCome d (replay d z) x) (sym c.1) (l n x c.0)
  | inr c ↦ subst (λ z. MayCome d (replay d z) x) (sym c.1) (subst (MayCome d (replay d h)) c.0 m)
]

-- ---- what stands after a history

whole : (xs : List Event) → take (length xs) xs ≡ xs
whole xs = take_all (length xs) xs (omega arith)

pub on_desk : (d : Desk) (h : List Event) (f : ℕ) (x : Status) → replay d h f ≡ Some x → is_of_desk d f ≡ true
on_desk d h f x e = is_on_desk d h (length h) f x (ap (λ z. replay d z f) (whole h) ∙ e)

pub stands_on : (d : Desk) (h : List Event) (f : ℕ) → is_of_desk d f ≡ true → (x : Status) × (replay d h f ≡ Some x)
stands_on d h f o = let q = stands d h (length h) f o in (q.0, sym (ap (λ z. replay d z f) (whole h)) ∙ q.1)

pub one_held : (d : Desk) (h : List Event) (ticket f g : ℕ) → IsHeldUnder (replay d h) ticket f → IsHeldUnder (replay d h) ticket g → f ≡ g
one_held d h ticket f g a b =
    one_under d h (length h) ticket f g (subst (λ z. IsHeldUnder (replay d z) ticket f) (sym (whole h)) a) (subst (λ z. IsHeldUnder (replay d z) ticket g) (sym (whole h)) b)

-- ---- the procedures that an event doesn't concern

abbrev Stays : ℕ → Event → ℕ → Option Status → Type 0
Stays n e f o = option_map (λ x. status_after x n e f) o ≡ o

pub claim_other : (n : ℕ) (who : Who) (p : ProcId) (f : ℕ) (o : Option Status) → f ≢ p.0 → Stays n (Claim who p) f o
claim_other n who p f None d = refl
claim_other n who p f (Some (Waiting losses)) d = ap (λ b. Some (cond b (Held n who losses) (Waiting losses))) (ne_eqb p.0 f (λ e. d (sym e)))
claim_other n who p f (Some (Held ticket w losses)) d = refl
claim_other n who p f (Some (Settled ticket w)) d = refl

pub publish_other : (n t f : ℕ) (o : Option Status) → ((who : Who) (losses : ℕ) → o ≡ Some (Held t who losses) → ⊥) → Stays n (Publish t) f o
publish_other n t f None d = refl
publish_other n t f (Some (Waiting losses)) d = refl
publish_other n t f (Some (Held ticket who losses)) d = elim (cases_eq t ticket) [
  | inl e ↦ absurd (d who losses (ap (λ z. Some (Held z who losses)) (sym e)))
  | inr k ↦ ap (λ b. Some (cond b (Settled ticket who) (Held ticket who losses))) (ne_eqb t ticket k)
]
publish_other n t f (Some (Settled ticket who)) d = refl

pub lose_other : (n t f : ℕ) (why : Lost) (o : Option Status) → ((who : Who) (losses : ℕ) → o ≡ Some (Held t who losses) → ⊥) → Stays n (Lose t why) f o
lose_other n t f why None d = refl
lose_other n t f why (Some (Waiting losses)) d = refl
lose_other n t f why (Some (Held ticket who losses)) d = elim (cases_eq t ticket) [
  | inl e ↦ absurd (d who losses (ap (λ z. Some (Held z who losses)) (sym e)))
  | inr k ↦ ap (λ b. Some (cond b (Waiting (suc losses)) (Held ticket who losses))) (ne_eqb t ticket k)
]
lose_other n t f why (Some (Settled ticket who)) d = refl
