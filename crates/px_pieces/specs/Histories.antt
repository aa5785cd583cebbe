-- What every legal history keeps.
use Rattle.std.specs.Prelude.{◌≡◌, ℕ, zero, suc, ◌+◌, ◌<◌, Bool, true, false, cond, List, [], ◌∷◌, take, Option, Some, None, slice_get, ◌↔◌}
use Rattle.px_pieces.specs.declared.desk.Who.{Who}
use Rattle.px_pieces.specs.declared.desk.Who.TheVariants.{Parent}
use Rattle.px_pieces.specs.declared.desk.Event.{Event}
use Rattle.px_pieces.specs.declared.desk.Event.TheVariants.{Claim, Publish, Lose}
use Rattle.px_pieces.specs.declared.desk.Status.{Status}
use Rattle.px_pieces.specs.declared.desk.Status.TheVariants.{Waiting, Held, Settled}
use Rattle.px_pieces.specs.Desk.{Desk, is_of_desk, Awaits, Statuses, replay, IsHeldUnder, IsSettled, IsClaimable, IsLegal}

-- the event at a place settles a procedure: it publishes what is held there under its ticket
pub record Settles (d : Desk) (h : List Event) (place f : ℕ) : Type 0 where
  pub ticket : ℕ
  pub event : slice_get h place ≡ Some (Publish ticket)
  pub held : IsHeldUnder (replay d (take place h)) ticket f

-- how many publications a history has
abbrev pub publications : List Event → ℕ
publications [] = 0
publications (Publish t ∷ rest) = suc (publications rest)
publications (Claim who p ∷ rest) = publications rest
publications (Lose t why ∷ rest) = publications rest

abbrev pub is_settled : Option Status → Bool
is_settled (Some (Settled ticket who)) = true
is_settled (Some (Held ticket who losses)) = false
is_settled (Some (Waiting losses)) = false
is_settled None = false

-- how many procedures below this number are settled
abbrev pub settled_below : ℕ → Statuses → ℕ
settled_below zero s = 0
settled_below (suc n) s = settled_below n s + cond (is_settled (s n)) 1 0

pub record HistoryKeeps (d : Desk) (h : List Event) : Type 0 where
  -- a procedure is settled at one place at most
  pub once : (place other f : ℕ) → Settles d h place f → Settles d h other f → place ≡ other
  -- it was claimed before, and before that claim each procedure that it awaits was settled
  pub after_claim : (place f : ℕ) (by : Settles d h place f) → by.ticket < place
  pub after_callees : (place f g : ℕ) (by : Settles d h place f) → Awaits d f g → (earlier : ℕ) × (earlier < by.ticket) × Settles d h earlier g
  -- it stays settled, and nothing else is
  pub stays : (f : ℕ) → IsSettled (replay d h) f ↔ ((place : ℕ) × Settles d h place f)
  -- the ticket of a procedure is the place of its claim
  pub held_claim : (f ticket : ℕ) (who : Who) (losses : ℕ) → replay d h f ≡ Some (Held ticket who losses) →
      slice_get h ticket ≡ Some (Claim who (record { 0 = f }))
  pub settled_claim : (f ticket : ℕ) (who : Who) → replay d h f ≡ Some (Settled ticket who) →
      slice_get h ticket ≡ Some (Claim who (record { 0 = f }))
  -- one procedure at most is held under a ticket
  pub one_a_ticket : (ticket f g : ℕ) → IsHeldUnder (replay d h) ticket f → IsHeldUnder (replay d h) ticket g → f ≡ g
  -- the settled are as many as the publications
  pub as_many : settled_below d.kept (replay d h) ≡ publications h
  -- where nothing is held and the parent can claim nothing, all are settled
  pub all_settled : ((ticket f : ℕ) → ¬ IsHeldUnder (replay d h) ticket f) → ((f : ℕ) → ¬ IsClaimable d (replay d h) Parent f) →
      (f : ℕ) → is_of_desk d f ≡ true → IsSettled (replay d h) f

abbrev pub DeskHistories : Type 0
DeskHistories = (d : Desk) (h : List Event) → IsLegal d h → HistoryKeeps d h
