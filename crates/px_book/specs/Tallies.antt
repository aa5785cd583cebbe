-- Whose claims the publications and losses of a history follow, and how many there are.
use Rattle.std.specs.Prelude.{◌≡◌, ℕ, suc, ◌+◌, ◌<◌, List, [], ◌∷◌, Option, Some, None, option_and_then, slice_get}
use Rattle.px_pieces.specs.declared.desk.Who.{Who}
use Rattle.px_pieces.specs.declared.desk.Who.TheVariants.{Parent, Worker}
use Rattle.px_pieces.specs.declared.desk.Lost.{Lost}
use Rattle.px_pieces.specs.declared.desk.Event.{Event}
use Rattle.px_pieces.specs.declared.desk.Event.TheVariants.{Claim, Publish, Lose}
use Rattle.px_pieces.specs.Desk.{Desk, IsLegal}
use Rattle.px_pieces.specs.Histories.{publications}

-- whose claim an event is
abbrev pub claims_for : Event → Option Who
claims_for (Claim who p) = Some who
claims_for (Publish t) = None
claims_for (Lose t why) = None

-- who claimed under a ticket, the place of the claim
abbrev pub claimant : List Event → ℕ → Option Who
claimant h ticket = option_and_then claims_for (slice_get h ticket)

-- 1 for a worker, and 1 for the parent
abbrev pub by_worker : Option Who → ℕ
by_worker (Some (Worker n)) = 1
by_worker (Some Parent) = 0
by_worker None = 0

abbrev pub by_parent : Option Who → ℕ
by_parent (Some (Worker n)) = 0
by_parent (Some Parent) = 1
by_parent None = 0

-- how many of these events of a history publish what such a one had claimed, and how many lose it
abbrev pub published_by : (Option Who → ℕ) → List Event → List Event → ℕ
published_by counts h [] = 0
published_by counts h (Publish t ∷ rest) = counts (claimant h t) + published_by counts h rest
published_by counts h (Claim who p ∷ rest) = published_by counts h rest
published_by counts h (Lose t why ∷ rest) = published_by counts h rest

abbrev pub lost_by : (Option Who → ℕ) → List Event → List Event → ℕ
lost_by counts h [] = 0
lost_by counts h (Lose t why ∷ rest) = counts (claimant h t) + lost_by counts h rest
lost_by counts h (Claim who p ∷ rest) = lost_by counts h rest
lost_by counts h (Publish t ∷ rest) = lost_by counts h rest

-- how many losses a history has
abbrev pub losses : List Event → ℕ
losses [] = 0
losses (Lose t why ∷ rest) = suc (losses rest)
losses (Claim who p ∷ rest) = losses rest
losses (Publish t ∷ rest) = losses rest

-- Each publication and each loss follows the claim whose ticket it names. So the publications are those of workers and those of the
-- parent, and so are the losses.
pub record HistoryTallies (h : List Event) : Type 0 where
  pub published_claim : (place ticket : ℕ) → slice_get h place ≡ Some (Publish ticket) → (who : Who) × (ticket < place) × (claimant h ticket ≡ Some who)
  pub lost_claim : (place ticket : ℕ) (why : Lost) → slice_get h place ≡ Some (Lose ticket why) → (who : Who) × (ticket < place) × (claimant h ticket ≡ Some who)
  pub publications_are : published_by by_worker h h + published_by by_parent h h ≡ publications h
  pub losses_are : lost_by by_worker h h + lost_by by_parent h h ≡ losses h

abbrev pub DeskTallies : Type 0
DeskTallies = (d : Desk) (h : List Event) → IsLegal d h → HistoryTallies h
