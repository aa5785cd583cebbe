-- Histories, worked by hand.
use Rattle.std.specs.Prelude.{◌≡◌, ℕ, zero, suc, List, [], ◌∷◌, map, take, Option, Some, None}
use Rattle.px_core.specs.BodyTree.{BodyTree}
use Rattle.px_callgraph.specs.WorkedCallees.{body_of, calls}
use Rattle.px_pieces.specs.declared.desk.Who.{Who}
use Rattle.px_pieces.specs.declared.desk.Who.TheVariants.{Parent, Worker}
use Rattle.px_pieces.specs.declared.desk.Lost.TheVariants as why
use Rattle.px_pieces.specs.declared.desk.Event.{Event}
use Rattle.px_pieces.specs.declared.desk.Event.TheVariants.{Claim, Publish, Lose}
use Rattle.px_pieces.specs.declared.desk.Status.{Status}
use Rattle.px_pieces.specs.declared.desk.Status.TheVariants.{Waiting, Settled}
use Rattle.px_pieces.specs.Desk.{Desk, start, replay, IsClaimable, MayCome, IsLegal}

-- a body that calls these, one after another
abbrev pub calling : List ℕ → Option BodyTree
calling fs = Some (body_of (map calls fs))

abbrev pub claims : Who → ℕ → Event
claims who f = Claim who (record { 0 = f })

-- how the first procedures stand after a history
abbrev pub standing : Desk → List Event → List ℕ → List (Option Status)
standing d h fs = map (replay d h) fs

-- ---- a chain: each calls the next

abbrev pub chain_bodies : ℕ → Option BodyTree
chain_bodies zero = calling (1 ∷ [])
chain_bodies (suc zero) = calling (2 ∷ [])
chain_bodies (suc (suc zero)) = calling []
chain_bodies (suc (suc (suc n))) = None

abbrev pub chain : Desk
chain = record { bodies = chain_bodies; kept = 3; out = [] }

abbrev pub without_second : Desk
without_second = record { bodies = chain_bodies; kept = 3; out = record { 0 = 1 } ∷ [] }

abbrev pub chain_history : List Event
chain_history = claims (Worker 0) 2 ∷ Publish 0 ∷ claims Parent 1 ∷ Publish 2 ∷ claims (Worker 0) 0 ∷ Publish 4 ∷ []

pub record WorkedChain : Type 0 where
  pub legal : IsLegal chain chain_history
  pub end : standing chain chain_history (0 ∷ 1 ∷ 2 ∷ 3 ∷ []) ≡ Some (Settled 4 (Worker 0)) ∷ Some (Settled 2 Parent) ∷ Some (Settled 0 (Worker 0)) ∷ None ∷ []
  -- where the second is left out, the first needn't wait
  pub left_out : (who : Who) → IsClaimable without_second (start without_second) who 0

-- ---- two that call each other: neither waits for the other

abbrev pub cycle_bodies : ℕ → Option BodyTree
cycle_bodies zero = calling (1 ∷ [])
cycle_bodies (suc zero) = calling (0 ∷ [])
cycle_bodies (suc (suc n)) = None

abbrev pub cycle : Desk
cycle = record { bodies = cycle_bodies; kept = 2; out = [] }

abbrev pub cycle_history : List Event
cycle_history = claims (Worker 0) 0 ∷ claims (Worker 1) 1 ∷ Publish 1 ∷ Publish 0 ∷ []

pub record WorkedCycle : Type 0 where
  pub legal : IsLegal cycle cycle_history
  pub end : standing cycle cycle_history (0 ∷ 1 ∷ []) ≡ Some (Settled 0 (Worker 0)) ∷ Some (Settled 1 (Worker 1)) ∷ []

-- ---- a diamond, with one worker and the parent

abbrev pub diamond_bodies : ℕ → Option BodyTree
diamond_bodies zero = calling (1 ∷ 2 ∷ [])
diamond_bodies (suc zero) = calling (3 ∷ [])
diamond_bodies (suc (suc zero)) = calling (3 ∷ [])
diamond_bodies (suc (suc (suc zero))) = calling []
diamond_bodies (suc (suc (suc (suc n)))) = None

abbrev pub diamond : Desk
diamond = record { bodies = diamond_bodies; kept = 4; out = [] }

abbrev pub diamond_history : List Event
diamond_history = claims (Worker 0) 3 ∷ Publish 0 ∷ claims (Worker 0) 1 ∷ claims Parent 2 ∷ Publish 3 ∷ Publish 2 ∷ claims (Worker 0) 0 ∷ Publish 6 ∷ []

pub record WorkedDiamond : Type 0 where
  pub legal : IsLegal diamond diamond_history
  pub end : standing diamond diamond_history (0 ∷ 1 ∷ 2 ∷ 3 ∷ []) ≡
      Some (Settled 6 (Worker 0)) ∷ Some (Settled 2 (Worker 0)) ∷ Some (Settled 3 Parent) ∷ Some (Settled 0 (Worker 0)) ∷ []
  -- while both sides are held, nobody can claim
  pub waits : (who : Who) (f : ℕ) → ¬ IsClaimable diamond (replay diamond (take 4 diamond_history)) who f

-- ---- three losses, and then the parent alone

abbrev pub single_bodies : ℕ → Option BodyTree
single_bodies zero = calling []
single_bodies (suc n) = None

abbrev pub single : Desk
single = record { bodies = single_bodies; kept = 1; out = [] }

abbrev pub loss_history : List Event
loss_history = claims (Worker 0) 0 ∷ Lose 0 (why.Closed 0) ∷ claims (Worker 1) 0 ∷ Lose 2 why.Frame ∷ claims (Worker 2) 0 ∷ Lose 4 why.Read
    ∷ claims Parent 0 ∷ Publish 6 ∷ []

pub record WorkedLosses : Type 0 where
  pub legal : IsLegal single loss_history
  pub thrice : standing single (take 6 loss_history) (0 ∷ []) ≡ Some (Waiting 3) ∷ []
  pub no_worker : (n f : ℕ) → ¬ IsClaimable single (replay single (take 6 loss_history)) (Worker n) f
  pub end : standing single loss_history (0 ∷ []) ≡ Some (Settled 6 Parent) ∷ []
  -- a ticket that was published can't come again
  pub no_second : ¬ MayCome single (replay single loss_history) (Publish 6)
  pub no_loss : ¬ MayCome single (replay single loss_history) (Lose 6 why.Read)
