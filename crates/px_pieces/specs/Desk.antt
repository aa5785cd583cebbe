-- The desk: the procedures that are to be settled, what events do to them, and when an event may come.
use Rattle.std.specs.Prelude.{◌≡◌, ℕ, suc, ◌<◌, ◌&&◌, not, Bool, true, nat_eq, nat_lt, cond, List, [], ◌∷◌, take, Option, Some, None, slice_get, option_map, ⊤}
use Rattle.std.specs.List.{list_any}
use Rattle.px_base.specs.declared.trace.ProcId.{ProcId}
use Rattle.px_core.specs.BodyTree.{BodyTree}
use Rattle.px_callgraph.specs.Callees.{IsCallee, AreTogether}
use Rattle.px_pieces.specs.declared.desk.Who.{Who}
use Rattle.px_pieces.specs.declared.desk.Who.TheVariants.{Parent, Worker}
use Rattle.px_pieces.specs.declared.desk.Event.{Event}
use Rattle.px_pieces.specs.declared.desk.Event.TheVariants.{Claim, Publish, Lose}
use Rattle.px_pieces.specs.declared.desk.Status.{Status}
use Rattle.px_pieces.specs.declared.desk.Status.TheVariants.{Waiting, Held, Settled}

-- the bodies, how many procedures are kept, and those that are left out
pub record Desk : Type 0 where
  pub bodies : ℕ → Option BodyTree
  pub kept : ℕ
  pub out : List ProcId

-- a procedure of the desk is kept and not left out
abbrev pub is_of_desk : Desk → ℕ → Bool
is_of_desk d f = nat_lt f d.kept && not (list_any (λ (p : ProcId). nat_eq p.0 f) d.out)

-- a callee that is settled before its caller is claimed: it is of the desk, and outside the caller's recursion component
pub record Awaits (d : Desk) (f g : ℕ) : Type 0 where
  pub callee : IsCallee d.bodies f g
  pub of_desk : is_of_desk d g ≡ true
  pub apart : ¬ AreTogether d.bodies f g

-- ---- what events do

-- where each procedure stands; one that isn't of the desk stands nowhere
abbrev pub Statuses : Type 0
Statuses = ℕ → Option Status

abbrev pub start : Desk → Statuses
start d f = cond (is_of_desk d f) (Some (Waiting 0)) None

-- where a procedure stands after the event at this place; an event that doesn't concern it leaves it
abbrev pub status_after : Status → ℕ → Event → ℕ → Status
status_after (Waiting losses) place (Claim who p) f = cond (nat_eq p.0 f) (Held place who losses) (Waiting losses)
status_after (Held ticket who losses) place (Publish t) f = cond (nat_eq t ticket) (Settled ticket who) (Held ticket who losses)
status_after (Held ticket who losses) place (Lose t why) f = cond (nat_eq t ticket) (Waiting (suc losses)) (Held ticket who losses)
status_after s place e f = s

abbrev pub after : ℕ → Event → Statuses → Statuses
after place e s f = option_map (λ x. status_after x place e f) (s f)

-- after these events, the first of which has this place
abbrev pub replay_from : ℕ → Statuses → List Event → Statuses
replay_from place s [] = s
replay_from place s (e ∷ rest) = replay_from (suc place) (after place e s) rest

-- after a history
abbrev pub replay : Desk → List Event → Statuses
replay d h = replay_from 0 (start d) h

-- ---- when an event may come

pub record IsHeldUnder (s : Statuses) (ticket f : ℕ) : Type 0 where
  pub who : Who
  pub losses : ℕ
  pub held : s f ≡ Some (Held ticket who losses)

pub record IsSettled (s : Statuses) (f : ℕ) : Type 0 where
  pub ticket : ℕ
  pub who : Who
  pub settled : s f ≡ Some (Settled ticket who)

-- what was lost three times is for the parent alone
abbrev pub MayTake : Who → ℕ → Type 0
MayTake Parent losses = ⊤
MayTake (Worker n) losses = losses < 3

pub record IsClaimable (d : Desk) (s : Statuses) (who : Who) (f : ℕ) : Type 0 where
  pub losses : ℕ
  pub waits : s f ≡ Some (Waiting losses)
  pub may : MayTake who losses
  pub callees : (g : ℕ) → Awaits d f g → IsSettled s g

abbrev pub MayCome : Desk → Statuses → Event → Type 0
MayCome d s (Claim who p) = IsClaimable d s who p.0 × ((g : ℕ) → g < p.0 → ¬ IsClaimable d s who g)
MayCome d s (Publish t) = (f : ℕ) × IsHeldUnder s t f
MayCome d s (Lose t why) = (f : ℕ) × IsHeldUnder s t f

-- each event may come where it stands
abbrev pub IsLegal : Desk → List Event → Type 0
IsLegal d h = (n : ℕ) (e : Event) → slice_get h n ≡ Some e → MayCome d (replay d (take n h)) e
