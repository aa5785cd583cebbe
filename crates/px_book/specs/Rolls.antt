-- The roll of a desk.
use Rattle.std.specs.Prelude.{◌≡◌, ◌↔◌, ℕ, ◌+◌, ◌<◌, ◌≤◌, ◌^◌, List, [], ◌∷◌, ◌++◌, length, Bool, true, cond, Contains, Option, Some, None, slice_index, slice_index_or}
use Rattle.px_base.specs.declared.trace.ProcId.{ProcId}
use Rattle.px_core.specs.BodyTree.{BodyTree}
use Rattle.px_components.specs.Graphs.{IsEdge}
use Rattle.px_callgraph.specs.CallGraphs.{IsGraphOf}
use Rattle.px_pieces.specs.declared.desk.Who.{Who}
use Rattle.px_pieces.specs.declared.desk.Event.{Event}
use Rattle.px_pieces.specs.declared.desk.Event.TheVariants.{Claim, Publish, Lose}
use Rattle.px_pieces.specs.declared.desk.Status.{Status}
use Rattle.px_pieces.specs.declared.desk.Status.TheVariants.{Waiting, Held, Settled}
use Rattle.px_pieces.specs.Desk.{Desk, is_of_desk, Statuses, replay, IsClaimable, IsSettled, MayCome, IsLegal}

-- what the procedures call, those that are left out, and what happened so far
pub record RollParts : Type 0 where
  pub graph : List (List ℕ)
  pub out : List ProcId
  pub history : List Event

-- the desk of these bodies
abbrev pub desk_in : (ℕ → Option BodyTree) → List (List ℕ) → List ProcId → Desk
desk_in bodies graph out = record { bodies = bodies; kept = length graph; out = out }

abbrev pub desk_of : (ℕ → Option BodyTree) → RollParts → Desk
desk_of bodies r = desk_in bodies r.graph r.out

abbrev pub no_bodies : ℕ → Option BodyTree
no_bodies f = None

-- where the procedures stand now, whatever their bodies
abbrev pub statuses_of : RollParts → Statuses
statuses_of r = replay (desk_of no_bodies r) r.history

-- after one event more
abbrev pub roll_after : RollParts → Event → RollParts
roll_after r e = record { graph = r.graph; out = r.out; history = r.history ++ e ∷ [] }

-- the next to be claimed, if there is one
abbrev pub IsNext : Desk → Statuses → Who → Option ProcId → Type 0
IsNext d s who None = (f : ℕ) → ¬ IsClaimable d s who f
IsNext d s who (Some p) = MayCome d s (Claim who p)

abbrev pub claimed : RollParts → Who → Option ProcId → RollParts
claimed r who None = r
claimed r who (Some p) = roll_after r (Claim who p)

-- each of the desk is settled
abbrev pub AllSettled : RollParts → Type 0
AllSettled r = (f : ℕ) → is_of_desk (desk_of no_bodies r) f ≡ true → IsSettled (statuses_of r) f
