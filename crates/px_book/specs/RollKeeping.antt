-- What the fields of a roll keep.
use Rattle.std.specs.Prelude.{◌≡◌, ◌+◌, ℕ, ◌<◌, ◌^◌, List, length, Contains, Option, Some}
use Rattle.px_base.specs.declared.trace.ProcId.{ProcId}
use Rattle.px_core.specs.BodyTree.{BodyTree}
use Rattle.px_components.specs.Graphs.{IsEdge}
use Rattle.px_callgraph.specs.CallGraphs.{IsGraphOf}
use Rattle.px_pieces.specs.declared.desk.Who.{Who}
use Rattle.px_pieces.specs.declared.desk.Event.{Event}
use Rattle.px_pieces.specs.declared.desk.Status.{Status}
use Rattle.px_pieces.specs.declared.desk.Status.TheVariants.{Held}
use Rattle.px_pieces.specs.Desk.{replay, IsLegal}
use Rattle.px_book.specs.declared.ready.Ready.{Ready}
use Rattle.px_book.specs.Ready.{status_at, IsReady}
use Rattle.px_book.specs.Rolls.{desk_in, no_bodies}

-- who calls a procedure, at least
pub record AreCallers (graph callers : List (List ℕ)) : Type 0 where
  pub size : length callers ≡ length graph
  pub turned : (f g : ℕ) → IsEdge graph f g → g < length graph → IsEdge callers g f

-- each that is held is on the list, and may be lost once more
abbrev pub AreHeld : List (Option Status) → List ProcId → Type 0
AreHeld statuses held = (f ticket : ℕ) (who : Who) (losses : ℕ) → status_at statuses f ≡ Some (Held ticket who losses) → Contains held (record { 0 = f }) × (losses + 1 < 2 ^ 32)

-- the statuses are those after the history
abbrev pub AreAfter : List (List ℕ) → List ProcId → List Event → List (Option Status) → Type 0
AreAfter graph out history statuses = (f : ℕ) → status_at statuses f ≡ replay (desk_in no_bodies graph out) history f

pub record IsKept (graph callers : List (List ℕ)) (out : List ProcId) (statuses : List (Option Status)) (r : Ready) (held : List ProcId) (history : List Event) : Type 0 where
  pub few : length graph < 2 ^ 32
  pub size : length statuses ≡ length graph
  pub turned : AreCallers graph callers
  pub stands : AreAfter graph out history statuses
  pub legal : (bodies : ℕ → Option BodyTree) → IsGraphOf bodies graph → IsLegal (desk_in bodies graph out) history
  pub ready : IsReady graph statuses r
  pub listed : AreHeld statuses held
