-- How far a worker has come.
use Rattle.std.specs.Prelude.{◌≡◌, ◌≢◌, ℕ, List, [], ◌++◌, length, nat_lt, Bool, true, false, ⊤, Option, Result, Ok, Err}
use Rattle.std.specs.Io.KnownBytes.{Appends, Consumes}
use Rattle.px_io.specs.Told.{AppendsPrefix}
use Rattle.px_callgraph.specs.JobTree.{JobTree}
use Rattle.px_frames.specs.Frames.{frame_of, IsPart}
use Rattle.px_frames.specs.Feeding.{Feeding, holds, refuses}
use Rattle.px_worker.specs.declared.faults.ServeFault.{ServeFault}
use Rattle.px_worker.specs.declared.faults.ServeFault.TheVariants.{Read, Write, Bad, Kinds, NoMemory}
use Rattle.px_worker.specs.declared.course.Course.{Course}
use Rattle.px_worker.specs.Answers.{AsksIn, IsOwed, AreAnswered}
use Rattle.px_worker.specs.Stops.{place_after}
use Rattle.px_worker.specs.Served.{IsServed, Serves}

-- a part of a frame is held
abbrev pub IsOpen : Feeding → Type 0
IsOpen (holds bytes) = IsPart bytes
IsOpen (refuses n) = ⊥

-- What was read is whole frames, for which what is owed was written, and then what the feeder holds.
pub record IsOn (known : ℕ) (kinds read written : List ℕ) (c : Course) : Type 0 where
  pub before : List ℕ
  pub held : List ℕ
  pub split : read ≡ before ++ held
  pub answered : AreAnswered known kinds before written
  pub holds_it : c.feeder ≡ holds held
  pub place_is : c.place ≡ place_after before
  pub begun_is : c.begun ≡ nat_lt 0 (length held)

-- a worker that knows the versions up to one, with these kinds, read and wrote this, and stops so, whatever is left of its input
abbrev pub IsStopped : ℕ → List ℕ → List ℕ → List ℕ → ServeFault → Type 0
IsStopped known kinds read written fault = (left : List ℕ) → IsServed known kinds read left written (Err fault)

-- told bytes grow by some of which this holds
abbrev pub GrowsSo : Option (List ℕ) → Option (List ℕ) → (List ℕ → Type 0) → Type 0
GrowsSo old new P = (more : List ℕ) × Appends old new more × P more

-- From one place of its input to another, these bytes on.
abbrev pub OnAfter : ℕ → List ℕ → Course → Course → List ℕ → Option (List ℕ) → Option (List ℕ) → Type 0
OnAfter known kinds c c' bytes old new =
    (read written : List ℕ) → IsOn known kinds read written c → GrowsSo old new (λ more. IsOn known kinds (read ++ bytes) (written ++ more) c')

-- From a place of its input it has read these bytes, and stops so.
abbrev pub StopsAfter : ℕ → List ℕ → Course → List ℕ → Option (List ℕ) → Option (List ℕ) → ServeFault → Type 0
StopsAfter known kinds c bytes old new fault =
    (read written : List ℕ) → IsOn known kinds read written c → GrowsSo old new (λ more. IsStopped known kinds (read ++ bytes) (written ++ more) fault)

-- What is said of a message whose frame begins at this place: the frame of what is owed for it, a beginning of that, or
-- nothing, and then why.
abbrev pub Speaks : ℕ → List ℕ → List ℕ → ℕ → Option (List ℕ) → Option (List ℕ) → Result ⊤ ServeFault → Type 0
Speaks known kinds message place old new (Ok _) = (answer : List ℕ) × IsOwed known kinds message answer × Appends old new (frame_of answer)
Speaks known kinds message place old new (Err Write) = (answer : List ℕ) × IsOwed known kinds message answer × AppendsPrefix old new (frame_of answer)
Speaks known kinds message place old new (Err (Bad n)) = (n ≡ place) × Appends old new [] × ((j : JobTree) → ¬ AsksIn known message j)
Speaks known kinds message place old new (Err (Kinds n)) = (n ≡ place) × Appends old new [] × ((j : JobTree) × AsksIn known message j × (j.kinds ≢ kinds))
Speaks known kinds message place old new (Err NoMemory) = Appends old new []
Speaks known kinds message place old new (Err Read) = ⊥

-- A worker that was sent what a source told, and wrote to a sink, has come so far.
pub record Stands (known : ℕ) (kinds : List ℕ) (source source' sink sink' : Option (List ℕ)) (c : Course) : Type 0 where
  pub read : List ℕ
  pub written : List ℕ
  pub took : Consumes source source' read
  pub wrote : Appends sink sink' written
  pub on : IsOn known kinds read written c
  pub part : IsOpen c.feeder

-- From one place of its input, wherever it began, a worker comes to another, or it has come to the end, or it stops.
abbrev pub IsTurn : ℕ → List ℕ → Course → Course → Option (List ℕ) → Option (List ℕ) → Option (List ℕ) → Option (List ℕ) → Result Bool ServeFault → Type 0
IsTurn known kinds c c' s s' k k' (Ok false) = (s0 k0 : Option (List ℕ)) → Stands known kinds s0 s k0 k c → Stands known kinds s0 s' k0 k' c'
IsTurn known kinds c c' s s' k k' (Ok true) = (s0 k0 : Option (List ℕ)) → Stands known kinds s0 s k0 k c → Serves known kinds s0 s' k0 k' (Ok tt)
IsTurn known kinds c c' s s' k k' (Err fault) = (s0 k0 : Option (List ℕ)) → Stands known kinds s0 s k0 k c → Serves known kinds s0 s' k0 k' (Err fault)
