-- What a worker owes for the bytes that it was sent. It knows the versions from 1 to one.
use Rattle.std.specs.Prelude.{◌≡◌, ℕ, ◌≤◌, List, ◌++◌, length, flat_map, nat_lt, if◌then◌else◌}
use Rattle.std.specs.List.{AllByRecursion}
use Rattle.px_callgraph.specs.JobTree.{JobTree}
use Rattle.px_frames.specs.Frames.{frame_of, most_bytes}
use Rattle.px_wire.specs.Messages.{request, reply, large, IsMessage}
use Rattle.px_wire.specs.Versions.{bytes_in, HasVersion, SpellsIn}
use Rattle.px_explore.specs.declared.results.Analysis.{Analysis}
use Rattle.px_explore.specs.Own.{IsAnalysis}

-- ---- one message

-- it asks for the analysis of this job, in a version up to this one
abbrev pub AsksIn : ℕ → List ℕ → JobTree → Type 0
AsksIn known message j = (version : ℕ) × (version ≤ known) × SpellsIn version message (request j)

-- the message is a request of a known version with these kinds, and has room in a frame
pub record IsRequest (known : ℕ) (kinds message : List ℕ) : Type 0 where
  pub short : length message ≤ most_bytes
  pub job : JobTree
  pub asks : AsksIn known message job
  pub own : job.kinds ≡ kinds

-- a message, or the second where the first has no room in a frame
abbrev pub in_frame : List ℕ → List ℕ → List ℕ
in_frame message other = if nat_lt most_bytes (length message) then other else message

-- what a worker with these kinds says, in this version, of a job that is so analysed
abbrev pub reply_to : ℕ → List ℕ → JobTree → Analysis → List ℕ
reply_to version kinds j a = in_frame (bytes_in version (reply j.ticket kinds a.table a.derivations)) (bytes_in version (large j.ticket))

-- The message is a request of a known version with these kinds, and this message of the same version is owed for it. The
-- reply to it is in range, so that its bytes spell it and nothing else.
pub record IsOwed (known : ℕ) (kinds message answer : List ℕ) : Type 0 where
  pub short : length message ≤ most_bytes
  pub version : ℕ
  pub is_known : version ≤ known
  pub job : JobTree
  pub asks : SpellsIn version message (request job)
  pub own : job.kinds ≡ kinds
  pub analysis : Analysis
  pub is_analysis : IsAnalysis job analysis
  pub answer_is : answer ≡ reply_to version kinds job analysis
  pub in_range : IsMessage (reply job.ticket kinds analysis.table analysis.derivations)
  pub in_version : HasVersion version (reply job.ticket kinds analysis.table analysis.derivations)

-- ---- all bytes

-- The bytes are whole frames of requests of known versions with these kinds, one after another, and the answer is the
-- frames of what is owed for them, in order.
pub record AreAnswered (known : ℕ) (kinds bytes answer : List ℕ) : Type 0 where
  pub exchanges : List (List ℕ × List ℕ)
  pub owed : AllByRecursion (λ (x : List ℕ × List ℕ). IsOwed known kinds x.0 x.1) exchanges
  pub asked : bytes ≡ flat_map (λ (x : List ℕ × List ℕ). frame_of x.0) exchanges
  pub answered : answer ≡ flat_map (λ (x : List ℕ × List ℕ). frame_of x.1) exchanges

-- the bytes don't begin with the whole frame of a request of a known version with these kinds
abbrev pub OwesNothing : ℕ → List ℕ → List ℕ → Type 0
OwesNothing known kinds bytes = (message more : List ℕ) → bytes ≡ frame_of message ++ more → ¬ IsRequest known kinds message

-- What a worker that knows the versions up to one, with these kinds, owes for bytes: for each whole frame of a request of
-- such a version with its kinds, in order, the frame of what is owed for it, and nothing from the first other frame on.
pub record IsAnswer (known : ℕ) (kinds bytes answer : List ℕ) : Type 0 where
  pub before : List ℕ
  pub rest : List ℕ
  pub split : bytes ≡ before ++ rest
  pub answered : AreAnswered known kinds before answer
  pub nothing_more : OwesNothing known kinds rest
