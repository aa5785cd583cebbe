-- Where a worker stops.
use Rattle.std.specs.Prelude.{◌≡◌, ◌≢◌, ℕ, ◌≤◌, ◌-◌, ◌^◌, min, List, [], ◌++◌, length, flat_map}
use Rattle.std.specs.List.{AllByRecursion}
use Rattle.px_callgraph.specs.JobTree.{JobTree}
use Rattle.px_frames.specs.Frames.{frame_of, most_bytes}
use Rattle.px_worker.specs.Answers.{AsksIn, IsRequest}

-- the bytes are whole frames of requests of known versions with these kinds, one after another
pub record AreRequests (known : ℕ) (kinds bytes : List ℕ) : Type 0 where
  pub messages : List (List ℕ)
  pub requests : AllByRecursion (λ m. IsRequest known kinds m) messages
  pub bytes_are : bytes ≡ flat_map frame_of messages

-- bytes stand there, and they don't begin with the whole frame of a request of a known version
pub record IsBad (known : ℕ) (bytes : List ℕ) : Type 0 where
  pub some : bytes ≢ []
  pub no_request : (message more : List ℕ) → length message ≤ most_bytes → bytes ≡ frame_of message ++ more → (j : JobTree) → ¬ AsksIn known message j

-- the bytes begin with the whole frame of a request of a known version with other kinds
pub record HasOthers (known : ℕ) (kinds bytes : List ℕ) : Type 0 where
  pub message : List ℕ
  pub more : List ℕ
  pub short : length message ≤ most_bytes
  pub begins : bytes ≡ frame_of message ++ more
  pub job : JobTree
  pub asks : AsksIn known message job
  pub others : job.kinds ≢ kinds

-- the number of these bytes, where it is a number of the code, and else the greatest of these
abbrev pub place_after : List ℕ → ℕ
place_after bytes = min (length bytes) (2 ^ 64 - 1)

-- after whole frames of requests of known versions with these kinds, at this place, what follows is so
pub record StopsAt (known : ℕ) (kinds : List ℕ) (Why : List ℕ → Type 0) (input : List ℕ) (place : ℕ) : Type 0 where
  pub before : List ℕ
  pub rest : List ℕ
  pub split : input ≡ before ++ rest
  pub requests : AreRequests known kinds before
  pub why : Why rest
  pub place_is : place ≡ place_after before
