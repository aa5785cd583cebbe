-- Bytes on their way to a sink.
use Rattle.std.specs.Prelude.{◌≡◌, ℕ, ◌≤◌, List, ◌++◌, Bool, true, false, Option, Result, OnOk, OnErr, ⊤}
use Rattle.std.specs.Io.KnownBytes.{Appends}
use Rattle.px_io.specs.declared.sink.Failed.{Failed}
use Rattle.px_io.specs.Faults.{HasCause, RoseOnce}
use Rattle.px_io.specs.Pieces.{WritesPieces}
use Rattle.px_io.specs.Told.{AppendsPrefix}

-- Of what isn't in the sink: all of it is held, and no write has failed; or one has.
abbrev pub IsLeft : Bool → List ℕ → List ℕ → ℕ → ℕ → Type 0
IsLeft false held left before now = (left ≡ held) × (now ≡ before)
IsLeft true held left before now = RoseOnce before now

-- From a sink as it was, this one came by taking the front of what was given.
pub record Took {S : Type 0} (told : S → Option (List ℕ)) (takes : S → List ℕ → Result ℕ Failed → S → Type 0) (count : S → ℕ)
    (from : S) (failed : Bool) (held given : List ℕ) (to : S) : Type 0 where
  pub gone : List ℕ
  pub left : List ℕ
  pub all : given ≡ gone ++ left
  pub wrote : Appends (told from) (told to) gone
  pub pieces : List (List ℕ)
  pub in_pieces : WritesPieces takes from pieces to
  pub never_falls : count from ≤ count to
  pub left_is : IsLeft failed held left (count from) (count to)

-- From a sink as it was, this one came by writing all these bytes, or a front of them, where a write has failed.
pub record IsWritten {S : Type 0} (told : S → Option (List ℕ)) (takes : S → List ℕ → Result ℕ Failed → S → Type 0) (count : S → ℕ)
    (from : S) (bytes : List ℕ) (result : Result ⊤ Failed) (to : S) : Type 0 where
  pub all : OnOk result (Appends (told from) (told to) bytes)
  pub part : OnErr result (AppendsPrefix (told from) (told to) bytes)
  pub pieces : (pieces : List (List ℕ)) × WritesPieces takes from pieces to
  pub cause : HasCause (count from) (count to) result
