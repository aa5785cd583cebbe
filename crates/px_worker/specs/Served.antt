-- What a worker read and wrote, and how it ended.
use Rattle.std.specs.Prelude.{◌≡◌, ℕ, List, [], ◌++◌, ⊤, Option, IfSome, Result, Ok, Err}
use Rattle.std.specs.Io.KnownBytes.{Appends, Consumes}
use Rattle.px_worker.specs.declared.faults.ServeFault.{ServeFault}
use Rattle.px_worker.specs.declared.faults.ServeFault.TheVariants.{Read, Write, Bad, Kinds, NoMemory}
use Rattle.px_worker.specs.Answers.{AreAnswered, IsAnswer}
use Rattle.px_worker.specs.Stops.{AreRequests, IsBad, HasOthers, StopsAt}

-- What was written is what is owed for the first whole requests of what was read, or a beginning of that.
pub record IsBegun (known : ℕ) (kinds read written : List ℕ) : Type 0 where
  pub before : List ℕ
  pub rest : List ℕ
  pub split : read ≡ before ++ rest
  pub later : List ℕ
  pub answered : AreAnswered known kinds before (written ++ later)

-- A worker that knows the versions up to one, with these kinds, read this, left this of its input, and wrote this, and then
-- ended so.
abbrev pub IsServed : ℕ → List ℕ → List ℕ → List ℕ → List ℕ → Result ⊤ ServeFault → Type 0
IsServed known kinds read left written (Ok _) = (left ≡ []) × AreRequests known kinds read × IsAnswer known kinds read written
IsServed known kinds read left written (Err (Bad n)) = StopsAt known kinds (IsBad known) (read ++ left) n × IsAnswer known kinds read written
IsServed known kinds read left written (Err (Kinds n)) = StopsAt known kinds (HasOthers known kinds) (read ++ left) n × IsAnswer known kinds read written
IsServed known kinds read left written (Err Read) = IsBegun known kinds read written
IsServed known kinds read left written (Err Write) = IsBegun known kinds read written
IsServed known kinds read left written (Err NoMemory) = IsBegun known kinds read written

-- The same over what a source and a sink tell, before and after. However it ended, what was written is a beginning of each
-- answer of what was read.
pub record Serves (known : ℕ) (kinds : List ℕ) (source source' sink sink' : Option (List ℕ)) (result : Result ⊤ ServeFault) : Type 0 where
  pub read : List ℕ
  pub left : List ℕ
  pub written : List ℕ
  pub took : Consumes source source' read
  pub left_is : IfSome source' (λ bytes. bytes ≡ left)
  pub wrote : Appends sink sink' written
  pub served : IsServed known kinds read left written result
  pub begins : (answer : List ℕ) → IsAnswer known kinds read answer → (more : List ℕ) × (answer ≡ written ++ more)
