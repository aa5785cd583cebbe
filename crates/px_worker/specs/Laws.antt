-- What is owed is determined, and so is where a worker stops; and what a worker replies is its job's analysis.
use Rattle.std.specs.Prelude.{◌≡◌, ℕ, List, ◌++◌, Option, Some, Err, slice_get}
use Rattle.px_entry.specs.declared.derivations.Derivation.{Derivation}
use Rattle.px_entry.specs.declared.tables.Table.{Table}
use Rattle.px_callgraph.specs.JobTree.{JobTree}
use Rattle.px_frames.specs.Feeding.{Feeding}
use Rattle.px_frames.specs.Cutting.{AreFrames}
use Rattle.px_wire.specs.Messages.{request, reply}
use Rattle.px_wire.specs.Versions.{SpellsIn}
use Rattle.px_explore.specs.Own.{IsAnalysis}
use Rattle.px_worker.specs.declared.faults.ServeFault.TheVariants.{Bad, Kinds}
use Rattle.px_worker.specs.Answers.{IsAnswer}
use Rattle.px_worker.specs.Stops.{AreRequests, IsBad, HasOthers, StopsAt}
use Rattle.px_worker.specs.Served.{IsBegun, Serves}

-- Bytes have at most one answer.
abbrev pub OneAnswer : Type 0
OneAnswer = (known : ℕ) (kinds bytes a b : List ℕ) → IsAnswer known kinds bytes a → IsAnswer known kinds bytes b → a ≡ b

-- Each answer begins with what is owed for the first whole requests, and with each beginning of that.
abbrev pub AnswersBegin : Type 0
AnswersBegin = (known : ℕ) (kinds bytes written answer : List ℕ) → IsBegun known kinds bytes written → IsAnswer known kinds bytes answer → (more : List ℕ) × (answer ≡ written ++ more)

-- An input is whole requests, or it stops at one place, for one cause.
pub record OneStop : Type 0 where
  pub bad_place : (known : ℕ) (kinds input : List ℕ) (m n : ℕ) → StopsAt known kinds (IsBad known) input m → StopsAt known kinds (IsBad known) input n → m ≡ n
  pub others_place : (known : ℕ) (kinds input : List ℕ) (m n : ℕ) → StopsAt known kinds (HasOthers known kinds) input m → StopsAt known kinds (HasOthers known kinds) input n → m ≡ n
  pub one_cause : (known : ℕ) (kinds input : List ℕ) (m n : ℕ) → StopsAt known kinds (IsBad known) input m → ¬ StopsAt known kinds (HasOthers known kinds) input n
  pub whole_or_bad : (known : ℕ) (kinds input : List ℕ) (n : ℕ) → AreRequests known kinds input → ¬ StopsAt known kinds (IsBad known) input n
  pub whole_or_others : (known : ℕ) (kinds input : List ℕ) (n : ℕ) → AreRequests known kinds input → ¬ StopsAt known kinds (HasOthers known kinds) input n

-- An input of whole requests stops a worker neither as bad nor for other kinds.
pub record WholeInputs : Type 0 where
  pub never_bad : (known : ℕ) (kinds requests : List ℕ) (source' sink sink' : Option (List ℕ)) (n : ℕ) → Serves known kinds (Some requests) source' sink sink' (Err (Bad n)) → ¬ AreRequests known kinds requests
  pub never_others : (known : ℕ) (kinds requests : List ℕ) (source' sink sink' : Option (List ℕ)) (n : ℕ) → Serves known kinds (Some requests) source' sink sink' (Err (Kinds n)) → ¬ AreRequests known kinds requests

-- Of what a worker was sent and what it wrote, of which a front was given on: where the frame at some place of the first asks
-- for a job in a version, and the frame at that place of what was given is a reply to it in that version, the reply has the
-- job's analysis.
abbrev pub RepliesAreAnalyses : Type 0
RepliesAreAnalyses = (known : ℕ) (kinds sent given pending : List ℕ) (asks gave : List (List ℕ)) (more left : Feeding) (n : ℕ) (asked answer : List ℕ)
    (version : ℕ) (j : JobTree) (t : Table) (ds : List Derivation) →
    IsBegun known kinds sent (given ++ pending) → AreFrames sent asks more → AreFrames given gave left → slice_get asks n ≡ Some asked → slice_get gave n ≡ Some answer →
    SpellsIn version asked (request j) → SpellsIn version answer (reply j.ticket j.kinds t ds) → IsAnalysis j (record { table = t; derivations = ds })
