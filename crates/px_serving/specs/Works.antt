-- The command that serves.
use Rattle.std.specs.Prelude.{◌≡◌, ℕ, List, ⊤, Result, Ok, Err}
use Rattle.px_lines.specs.declared.cause.Cause.{Cause}
use Rattle.px_lines.specs.declared.cause.Cause.TheVariants as C
use Rattle.px_lines.specs.declared.status.Status.{Status}
use Rattle.px_lines.specs.declared.status.Status.TheVariants.{Done}
use Rattle.px_lines.specs.Sinks.{Change}
use Rattle.px_io.specs.Faults.{HasCauseOf}
use Rattle.px_worker.specs.declared.faults.ServeFault.{ServeFault}
use Rattle.px_worker.specs.declared.faults.ServeFault.TheVariants.{Read, Write, Bad, Kinds, NoMemory}
use Rattle.px_worker.specs.Served.{Serves}

-- the cause for which a run ends whose worker has this fault
abbrev pub cause_of : ServeFault → Cause
cause_of Read = C.UnreadInput
cause_of Write = C.Unwritten
cause_of (Bad n) = C.BadRequest n
cause_of (Kinds n) = C.OtherDomains n
cause_of NoMemory = C.NoMemory

-- how a run ends whose worker has this outcome
abbrev pub ended_of : Result ⊤ ServeFault → Result Status Cause
ended_of (Ok _) = Ok Done
ended_of (Err fault) = Err (cause_of fault)

-- A worker that knows both versions, with domains of these kinds, served, and a run ends so: its input, and what it put out.
pub record Works (kinds : List ℕ) (input out : Change) (ended : Result Status Cause) : Type 0 where
  pub outcome : Result ⊤ ServeFault
  pub serves : Serves 2 kinds input.old input.new out.old out.new outcome
  pub read_cause : HasCauseOf Read input.before input.now outcome
  pub write_cause : HasCauseOf Write out.before out.now outcome
  pub ended_is : ended ≡ ended_of outcome
