-- What is true of entries that derive.
use Rattle.std.specs.Prelude.{◌≡◌, ℕ, zero, suc, List, length, Some}
use Rattle.px_base.specs.declared.trace.ProcId.{ProcId}
use Rattle.px_core.specs.BodyTree.{BodyTree}
use Rattle.px_core.specs.Constants.{HasConstantsInRange}
use Rattle.px_entry.specs.declared.entries.Entry.{Entry}
use Rattle.px_entry.specs.declared.derivations.Step.{Step}
use Rattle.px_entry.specs.Regular.{IsRegular}
use Rattle.px_entry.specs.Satisfied.{IsSatisfied}
use Rattle.px_callgraph.specs.JobTree.{JobTree, callee_in}
use Rattle.px_callgraph.specs.Calls.{entry_in}
use Rattle.px_callgraph.specs.Callees.{NamedIn}
use Rattle.px_callgraph.specs.Derivations.{Derives}
use Rattle.px_check.specs.declared.checked.Checked.{Checked}
use Rattle.px_check.specs.Answers.{entry_of, job_of}
use Rattle.px_meaning.specs.CoreCalls.{CoreProgram, CoreCalls}
use Rattle.px_meaning.specs.Triples.{IsValid}

-- The job is of a procedure of the program: it has its body and the program's block types. That the body's constants
-- are words of 32 bits is part of being the program's, as lowering gives them.
pub record IsJobOf (P : CoreProgram) (j : JobTree) : Type 0 where
  pub body : P.bodies j.proc.0 ≡ Some j.body
  pub constants : HasConstantsInRange j.body
  pub types : j.types ≡ P.types

-- an entry of a procedure with this body: it is regular, and a valid triple over the calls of the core
pub record IsEntryOf (P : CoreProgram) (f : ProcId) (body : BodyTree) (x : Entry) : Type 0 where
  pub proc : x.proc ≡ f
  pub regular : IsRegular P.types body.parameters body.result x
  pub valid : IsValid (CoreCalls P f.0) (length body.parameters) x

-- each entry in the table of a procedure that the body calls is one of that procedure; a body that calls nobody asks
-- nothing of tables
abbrev pub HasTrueTables : CoreProgram → JobTree → Type 0
HasTrueTables P j =
    (f : ProcId) (n : ℕ) (x : Entry) → NamedIn f.0 j.body.commands → entry_in (callee_in j.callees f) n ≡ Some x → (b : BodyTree) × (P.bodies f.0 ≡ Some b) × IsEntryOf P f b x

-- the entry is of the job's procedure, and true of its own values
abbrev pub IsTrueEntry : CoreProgram → JobTree → Entry → Type 0
IsTrueEntry P j x = IsEntryOf P j.proc j.body x × IsSatisfied x

-- so is an entry that derives from a job of the program, whose callees' tables are true
abbrev pub EntriesAreValid : Type 0
EntriesAreValid = (P : CoreProgram) (j : JobTree) (x : Entry) (steps : List Step) → IsJobOf P j → HasTrueTables P j → Derives j x steps → IsTrueEntry P j x

-- The tables are built from below, no deeper than this: each entry in the table of a procedure that the body calls
-- derives from a job of that procedure whose tables are built so, one less deep.
abbrev pub IsBuilt : ℕ → CoreProgram → JobTree → Type 0
IsBuilt zero P j = ⊥
IsBuilt (suc depth) P j =
    IsJobOf P j
    × ((f : ProcId) (n : ℕ) (x : Entry) → NamedIn f.0 j.body.commands → entry_in (callee_in j.callees f) n ≡ Some x → (k : JobTree) × (k.proc ≡ f) × IsBuilt depth P k × (steps : List Step) × Derives k x steps)

-- what derives from such a job is true, and nothing is assumed of its tables
abbrev pub BuiltEntriesAreValid : Type 0
BuiltEntriesAreValid = (P : CoreProgram) (j : JobTree) (x : Entry) (steps : List Step) (depth : ℕ) → IsBuilt depth P j → Derives j x steps → IsTrueEntry P j x

-- and what every `Checked` has: there are steps that derive its entry from its job
pub record CheckedAreValid : Type 0 where
  pub derives : (c : Checked) → (steps : List Step) × Derives (job_of c) (entry_of c) steps
  pub valid : (P : CoreProgram) (c : Checked) → IsJobOf P (job_of c) → HasTrueTables P (job_of c) → IsTrueEntry P (job_of c) (entry_of c)
