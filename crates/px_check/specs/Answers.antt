-- What a check of an entry answers.
use Rattle.std.specs.Prelude.{◌≡◌, ℕ, zero, suc, List, [], ◌∷◌, Option, Some, None, Result, Ok, Err, ⊤}
use Rattle.px_terms.specs.declared.conjuncts.Content.{Content}
use Rattle.px_entry.specs.declared.derivations.Derivation.{Derivation}
use Rattle.px_entry.specs.declared.derivations.Rule.{Rule}
use Rattle.px_entry.specs.declared.derivations.Step.{Step}
use Rattle.px_entry.specs.declared.entries.Entry.{Entry}
use Rattle.px_entry.specs.declared.entries.Exit.{Exit}
use Rattle.px_callgraph.specs.declared.states.State.{State}
use Rattle.px_callgraph.specs.JobTree.{JobTree, job_tree}
use Rattle.px_callgraph.specs.Derivations.{Derives, FailsFirst}
use Rattle.px_check.specs.declared.checked.Checked.{Checked}
use Rattle.px_check.specs.declared.checked.CheckFault.{CheckFault}
use Rattle.px_check.specs.declared.checked.CheckFault.TheVariants.{Refused, NoMemory}
use Rattle.px_check.specs.declared.checked.TableFault.{TableFault}
use Rattle.px_check.specs.declared.checked.TableFault.TheVariants as table

-- what a `Checked` shows: its entry, and the job from which that derives, as plain data
abbrev pub entry_of : Checked → Entry
entry_of c = c.entry

abbrev pub job_of : Checked → JobTree
job_of c = job_tree c.job.value

-- an entry's fields are those that a path reached
pub record HasEnd (j : JobTree) (s : State) (e : Exit) (r : Option Content) (x : Entry) : Type 0 where
  pub proc : x.proc ≡ j.proc
  pub trace : x.trace ≡ s.trace
  pub exit : x.exit ≡ e
  pub result : x.result ≡ r
  pub vars : x.vars ≡ s.vars
  pub pure : x.pure ≡ s.pure
  pub pre : x.pre ≡ s.pre
  pub post : x.post ≡ s.atoms

-- the first of the steps after an `End`, if one is there
abbrev pub IsAfterEnd : List Step → ℕ → Option (ℕ × Rule) → Type 0
IsAfterEnd steps i None = steps ≡ []
IsAfterEnd steps i (Some f) = (st : Step) × (rest : List Step) × (steps ≡ st ∷ rest) × (f.0 ≡ i) × (f.1 ≡ st.rule)

-- no step fails, or this one is the first that does, with its rule
abbrev pub IsVerdict : JobTree → Entry → List Step → Option (ℕ × Rule) → Type 0
IsVerdict j x steps None = Derives j x steps
IsVerdict j x steps (Some f) = FailsFirst j x steps f.0 f.1

-- The entry itself and its job, where the steps derive it; else the step that fails first, and the entry.
abbrev pub IsAnswer : JobTree → Entry → List Step → Result Checked CheckFault → Type 0
IsAnswer j x steps (Ok c) = (entry_of c ≡ x) × (job_of c ≡ j) × Derives j x steps
IsAnswer j x steps (Err (Refused i r y)) = (y ≡ x) × FailsFirst j x steps i r
IsAnswer j x steps (Err NoMemory) = ⊤

-- Each of these is the entry itself and its job, and derives by the derivation beside it; there are as many of all three.
abbrev pub AreCheckedBy : JobTree → List Entry → List Derivation → List Checked → Type 0
AreCheckedBy j [] [] [] = ⊤
AreCheckedBy j (x ∷ xs) (d ∷ ds) (c ∷ cs) = (entry_of c ≡ x) × (job_of c ≡ j) × Derives j x d.steps × AreCheckedBy j xs ds cs
AreCheckedBy j _ _ _ = ⊥

-- the entry at this place is the first that isn't derived by the derivation beside it, of which this step fails first
abbrev pub IsFirstRefused : JobTree → List Entry → List Derivation → ℕ → ℕ → Rule → Type 0
IsFirstRefused j (x ∷ xs) (d ∷ ds) zero i r = FailsFirst j x d.steps i r
IsFirstRefused j (x ∷ xs) (d ∷ ds) (suc n) i r = Derives j x d.steps × IsFirstRefused j xs ds n i r
IsFirstRefused j _ _ n i r = ⊥

-- The same of entries and the derivations beside them: all of them, where each derives; else the first that doesn't.
abbrev pub AreAnswers : JobTree → List Entry → List Derivation → Result (List Checked) TableFault → Type 0
AreAnswers j xs ds (Ok cs) = AreCheckedBy j xs ds cs
AreAnswers j xs ds (Err (table.Refused n i r)) = IsFirstRefused j xs ds n i r
AreAnswers j xs ds (Err table.NoMemory) = ⊤

-- the fault of a table, of which the entry at this place has this one
abbrev pub fault_of : ℕ → CheckFault → TableFault
fault_of n (Refused i r x) = table.Refused n i r
fault_of n NoMemory = table.NoMemory
