-- Entries and the derivations beside them.
use Rattle.std.specs.Prelude.{◌≡◌, ◌≢◌, ◌⊎◌, ℕ, zero, suc, List, [], ◌∷◌, length}
use Rattle.px_entry.specs.declared.derivations.Derivation.{Derivation}
use Rattle.px_entry.specs.declared.derivations.Rule.{Rule}
use Rattle.px_entry.specs.declared.entries.Entry.{Entry}
use Rattle.px_callgraph.specs.JobTree.{JobTree}
use Rattle.px_callgraph.specs.Derivations.{Derives, FailsFirst}

-- each entry derives from the job by the derivation beside it, and there are as many
abbrev pub AreDerived : JobTree → List Entry → List Derivation → Type 0
AreDerived j [] ds = ds ≡ []
AreDerived j (x ∷ xs) [] = ⊥
AreDerived j (x ∷ xs) (d ∷ ds) = Derives j x d.steps × AreDerived j xs ds

-- the entry is of another procedure, and then the step is 0; or this step is the first that fails
abbrev pub FailsAt : JobTree → Entry → Derivation → ℕ → Type 0
FailsAt j x d step = ((x.proc ≢ j.proc) × (step ≡ 0)) ⊎ ((x.proc ≡ j.proc) × ((r : Rule) × FailsFirst j x d.steps step r))

-- the entry at this place fails at this step, and each before it derives by the derivation beside it
abbrev pub FirstFails : JobTree → List Entry → List Derivation → ℕ → ℕ → Type 0
FirstFails j [] ds n step = ⊥
FirstFails j (x ∷ xs) [] n step = ⊥
FirstFails j (x ∷ xs) (d ∷ ds) zero step = FailsAt j x d step
FirstFails j (x ∷ xs) (d ∷ ds) (suc n) step = Derives j x d.steps × FirstFails j xs ds n step

-- There aren't as many derivations as entries, and then both numbers are 0; or this entry is the first that fails, at this step.
abbrev pub AreRefused : JobTree → List Entry → List Derivation → ℕ → ℕ → Type 0
AreRefused j xs ds entry step =
    ((length ds ≢ length xs) × (entry ≡ 0) × (step ≡ 0)) ⊎ ((length ds ≡ length xs) × FirstFails j xs ds entry step)
