-- Of steps and an entry one thing is true.
use Rattle.std.specs.Prelude.{◌≡◌, ℕ, List}
use Rattle.px_entry.specs.declared.derivations.Rule.{Rule}
use Rattle.px_entry.specs.declared.derivations.Step.{Step}
use Rattle.px_entry.specs.declared.entries.Entry.{Entry}
use Rattle.px_callgraph.specs.JobTree.{JobTree}
use Rattle.px_callgraph.specs.Derivations.{Derives, FailsFirst}

-- Steps that derive an entry have none that fails, and one step alone is the first that fails: so what is answered
-- is answered exactly there.
pub record OneOutcome : Type 0 where
  pub apart : (j : JobTree) (x : Entry) (steps : List Step) (i : ℕ) (r : Rule) → Derives j x steps → FailsFirst j x steps i r → ⊥
  pub once : (j : JobTree) (x : Entry) (steps : List Step) (i k : ℕ) (r q : Rule) → FailsFirst j x steps i r → FailsFirst j x steps k q → (i ≡ k) × (r ≡ q)
