-- What it means that a look refutes a drop.
use Rattle.std.specs.Prelude.{◌≡◌, ℕ, List, All, Contains, Option}
use Rattle.px_terms.specs.Valuations.{Valuation}
use Rattle.px_terms.specs.Conjuncts.{IsTrueUnder}
use Rattle.px_terms.specs.declared.conjuncts.Conj.{Conj}
use Rattle.px_terms.specs.declared.conjuncts.Content.{Content}
use Rattle.px_entry.specs.declared.entries.Exit.{Exit}
use Rattle.px_entry.specs.declared.tables.Cause.TheVariants as cause
use Rattle.px_entry.specs.declared.tables.Gap.{Gap}
use Rattle.px_entry.specs.declared.tables.Table.{Table}
use Rattle.px_callgraph.specs.declared.states.State.{State}
use Rattle.px_callgraph.specs.JobTree.{JobTree}
use Rattle.px_symexec.specs.Prefixes.{Ended, constraint, prefixes_of}
use Rattle.px_symexec.specs.Tables.{undecided, IsTable}
use Rattle.px_bits.specs.declared.looks.Look.TheVariants.{Refuted}
use Rattle.px_bits.specs.Looks.{IsLook}

-- a drop is that of a path to an end of the procedure, and no valuation makes true what the path assumes
pub record IsOfNoPath (j : JobTree) (gap : Gap) : Type 0 where
  pub state : State
  pub exit : Exit
  pub result : Option Content
  pub ends : Contains (prefixes_of j) (Ended state exit result)
  pub hard : List Conj
  pub dropped : gap ≡ undecided state hard
  pub none : (v : Valuation) → ¬ All (IsTrueUnder v) (constraint state)

-- so is each drop of a job's table that is undecided for conjuncts that a look refutes
abbrev pub RefutedDrops : Type 0
RefutedDrops =
    (conflicts : ℕ) (j : JobTree) (table : Table) (gap : Gap) (hard : List Conj) →
    IsTable j table → Contains table.drops gap → gap.cause ≡ cause.Undecided hard → IsLook conflicts hard Refuted → IsOfNoPath j gap
