-- What an analysis is, and what its derivations derive.
use Rattle.std.specs.Prelude.{◌≡◌, ℕ, List}
use Rattle.px_entry.specs.declared.derivations.Derivation.{Derivation}
use Rattle.px_entry.specs.declared.entries.Entry.{Entry}
use Rattle.px_callgraph.specs.JobTree.{JobTree}
use Rattle.px_symexec.specs.Prefixes.{prefixes_of}
use Rattle.px_symexec.specs.Laws.{with_ticket}
use Rattle.px_explore.specs.declared.results.Analysis.{Analysis}
use Rattle.px_explore.specs.Derived.{AreDerived}
use Rattle.px_explore.specs.Paths.{prefixes_in, paths_of}
use Rattle.px_explore.specs.Own.{AreOwn, IsAnalysis}

-- The prefixes of a job's paths are its prefixes, in the same order.
abbrev pub PathsArePrefixes : Type 0
PathsArePrefixes = (j : JobTree) → prefixes_in (paths_of j) ≡ prefixes_of j

-- A job has one analysis: one table, and one list of derivations.
abbrev pub OneAnalysis : Type 0
OneAnalysis = (j : JobTree) (a b : Analysis) → IsAnalysis j a → IsAnalysis j b → a ≡ b

-- It doesn't depend on the job's ticket.
abbrev pub AnalysesHaveNoTicket : Type 0
AnalysesHaveNoTicket = (j : JobTree) (n : ℕ) (a : Analysis) → IsAnalysis j a → IsAnalysis (with_ticket n j) a

-- The steps of an entry's own path derive it.
abbrev pub OwnDerive : Type 0
OwnDerive = (j : JobTree) (xs : List Entry) (ds : List Derivation) → AreOwn j xs ds → AreDerived j xs ds
