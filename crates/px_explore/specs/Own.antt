-- The derivation of each entry by the steps of its own path, and the whole analysis of a job.
use Rattle.std.specs.Prelude.{◌≡◌, List, [], ◌∷◌, ◌++◌, map}
use Rattle.px_entry.specs.declared.derivations.Derivation.{Derivation}
use Rattle.px_entry.specs.declared.entries.Entry.{Entry}
use Rattle.px_callgraph.specs.JobTree.{JobTree}
use Rattle.px_symexec.specs.Tables.{Selects, Gives, IsRow, IsTable}
use Rattle.px_explore.specs.declared.results.Analysis.{Analysis}
use Rattle.px_explore.specs.Derived.{derivation}
use Rattle.px_explore.specs.Paths.{Path, paths_of}

-- the path ends, and values are found for what it assumes: it gives an entry
abbrev pub IsFound : JobTree → Path → Type 0
IsFound j p = (x : Entry) × IsRow j p.prefix (Gives x)

-- the entries that paths give, in order
abbrev pub AreEntriesOf : JobTree → List Path → List Entry → Type 0
AreEntriesOf j [] xs = xs ≡ []
AreEntriesOf j (p ∷ ps) xs = (x : Entry) × (rest : List Entry) × (xs ≡ x ∷ rest) × IsRow j p.prefix (Gives x) × AreEntriesOf j ps rest

-- the steps of each path, with an `End` after them
abbrev pub derivations_of : List Path → List Derivation
derivations_of ps = map (λ (p : Path). derivation p.steps) ps

-- what those of these paths give that give an entry, in order: the entries, and the derivations by their own steps
pub record AreOwnOf (j : JobTree) (ps : List Path) (xs : List Entry) (ds : List Derivation) : Type 0 where
  pub found : List Path
  pub selects : Selects (IsFound j) ps found
  pub entries_are : AreEntriesOf j found xs
  pub derivations_are : ds ≡ derivations_of found

-- The entries are those that the paths of the job give up to some path, in order, and the derivation of each is that
-- by the steps of its own path.
pub record AreOwn (j : JobTree) (xs : List Entry) (ds : List Derivation) : Type 0 where
  pub before : List Path
  pub rest : List Path
  pub split : paths_of j ≡ before ++ rest
  pub own : AreOwnOf j before xs ds

-- what is owed of a job: its table, and for each entry the derivation by the steps of its own path
pub record IsAnalysis (j : JobTree) (a : Analysis) : Type 0 where
  pub table : IsTable j a.table
  pub own : AreOwn j a.table.entries a.derivations
