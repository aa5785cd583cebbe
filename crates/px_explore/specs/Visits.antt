-- What the search has found, and how a visit adds to it.
use Rattle.std.specs.Prelude.{◌≡◌, ◌⊎◌, ℕ, ◌+◌, ◌<◌, ◌≤◌, List, [], ◌∷◌, ◌++◌, length, Option, Some, None}
use Rattle.px_entry.specs.declared.derivations.Derivation.{Derivation}
use Rattle.px_entry.specs.declared.derivations.Step.{Step}
use Rattle.px_entry.specs.declared.tables.Gap.{Gap}
use Rattle.px_entry.specs.declared.tables.Cause.{Cause}
use Rattle.px_callgraph.specs.JobTree.{JobTree}
use Rattle.px_symexec.specs.Prefixes.{Prefix}
use Rattle.px_symexec.specs.Tables.{IsLive, ended_case, ended_cases, Row, Nothing, Gives, Misses, entries_in, drops_in, IsEnd, Walked}
use Rattle.px_explore.specs.declared.results.SearchResult.{SearchResult}
use Rattle.px_explore.specs.declared.results.Counted.{Counted}
use Rattle.px_explore.specs.declared.branch_points.BranchPoint.{BranchPoint}
use Rattle.px_explore.specs.declared.weigh.Weighed.{Weighed}
use Rattle.px_explore.specs.declared.weigh.Weighed.TheVariants as W
use Rattle.px_explore.specs.Derived.{derivation}
use Rattle.px_explore.specs.Paths.{Path, prefixes_in, paths_of}
use Rattle.px_explore.specs.Own.{AreOwnOf}
use Rattle.px_explore.specs.Weights.{row_of, cases_of, IsOut}
use Rattle.px_explore.specs.Thinned.{Thins}
use Rattle.px_explore.specs.BranchPoints.{left_of, AreForks}

-- ---- the result so far

pub record IsEmpty (f : SearchResult) : Type 0 where
  pub live : f.live ≡ 0
  pub ended : f.ended ≡ 0
  pub entries : f.entries ≡ []
  pub derivations : f.derivations ≡ []
  pub drops : f.drops ≡ []

-- what the live ones of these paths give, none of which is the end, with the derivations by their own steps
pub record WalkedTo (j : JobTree) (before : List Path) (f : SearchResult) : Type 0 where
  pub seen : List Prefix
  pub walked : Walked j (prefixes_in before) seen f.entries f.drops
  pub own : AreOwnOf j before f.entries f.derivations
  pub live : f.live ≡ length seen
  pub ended : f.ended ≡ ended_cases seen

-- this prefix is the end
pub record IsEndAt (j : JobTree) (f : SearchResult) (p : Prefix) (why : Cause) : Type 0 where
  pub live : IsLive j.kinds p
  pub end : (seen : List Prefix) → f.live ≡ length seen → f.ended ≡ ended_cases seen → IsEnd j seen p why

-- ---- one prefix

-- an entry has the derivation by these steps
abbrev pub derivations_in : Row → List Step → List Derivation
derivations_in Nothing steps = []
derivations_in (Gives x) steps = derivation steps ∷ []
derivations_in (Misses gap) steps = []

-- one live prefix more, where these steps lead, with this row
pub record Counts (j : JobTree) (old new : SearchResult) (steps : List Step) (r : Row) (cases : ℕ) : Type 0 where
  pub room : old.live < j.limits.nodes
  pub room_for_case : old.ended ≤ j.limits.paths → old.ended + cases ≤ j.limits.paths
  pub live : new.live ≡ old.live + 1
  pub ended : new.ended ≡ old.ended + cases
  pub entries : new.entries ≡ old.entries ++ entries_in r
  pub derivations : new.derivations ≡ old.derivations ++ derivations_in r steps
  pub drops : new.drops ≡ old.drops ++ drops_in r

-- an open point of choice with ways left is put upon the others, with the number of items that are held
abbrev pub IsOpened : ℕ → List BranchPoint → List BranchPoint → Weighed → Type 0
IsOpened held old new W.Out = new ≡ old
IsOpened held old new (W.Open fork) =
    ((f : BranchPoint) × (f.fork ≡ fork) × (f.next ≡ 0) × (f.held ≡ held) × (new ≡ old ++ f ∷ [])) ⊎ ((fork.ways.items ≡ []) × (new ≡ old))
IsOpened held old new W.Past = new ≡ old
IsOpened held old new (W.Gives x) = new ≡ old
IsOpened held old new (W.Misses gap) = new ≡ old

-- a prefix that is so many ended cases is the end
abbrev pub IsEndFor : JobTree → SearchResult → ℕ → Cause → Type 0
IsEndFor j f cases why =
    (seen : List Prefix) (p : Prefix) → f.live ≡ length seen → f.ended ≡ ended_cases seen → ended_case p ≡ cases → IsEnd j seen p why

-- what is taken up of a prefix, where these steps lead: nothing, or its row; or it is the end
abbrev pub IsTakenUp : JobTree → Weighed → List Step → ℕ → SearchResult → SearchResult → List BranchPoint → List BranchPoint → Option Cause → Type 0
IsTakenUp j w steps held old new points points' None =
    IsOpened held points points' w × ((IsOut w × (new ≡ old)) ⊎ ((¬ IsOut w) × Counts j old new steps (row_of w) (cases_of w)))
IsTakenUp j w steps held old new points points' (Some why) = (¬ IsOut w) × (new ≡ old) × (points' ≡ points) × IsEndFor j old (cases_of w) why

-- ---- visits

-- the path isn't live
abbrev pub IsGone : JobTree → Path → Type 0
IsGone j p = ¬ IsLive j.kinds p.prefix

-- some paths were seen, and of the others all are left but some that aren't live; or the first one is the end
abbrev pub IsVisited : JobTree → List Path → SearchResult → SearchResult → List BranchPoint → List BranchPoint → Option Cause → Type 0
IsVisited j ps old new points points' None =
    (seen : List Path) × (0 < length seen) × Thins (IsGone j) (ps ++ left_of j points) (seen ++ left_of j points')
    × (AreForks j points → AreForks j points')
    × ((before : List Path) → WalkedTo j before old → WalkedTo j (before ++ seen) new)
IsVisited j ps old new points points' (Some why) =
    (p : Path) × (more : List Path) × (ps ≡ p ∷ more) × (new ≡ old) × IsEndAt j old p.prefix why

-- all paths up to the end were seen
abbrev pub IsDone : JobTree → SearchResult → Option Cause → Type 0
IsDone j f None = WalkedTo j (paths_of j) f
IsDone j f (Some why) =
    (before : List Path) × (p : Path) × (rest : List Path) × (paths_of j ≡ before ++ p ∷ rest) × WalkedTo j before f × IsEndAt j f p.prefix why

abbrev pub last_of : Option Cause → List Gap
last_of None = []
last_of (Some why) = record { trace = []; cause = why } ∷ []

pub record IsFinished (f : SearchResult) (end : Option Cause) (c : Counted) : Type 0 where
  pub entries : c.table.entries ≡ f.entries
  pub derivations : c.derivations ≡ f.derivations
  pub drops : c.table.drops ≡ f.drops ++ last_of end
  pub live : c.live ≡ f.live + length (last_of end)
