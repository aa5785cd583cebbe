-- Which procedures are ready to be claimed, by the statuses in a row.
use Rattle.std.specs.Prelude.{◌≡◌, ◌≢◌, ℕ, ◌<◌, ◌≤◌, ◌&&◌, ◌||◌, cond, List, [], length, Bool, true, false, not, nat_eq, nat_lt, Option, Some, None, slice_index, slice_index_or}
use Rattle.px_core.specs.BodyTree.{BodyTree}
use Rattle.px_callgraph.specs.Callees.{AreTogether}
use Rattle.px_callgraph.specs.CallGraphs.{IsGraphOf}
use Rattle.px_pieces.specs.declared.desk.Who.{Who}
use Rattle.px_pieces.specs.declared.desk.Who.TheVariants.{Parent, Worker}
use Rattle.px_pieces.specs.declared.desk.Status.{Status}
use Rattle.px_pieces.specs.declared.desk.Status.TheVariants.{Waiting, Held, Settled}
use Rattle.px_book.specs.Flags.{flag_at}
use Rattle.px_book.specs.declared.ready.Ready.{Ready}

-- where a procedure stands; one beyond the row stands nowhere
abbrev pub status_at : List (Option Status) → ℕ → Option Status
status_at statuses f = slice_index_or statuses f None

-- it is of the desk, and not settled
abbrev pub is_unsettled : Option Status → Bool
is_unsettled None = false
is_unsettled (Some (Waiting losses)) = true
is_unsettled (Some (Held ticket who losses)) = true
is_unsettled (Some (Settled ticket who)) = false

-- g is to be settled before f is claimed
pub record Blocks (bodies : ℕ → Option BodyTree) (statuses : List (Option Status)) (f g : ℕ) : Type 0 where
  pub unsettled : is_unsettled (status_at statuses g) ≡ true
  pub apart : ¬ AreTogether bodies f g

abbrev pub callees_in : List (List ℕ) → ℕ → List ℕ
callees_in graph f = slice_index_or graph f []

abbrev pub NoneBlocks : (ℕ → Option BodyTree) → List (Option Status) → ℕ → List ℕ → ℕ → Type 0
NoneBlocks bodies statuses f callees n = (k : ℕ) → k < n → ¬ Blocks bodies statuses f (slice_index callees k)

-- the first n callees needn't be awaited, and the next, if there is one, must
pub record IsPast (bodies : ℕ → Option BodyTree) (statuses : List (Option Status)) (f : ℕ) (callees : List ℕ) (n : ℕ) : Type 0 where
  pub none : NoneBlocks bodies statuses f callees n
  pub next : n < length callees → Blocks bodies statuses f (slice_index callees n)

-- whether any worker may claim it, or the parent alone, where it has nothing to await
abbrev pub for_workers : Option Status → Bool
for_workers None = false
for_workers (Some (Waiting losses)) = nat_lt losses 3
for_workers (Some (Held ticket who losses)) = false
for_workers (Some (Settled ticket who)) = false

abbrev pub for_parent : Option Status → Bool
for_parent None = false
for_parent (Some (Waiting losses)) = not (nat_lt losses 3)
for_parent (Some (Held ticket who losses)) = false
for_parent (Some (Settled ticket who)) = false

-- all its callees are passed
abbrev pub is_free : List (List ℕ) → Ready → ℕ → Bool
is_free graph r f = nat_eq (slice_index r.passed.items f) (length (callees_in graph f))

-- its flags say whether it may be claimed
pub record IsFlagged (graph : List (List ℕ)) (statuses : List (Option Status)) (r : Ready) (f : ℕ) : Type 0 where
  pub workers : flag_at r.workers f ≡ (for_workers (status_at statuses f) && is_free graph r f)
  pub parent : flag_at r.parent f ≡ (for_parent (status_at statuses f) && is_free graph r f)

-- as many of each as there are procedures
pub record IsSized (n : ℕ) (r : Ready) : Type 0 where
  pub passed : length r.passed.items ≡ n
  pub workers : length r.workers ≡ n
  pub parent : length r.parent ≡ n

-- both say the same of f
pub record SameOf (f : ℕ) (r s : Ready) : Type 0 where
  pub passed : slice_index s.passed.items f ≡ slice_index r.passed.items f
  pub workers : flag_at s.workers f ≡ flag_at r.workers f
  pub parent : flag_at s.parent f ≡ flag_at r.parent f

-- Each flag is right, and as many callees are passed as can be.
pub record IsReady (graph : List (List ℕ)) (statuses : List (Option Status)) (r : Ready) : Type 0 where
  pub sized : IsSized (length graph) r
  pub flagged : (f : ℕ) → f < length graph → IsFlagged graph statuses r f
  pub inside : (f : ℕ) → f < length graph → slice_index r.passed.items f ≤ length (callees_in graph f)
  pub passed : (bodies : ℕ → Option BodyTree) → IsGraphOf bodies graph → (f : ℕ) → f < length graph →
      IsPast bodies statuses f (callees_in graph f) (slice_index r.passed.items f)

-- ---- the next

-- the lesser of two places, of those that are there
abbrev pub lesser : Option ℕ → Option ℕ → Option ℕ
lesser None o = o
lesser (Some a) None = Some a
lesser (Some a) (Some b) = Some (cond (nat_lt a b) a b)

-- a flag says that it may be claimed
abbrev pub is_flagged : Who → Ready → ℕ → Bool
is_flagged Parent r f = flag_at r.workers f || flag_at r.parent f
is_flagged (Worker n) r f = flag_at r.workers f

-- the least of those, if there is one
abbrev pub IsLeastOf : Who → Ready → Option ℕ → Type 0
IsLeastOf who r None = (f : ℕ) → ¬ (is_flagged who r f ≡ true)
IsLeastOf who r (Some f) = (is_flagged who r f ≡ true) × ((g : ℕ) → g < f → ¬ (is_flagged who r g ≡ true))
