-- Of what passed in an exchange one thing is true.
use Rattle.std.specs.Prelude.{◌≡◌, ⊤, ℕ, ◌+◌, Option, Some}
use Rattle.px_entry.specs.declared.tables.Table.{Table}
use Rattle.px_callgraph.specs.JobTree.{JobTree}
use Rattle.px_pieces.specs.declared.desk.Lost.{Lost}
use Rattle.px_pieces.specs.declared.desk.Lost.TheVariants.{Send, Read, Closed, Frame, Ticket, Kinds, Refused, Large, NoMemory}
use Rattle.px_pool.specs.Talks.{Talk, Passes}
use Rattle.px_pool.specs.Words.{IsInStep}
use Rattle.px_pool.specs.Starts.{HasFrames, GaveFrames}
use Rattle.px_pool.specs.Outcomes.{IsAnswered, IsCauseOf}

-- What passed shows the cause. A call that failed may have sent all, and memory runs out anywhere.
abbrev pub IsShown : Lost → Type 0
IsShown Send = ⊥
IsShown NoMemory = ⊥
IsShown Read = ⊤
IsShown (Closed n) = ⊤
IsShown Frame = ⊤
IsShown (Ticket asked given) = ⊤
IsShown Kinds = ⊤
IsShown (Refused entry step) = ⊤
IsShown Large = ⊤

-- In a version what passed shows one cause at most, and none where it gives a table; and it gives one table at most.
pub record OneOutcome : Type 0 where
  pub one_cause : (v : ℕ) (j : JobTree) (x : Talk) (why other : Lost) → IsShown why → IsShown other → IsCauseOf v j x why → IsCauseOf v j x other → why ≡ other
  pub apart : (v : ℕ) (j : JobTree) (x : Talk) (t : Table) (why : Lost) → IsShown why → IsAnswered v j x t → IsCauseOf v j x why → ⊥
  pub one_table : (v : ℕ) (j : JobTree) (x : Talk) (t u : Table) → IsAnswered v j x t → IsAnswered v j x u → t ≡ u

-- Where a link is in step, and what passes over it gives a table, it has given exactly one whole frame more; so one more at least.
pub record AnswersAreOneFrame : Type 0 where
  pub exactly : (v : ℕ) (j : JobTree) (old new x : Talk) (t : Table) (n : ℕ) → IsInStep (Some old) → Passes (Some old) (Some new) x → IsAnswered v j x t →
      HasFrames old.given n → HasFrames new.given (n + 1)
  pub at_least : (v : ℕ) (j : JobTree) (old new : Option Talk) (x : Talk) (t : Table) (n : ℕ) → IsInStep old → Passes old new x → IsAnswered v j x t →
      GaveFrames old n → GaveFrames new (n + 1)
