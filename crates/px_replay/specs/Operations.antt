-- What operators and comparisons answer where values are of their kind, and else that an execution goes no further.
use Rattle.std.specs.Prelude.{Bool, true, false, not, Option, Some, None, Result, Ok, Err}
use Rattle.px_base.specs.declared.trace.Site.{Site}
use Rattle.px_base.specs.declared.trace.Kind.TheVariants.{UninitialisedRead}
use Rattle.px_meaning.specs.Values.{Value, Word, Null, Block, Unwritten}
use Rattle.px_meaning.specs.TreeExecution.{Outcome, gives, errs, calculation, RelationHolds, RelationFails}
use Rattle.px_meaning.specs.Calls.{error, outside}
use Rattle.px_meaning.specs.Operations.{on_words}
use Rattle.px_syntax.specs.declared.typed_expression.Relation.{Relation}
use Rattle.px_syntax.specs.declared.typed_expression.Relation.TheVariants as relation
use Rattle.px_syntax.specs.declared.typed_expression.Arithmetic.{Arithmetic}
use Rattle.px_replay.specs.declared.stop.Stop.{Stop}
use Rattle.px_replay.specs.declared.stop.Stop.TheVariants as stop

-- a value where there is one
abbrev pub or_departs : Option Value → Result Value Stop
or_departs (Some v) = Ok v
or_departs None = Err stop.Departs

-- what an execution goes on with, or the error in which it ends
abbrev pub or_stops : Option Outcome → Result Value Stop
or_stops (Some (gives v)) = Ok v
or_stops (Some (errs (error kind) site)) = Err (stop.Failed kind site)
or_stops (Some (errs (outside word) site)) = Err stop.Departs
or_stops None = Err stop.Departs

-- an operator between two values
abbrev pub calculates : Arithmetic → Value → Value → Result Value Stop
calculates op x y = or_stops (on_words (calculation op) x y)

-- a value that is used: an unwritten one is an error
abbrev pub used_value : Value → Site → Result Value Stop
used_value (Word z) site = Ok (Word z)
used_value Null site = Ok Null
used_value (Block n) site = Ok (Block n)
used_value Unwritten site = Err (stop.Failed UninitialisedRead site)

-- the outcome of a comparison, if it has one
abbrev pub IsOutcome : Relation → Value → Value → Result Bool Stop → Type 0
IsOutcome relation x y (Ok true) = RelationHolds relation x y
IsOutcome relation x y (Ok false) = RelationFails relation x y
IsOutcome relation x y (Err stop.Departs) = (RelationHolds relation x y → ⊥) × (RelationFails relation x y → ⊥)
IsOutcome relation x y (Err (stop.Failed kind site)) = ⊥
IsOutcome relation x y (Err stop.NoMemory) = ⊥

-- the outcome of a comparison of two pointers, by whether they are the same
abbrev pub place_outcome : Relation → Bool → Result Bool Stop
place_outcome relation.SamePlace same = Ok same
place_outcome relation.OtherPlace same = Ok (not same)
place_outcome relation.Equal same = Err stop.Departs
place_outcome relation.Unequal same = Err stop.Departs
place_outcome relation.Less same = Err stop.Departs
place_outcome relation.Greater same = Err stop.Departs
place_outcome relation.AtMost same = Err stop.Departs
place_outcome relation.AtLeast same = Err stop.Departs
