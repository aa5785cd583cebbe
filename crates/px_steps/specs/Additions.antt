-- What a read finds in a state, and how much is added.
use Rattle.std.specs.Prelude.{ℕ, Bool, true, false}
use Rattle.px_terms.specs.declared.conjuncts.Content.{Content}
use Rattle.px_terms.specs.declared.conjuncts.Content.TheVariants as content
use Rattle.px_steps.specs.declared.reads.Found.{Found}
use Rattle.px_steps.specs.declared.reads.Found.TheVariants.{Nothing, Value, Cell}

-- what a read finds of a content
abbrev pub found_in : Content → Found
found_in content.Unwritten = Nothing
found_in (content.Word p) = Value
found_in (content.Place a) = Value
found_in (content.Cell x) = Cell x

abbrev pub ones : Bool → ℕ
ones true = 1
ones false = 0
