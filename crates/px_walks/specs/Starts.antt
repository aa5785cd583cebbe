-- What stands in the slots of a body before its first command.
use Rattle.std.specs.Prelude.{ℕ, List, Option, Some, None, slice_get}
use Rattle.px_terms.specs.declared.types.ValueType.{ValueType}
use Rattle.px_terms.specs.declared.conjuncts.Content.{Content}
use Rattle.px_terms.specs.declared.conjuncts.Content.TheVariants.{Unwritten}
use Rattle.px_entry.specs.Contents.{variable_content}

abbrev pub given_content : ℕ → Option ValueType → Content
given_content slot None = Unwritten
given_content slot (Some t) = variable_content t slot

-- a parameter, or nothing that was written
abbrev pub first_content : List ValueType → ℕ → Content
first_content ts slot = given_content slot (slice_get ts slot)
