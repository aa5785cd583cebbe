-- What code answers of operators and comparisons: what they make, or that it is too long to be kept.
use Rattle.std.specs.Prelude.{◌≡◌, true, false, List, Option, Some, None}
use Rattle.std.specs.List.{list_any}
use Rattle.px_terms.specs.Polynomials.{Polynomial}
use Rattle.px_terms.specs.declared.conjuncts.Place.TheVariants as place
use Rattle.px_terms.specs.declared.conjuncts.Content.{Content}
use Rattle.px_terms.specs.declared.conjuncts.Content.TheVariants.{Word, Place}
use Rattle.px_terms.specs.declared.conjuncts.Conj.{Conj}
use Rattle.px_core.specs.declared.command.Operand.{Operand}
use Rattle.px_core.specs.declared.command.Operand.TheVariants as operand
use Rattle.px_entry.specs.Sorts.{is_long, is_long_conjunct}
use Rattle.px_callgraph.specs.States.{content_at, number}
use Rattle.px_match.specs.declared.operations.Operated.{Operated}
use Rattle.px_match.specs.declared.operations.Operated.TheVariants as operated
use Rattle.px_match.specs.declared.conditions.Compared.{Compared}
use Rattle.px_match.specs.declared.conditions.Compared.TheVariants as compared

-- the content of an operand where these are the slots
abbrev pub operand_in : List Content → Operand → Content
operand_in slots (operand.Slot n) = content_at slots n
operand_in slots (operand.Word z) = Word (number z)
operand_in slots operand.Null = Place place.Null

-- a polynomial, unless it is too long
abbrev pub IsKept : Option Polynomial → Polynomial → Type 0
IsKept None p = is_long p ≡ true
IsKept (Some q) p = (q ≡ p) × (is_long p ≡ false)

-- the content that an operator makes, if it makes one and none of its polynomials is too long
abbrev pub IsOperated : Operated → Option Content → (Content → List Polynomial) → Type 0
IsOperated operated.Unfit o terms = o ≡ None
IsOperated (operated.Made c) o terms = (o ≡ Some c) × (list_any is_long (terms c) ≡ false)
IsOperated operated.TooLong o terms = (c : Content) × (o ≡ Some c) × (list_any is_long (terms c) ≡ true)

-- the conjunct that a comparison assumes, if it assumes one and none of its polynomials is too long
abbrev pub IsCompared : Compared → Option Conj → Type 0
IsCompared compared.Unfit o = o ≡ None
IsCompared (compared.Assumes c) o = (o ≡ Some c) × (is_long_conjunct c ≡ false)
IsCompared compared.TooLong o = (c : Conj) × (o ≡ Some c) × (is_long_conjunct c ≡ true)
