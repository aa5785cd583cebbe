-- Conjuncts read by their places.
use Rattle.std.proofs.Common.{◌≡◌, ℕ, List, get_or, ◌∙◌}
use Rattle.std.specs.Prelude.{Some, slice_get}
use Rattle.std.proofs.lemmas.Option.{get_or_from_slice_get}
use Rattle.px_terms.specs.declared.conjuncts.Conj.{Conj}

-- what was read is what stands there
pub read_conjunct : (cs : List Conj) (i : ℕ) (a d : Conj) → a ≡ get_or cs i a → slice_get cs i ≡ Some d → a ≡ d
read_conjunct cs i a d e f = e ∙ get_or_from_slice_get cs i d a f
