-- What atoms stand for under a valuation.
use Rattle.std.specs.Prelude.{◌≡◌, ℕ, Bool, false, cond, nat_eq, List, [], ◌∷◌, map, Option, Some, None, ⊤}
use Rattle.px_terms.specs.Words.{signed}
use Rattle.px_terms.specs.Valuations.{Valuation}
use Rattle.px_terms.specs.Conjuncts.{word_of, place_of}
use Rattle.px_terms.specs.declared.types.Value.{Value}
use Rattle.px_terms.specs.declared.types.Value.TheVariants as value
use Rattle.px_terms.specs.declared.conjuncts.Content.{Content}
use Rattle.px_terms.specs.declared.conjuncts.Content.TheVariants.{Unwritten, Word, Place, Cell}
use Rattle.px_entry.specs.declared.atoms.Atom.{Atom}

-- what a content is; a variable that isn't a word counts as 0 in a polynomial
abbrev pub content_value : Valuation → Content → Value
content_value v Unwritten = value.Unwritten
content_value v (Word p) = value.Word (signed (word_of v p))
content_value v (Place a) = place_of v a
content_value v (Cell x) = v x.0

abbrev pub contents_value : Valuation → List Content → List Value
contents_value v cells = map (content_value v) cells

abbrev pub is_block : ℕ → Value → Bool
is_block n (value.Word z) = false
is_block n value.Null = false
is_block n (value.Block b) = nat_eq b n
is_block n value.Unwritten = false

-- The heap of a list of atoms: which of them, if one, is the block with a number.
abbrev pub atom_at : Valuation → List Atom → ℕ → Option Atom
atom_at v [] n = None
atom_at v (a ∷ rest) n = cond (is_block n (v a.place.0)) (Some a) (atom_at v rest n)

-- their places are blocks, each of its own
abbrev pub ArePlaced : Valuation → List Atom → Type 0
ArePlaced v [] = ⊤
ArePlaced v (a ∷ rest) = (n : ℕ) × (v a.place.0 ≡ value.Block n) × (atom_at v rest n ≡ None) × ArePlaced v rest
