-- The blocks of atoms in a heap.
use Rattle.std.proofs.Common.{◌≡◌, inl, inr, ℕ, Bool, true, false, cond, List, [], ◌∷◌, Some, None, refl, sym, ap, ◌∙◌, subst}
use Rattle.std.specs.Prelude.{option_map}
use Rattle.std.proofs.lemmas.Bool.{eq-eqb}
use Rattle.std.proofs.lemmas.Option.{none-some}
use Rattle.px_terms.specs.Valuations.{Valuation}
use Rattle.px_terms.specs.declared.types.Value.{Value}
use Rattle.px_terms.specs.declared.types.Value.TheVariants.{Block}
use Rattle.px_entry.specs.declared.atoms.Atom.{Atom}
use Rattle.px_entry.specs.Standing.{is_block, atom_at, ArePlaced}
use Rattle.px_meaning.specs.Heaps.{HeapMap, HeapBlock, join, or_else, AreApart}
use Rattle.px_meaning.specs.Triples.{block_of, heap_of}
use Rattle.px_manifest.proofs.ManifestEntries.{block_at}
use Rattle.px_leak.proofs.Members.{Has}

is_block_so : (n : ℕ) (u : Value) → u ≡ Block n → is_block n u ≡ true
is_block_so n u e = ap (is_block n) e ∙ eq-eqb n n refl

-- where atoms are placed, each is the atom at its block
pub own_place : (v : Valuation) (xs : List Atom) → ArePlaced v xs → (a : Atom) → Has xs a → (n : ℕ) → v a.place.0 ≡ Block n → atom_at v xs n ≡ Some a
own_place v [] p a h n e = absurd h
own_place v (b ∷ xs) p a (inl f) n e =
    ap (λ q. cond q (Some b) (atom_at v xs n)) (is_block_so n (v b.place.0) (ap (λ (z : Atom). v z.place.0) f ∙ e)) ∙ ap Some f
own_place v (b ∷ xs) p a (inr h) n e = by (is_block n (v b.place.0)) refl (own_place v xs p.3 a h n e)
  where
    by : (q : Bool) → is_block n (v b.place.0) ≡ q → atom_at v xs n ≡ Some a → cond q (Some b) (atom_at v xs n) ≡ Some a
    by false is rest = rest
    by true is rest =
        let same : Block p.0 ≡ Block n = sym p.1 ∙ block_at n (v b.place.0) is in
        let number : p.0 ≡ n = cc in
        absurd (none-some a (sym (subst (λ m. atom_at v xs m ≡ None) number p.2) ∙ rest))

module _ (v : Valuation) (xs : List Atom) (placed : ArePlaced v xs) (heap : HeapMap) (apart : AreApart (heap_of v xs) heap) where
  pub block_there : (a : Atom) → Has xs a → (n : ℕ) → v a.place.0 ≡ Block n → heap_of v xs n ≡ Some (block_of v a)
  block_there a h n e = ap (option_map (block_of v)) (own_place v xs placed a h n e)

  pub joined_there : (a : Atom) → Has xs a → (n : ℕ) → v a.place.0 ≡ Block n → join (heap_of v xs) heap n ≡ Some (block_of v a)
  joined_there a h n e = ap (λ o. or_else o (heap n)) (block_there a h n e)

  -- its number is new
  pub block_new : (a : Atom) → Has xs a → (n : ℕ) → v a.place.0 ≡ Block n → heap n ≡ None
  block_new a h n e = elim (apart n) [ inl none ↦ absurd (none-some (block_of v a) (sym none ∙ block_there a h n e)) | inr none ↦ none ]

  -- a number that the heap had has its block still
  pub still_there : (n : ℕ) (b : HeapBlock) → heap n ≡ Some b → join (heap_of v xs) heap n ≡ Some b
  still_there n b e = elim (apart n) [ inl none ↦ ap (λ o. or_else o (heap n)) none ∙ e | inr none ↦ absurd (none-some b (sym none ∙ e)) ]
