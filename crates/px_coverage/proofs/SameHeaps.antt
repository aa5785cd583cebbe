-- Two valuations under which some atoms are the same blocks at the same places.
use Rattle.std.proofs.Common.{◌≡◌, ℕ, Bool, true, false, cond, Some, List, [], ◌∷◌, refl, ap, ◌∙◌}
use Rattle.std.specs.Prelude.{option_map}
use mathlib.Core.Path.{fun_ext}
use Rattle.px_terms.specs.Valuations.{Valuation}
use Rattle.px_entry.specs.declared.atoms.Atom.{Atom}
use Rattle.px_entry.specs.Standing.{is_block, atom_at}
use Rattle.px_entry.proofs.Lists.{Each}
use Rattle.px_meaning.specs.Heaps.{HeapBlock}
use Rattle.px_meaning.specs.Triples.{state_of, block_of, heap_of}
use Rattle.px_soundness.proofs.AtomHeaps.{Placed}

module _ (v w : Valuation) where
  abbrev pub IsSame : Atom → Type 0
  IsSame a = (w a.place.0 ≡ v a.place.0) × (state_of w a.state ≡ state_of v a.state)

  block_same : (a : Atom) → IsSame a → block_of w a ≡ block_of v a
  block_same a h = ap (λ st. let b : HeapBlock = record { block_type = a.block.0; state = st } in b) h.1

  heap_at : (atoms : List Atom) → Each IsSame atoms → (n : ℕ) → heap_of w atoms n ≡ heap_of v atoms n
  heap_at [] h n = refl
  heap_at (a ∷ rest) h n = ap (λ u. option_map (block_of w) (cond (is_block n u) (Some a) (atom_at w rest n))) h.0.0 ∙ by (is_block n (v a.place.0)) (heap_at rest h.1 n)
    where
      by : (q : Bool) → heap_of w rest n ≡ heap_of v rest n → option_map (block_of w) (cond q (Some a) (atom_at w rest n)) ≡ option_map (block_of v) (cond q (Some a) (atom_at v rest n))
      by true e = ap Some (block_same a h.0)
      by false e = e

  pub heaps_same : (atoms : List Atom) → Each IsSame atoms → heap_of w atoms ≡ heap_of v atoms
  heaps_same atoms h = fun_ext (heap_at atoms h)

  pub placed_same : (atoms : List Atom) → Each IsSame atoms → Placed v atoms → Placed w atoms
  placed_same [] h p = tt
  placed_same (a ∷ rest) h (n, at, out, p) = (n, h.0.0 ∙ at, heap_at rest h.1 n ∙ out, placed_same rest h.1 p)
