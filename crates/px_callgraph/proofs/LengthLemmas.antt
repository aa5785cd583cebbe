-- How many atoms and variables there are, and the innermost open loop.
use Rattle.std.proofs.Common.{◌≡◌, ℕ, zero, suc, List, [], ◌∷◌, ◌++◌, Some, length, refl, ap}
use Rattle.px_base.specs.declared.trace.Site.{Site}
use Rattle.px_terms.specs.declared.types.ValueType.{ValueType}
use Rattle.px_entry.specs.declared.atoms.Atom.{Atom}
use Rattle.px_entry.specs.declared.atoms.AtomState.{AtomState}
use Rattle.px_callgraph.specs.Accesses.{set_atom, cell_infos}
use Rattle.px_callgraph.specs.Commands.{last_loop, all_but_last}

pub length_set_atom : (n : ℕ) (state : AtomState) (xs : List Atom) → length (set_atom n state xs) ≡ length xs
length_set_atom n state [] = refl
length_set_atom zero state (x ∷ xs) = refl
length_set_atom (suc n) state (x ∷ xs) = ap suc (length_set_atom n state xs)

pub length_infos : (ts : List ValueType) → length (cell_infos ts) ≡ length ts
length_infos [] = refl
length_infos (t ∷ ts) = ap suc (length_infos ts)

pub last_is : (xs : List (Site × ℕ)) (l : Site × ℕ) → last_loop (xs ++ l ∷ []) ≡ Some l
last_is [] l = refl
last_is (x ∷ []) l = refl
last_is (x ∷ y ∷ xs) l = last_is (y ∷ xs) l

pub but_last_is : (xs : List (Site × ℕ)) (l : Site × ℕ) → all_but_last (xs ++ l ∷ []) ≡ xs
but_last_is [] l = refl
but_last_is (x ∷ []) l = refl
but_last_is (x ∷ y ∷ xs) l = ap (λ z. x ∷ z) (but_last_is (y ∷ xs) l)
