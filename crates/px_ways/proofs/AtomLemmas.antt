-- What is done to atoms, and what stands in the cells of one that is met.
use Rattle.std.proofs.Common.{◌≡◌, ◌∙◌, ℕ, zero, suc, ◌+◌, ◌<◌, ◌≤◌, List, [], ◌∷◌, ◌++◌, length, drop, get_or, Some, option_map, refl, ap, sym, arith, append_assoc}
use Rattle.std.proofs.Math.Seq.{drop-cons}
use Rattle.std.specs.List.{slice_set}
use Rattle.std.proofs.lemmas.Option.{slice_get-get_or}
use Rattle.px_terms.specs.declared.types.ValueType.{ValueType}
use Rattle.px_terms.specs.declared.conjuncts.Content.{Content}
use Rattle.px_terms.specs.declared.conjuncts.Content.TheVariants.{Cell}
use Rattle.px_entry.specs.declared.atoms.Atom.{Atom}
use Rattle.px_entry.specs.declared.atoms.AtomState.{AtomState}
use Rattle.px_entry.specs.declared.atoms.AtomState.TheVariants.{Live}
use Rattle.px_callgraph.specs.Accesses.{set_atom, with_state, cell_contents}
use Rattle.px_ways.specs.Atoms.{state_at}

-- ---- atoms

-- the atom with a number is written anew
pub set_atom_is : (n : ℕ) (state : AtomState) (xs : List Atom) (d : Atom) → n < length xs → set_atom n state xs ≡ slice_set xs n (with_state state (get_or xs n d))
set_atom_is n state [] d h = refl
set_atom_is zero state (x ∷ xs) d h = refl
set_atom_is (suc n) state (x ∷ xs) d h = ap (λ z. x ∷ z) (set_atom_is n state xs d (omega arith))

-- beyond the last there is none
pub set_atom_past : (n : ℕ) (state : AtomState) (xs : List Atom) → length xs ≤ n → set_atom n state xs ≡ xs
set_atom_past n state [] h = refl
set_atom_past zero state (x ∷ xs) h = absurd (omega arith)
set_atom_past (suc n) state (x ∷ xs) h = ap (λ z. x ∷ z) (set_atom_past n state xs (omega arith))

-- ---- cells

-- the content of the i-th cell, and those after it
pub next_cell : (first i : ℕ) (ts : List ValueType) (d : ValueType) (found all : List Content) → i < length ts →
    found ++ cell_contents (first + i) (drop i ts) ≡ all → (found ++ Cell (record { 0 = first + i }) ∷ []) ++ cell_contents (first + (i + 1)) (drop (i + 1) ts) ≡ all
next_cell first i ts d found all l h =
    append_assoc found (Cell (record { 0 = first + i }) ∷ []) (cell_contents (first + (i + 1)) (drop (i + 1) ts))
    ∙ ap (λ z. found ++ (Cell (record { 0 = first + i }) ∷ cell_contents z (drop (i + 1) ts))) (let e : first + (i + 1) ≡ suc (first + i) = omega arith in e)
    ∙ ap (λ z. found ++ (Cell (record { 0 = first + i }) ∷ cell_contents (suc (first + i)) (drop z ts))) (let e : i + 1 ≡ suc i = omega arith in e)
    ∙ ap (λ z. found ++ cell_contents (first + i) z) (sym (drop-cons ts i d l))
    ∙ h

-- ---- changed atoms

-- what was written in the place of an atom is the atom in its new state
pub wrote : (n : ℕ) (state : AtomState) (xs ys : List Atom) (d b : Atom) → n < length xs → d ≡ get_or xs n d → b ≡ with_state state d → xs ≡ ys → slice_set xs n b ≡ set_atom n state ys
wrote n state xs ys d b h e1 e2 e3 =
    ap (slice_set xs n) (e2 ∙ ap (with_state state) e1)
    ∙ sym (set_atom_is n state xs d h)
    ∙ ap (set_atom n state) e3

state_of : (xs ys : List Atom) (n : ℕ) (d : Atom) (state : AtomState) → n < length xs → d ≡ get_or xs n d → xs ≡ ys → state_at ys n ≡ Some state → d.state ≡ state
state_of xs ys n d state h e1 e2 e3 =
    let e : Some (get_or xs n d).state ≡ Some state = ap (option_map (λ (x : Atom). x.state)) (sym (slice_get-get_or xs n d h)) ∙ ap (λ z. state_at z n) e2 ∙ e3 in
    ap (λ (x : Atom). x.state) e1 ∙ cc

-- and so where the new state depends on the cells
pub wrote_cells : (f : List Content → List Content) (n : ℕ) (xs ys : List Atom) (d b : Atom) → n < length xs → d ≡ get_or xs n d
    → ((cells : List Content) → d.state ≡ Live cells → b ≡ with_state (Live (f cells)) d) → xs ≡ ys
    → (cells : List Content) → state_at ys n ≡ Some (Live cells) → slice_set xs n b ≡ set_atom n (Live (f cells)) ys
wrote_cells f n xs ys d b h e1 k e2 cells e3 = wrote n (Live (f cells)) xs ys d b h e1 (k cells (state_of xs ys n d (Live cells) h e1 e2 e3)) e2
