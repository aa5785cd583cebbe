-- A required block is met: what stands for the entry's variables then.
use Rattle.std.proofs.Common.{◌≡◌, ◌≢◌, ℕ, ◌+◌, ◌<◌, Bool, true, false, cond, nat_eq, Some, None, List, [], ◌∷◌, inl, inr, refl, sym, ap, ◌∙◌, subst, arith}
use Rattle.std.specs.Prelude.{flat_map}
use Rattle.std.proofs.lemmas.Bool.{and_parts, eqb-true}
use Rattle.std.proofs.lemmas.Option.{same_Some}
use Rattle.px_terms.specs.Substitutions.{content_for}
use Rattle.px_terms.specs.declared.types.ValueType.{ValueType}
use Rattle.px_terms.specs.declared.variables.Var.{Var}
use Rattle.px_terms.specs.declared.variables.VarInfo.{VarInfo}
use Rattle.px_terms.specs.declared.conjuncts.Content.{Content}
use Rattle.px_terms.specs.declared.conjuncts.Content.TheVariants.{Unwritten, Word, Place, Cell}
use Rattle.px_terms.specs.declared.conjuncts.Conj.{Conj}
use Rattle.px_entry.specs.Contents.{fits_cell, is_cell_of, fit_each, cell_variables}
use Rattle.px_entry.specs.Regular.{is_own_cell}
use Rattle.px_entry.proofs.Lists.{Each}
use Rattle.px_callgraph.specs.Renaming.{Substitution, stand_cells}
use Rattle.px_soundness.proofs.WellFormed.{Good, times}
use Rattle.px_soundness.proofs.AtomHeaps.{absent}
use Rattle.px_soundness.proofs.CallTaken.{AreDistinct}
use Rattle.px_soundness.proofs.CallMatches.{AreBound}
use Rattle.px_meaning.proofs.Joins.{same_or_other}

-- ---- what stands for the cells of a block

module _ (vars : List VarInfo) (pure : List Conj) where
  pub cells_good : (ps cs : List Content) → Each (Good vars pure) cs → Each (λ (b : Var × Content). Good vars pure b.1) (stand_cells ps cs)
  cells_good [] cs g = tt
  cells_good (Cell y ∷ ps) [] g = tt
  cells_good (Cell y ∷ ps) (c ∷ cs) g = (g.0, cells_good ps cs g.1)
  cells_good (Unwritten ∷ ps) cs g = tt
  cells_good (Word p ∷ ps) cs g = tt
  cells_good (Place a ∷ ps) cs g = tt

-- a cell variable of the entry, and a content that fits its type
pub cells_suit : (vars xs : List VarInfo) (ts : List ValueType) (ps cs : List Content) → fit_each (is_own_cell xs) ts ps ≡ true → fit_each (fits_cell vars) ts cs ≡ true → (y : ℕ) (c : Content) → content_for (stand_cells ps cs) y ≡ Some c →
    (t : ValueType) × (is_cell_of xs t y ≡ true) × (fits_cell vars t c ≡ true)
cells_suit vars xs [] [] cs e f y c is = absent is
cells_suit vars xs [] (p ∷ ps) cs e f y c is = cc
cells_suit vars xs (t ∷ ts) [] cs e f y c is = cc
cells_suit vars xs (t ∷ ts) (p ∷ ps) [] e f y c is = cc
cells_suit vars xs (t ∷ ts) (Unwritten ∷ ps) (d ∷ cs) e f y c is = cc
cells_suit vars xs (t ∷ ts) (Word p ∷ ps) (d ∷ cs) e f y c is = cc
cells_suit vars xs (t ∷ ts) (Place a ∷ ps) (d ∷ cs) e f y c is = cc
cells_suit vars xs (t ∷ ts) (Cell z ∷ ps) (d ∷ cs) e f y c is =
    let own = and_parts (is_own_cell xs t (Cell z)) (fit_each (is_own_cell xs) ts ps) e in
    let other = and_parts (fits_cell vars t d) (fit_each (fits_cell vars) ts cs) f in
    by (nat_eq z.0 y) refl own.0 other.0 (cells_suit vars xs ts ps cs own.1 other.1 y c) is
  where
    by : (q : Bool) → nat_eq z.0 y ≡ q → is_cell_of xs t z.0 ≡ true → fits_cell vars t d ≡ true → (content_for (stand_cells ps cs) y ≡ Some c → (t : ValueType) × (is_cell_of xs t y ≡ true) × (fits_cell vars t c ≡ true)) →
        cond q (Some d) (content_for (stand_cells ps cs) y) ≡ Some c → (t : ValueType) × (is_cell_of xs t y ≡ true) × (fits_cell vars t c ≡ true)
    by true same own other rest is = (t, subst (λ n. is_cell_of xs t n ≡ true) (eqb-true z.0 y same) own, subst (λ n. fits_cell vars t n ≡ true) (same_Some _ _ is) other)
    by false same own other rest is = rest is

-- nothing for a variable that isn't among them
pub cells_none : (ps cs : List Content) (y : ℕ) → times y (flat_map cell_variables ps) ≡ 0 → content_for (stand_cells ps cs) y ≡ None
cells_none [] cs y e = refl
cells_none (Cell z ∷ ps) [] y e = refl
cells_none (Unwritten ∷ ps) cs y e = refl
cells_none (Word p ∷ ps) cs y e = refl
cells_none (Place a ∷ ps) cs y e = refl
cells_none (Cell z ∷ ps) (c ∷ cs) y e = elim (same_or_other y z.0) [
  | inl h ↦ absurd (let f : 1 + times y (flat_map cell_variables ps) ≡ 0 = sym (ap (λ q. cond q (1 + times y (flat_map cell_variables ps)) (times y (flat_map cell_variables ps))) h.1) ∙ e in let n : ⊥ = omega (arith, f) in n)
  | inr h ↦ ap (λ q. cond q (Some c) (content_for (stand_cells ps cs) y)) (turned z.0 y h.0)
      ∙ cells_none ps cs y (sym (ap (λ q. cond q (1 + times y (flat_map cell_variables ps)) (times y (flat_map cell_variables ps))) h.1) ∙ e)
]
  where
    turned : (m n : ℕ) → n ≢ m → nat_eq m n ≡ false
    turned m n d = elim (same_or_other m n) [ inl k ↦ absurd (d (sym k.0)) | inr k ↦ k.1 ]

-- each cell has something that stands for it
pub cells_found : (σ : Substitution) (ps cs : List Content) → AreBound σ ps cs → Each (λ y. (c : Content) × (content_for σ y ≡ Some c)) (flat_map cell_variables ps)
cells_found σ [] cs h = tt
cells_found σ (Cell y ∷ ps) [] h = absurd h
cells_found σ (Cell y ∷ ps) (c ∷ cs) h = ((c, h.0), cells_found σ ps cs h.1)
cells_found σ (Unwritten ∷ ps) cs h = absurd h
cells_found σ (Word p ∷ ps) cs h = absurd h
cells_found σ (Place a ∷ ps) cs h = absurd h

-- ---- numbers that stand once

none_apart : (y : ℕ) (zs : List ℕ) → times y zs ≡ 0 → Each (λ z. y ≢ z) zs
none_apart y [] e = tt
none_apart y (z ∷ zs) e = elim (same_or_other y z) [
  | inl h ↦ absurd (let f : 1 + times y zs ≡ 0 = sym (ap (λ q. cond q (1 + times y zs) (times y zs)) h.1) ∙ e in let n : ⊥ = omega (arith, f) in n)
  | inr h ↦ (h.0, none_apart y zs (sym (ap (λ q. cond q (1 + times y zs) (times y zs)) h.1) ∙ e))
]

-- where each stands at most once, they are distinct
pub distinct_once : (ys : List ℕ) → ((y : ℕ) → times y ys < 2) → AreDistinct ys
distinct_once [] h = tt
distinct_once (y ∷ ys) h = (none_apart y ys none, distinct_once ys (λ z. less (nat_eq z y) (times z ys) (h z)))
  where
    less : (q : Bool) (n : ℕ) → cond q (1 + n) n < 2 → n < 2
    less true n l = omega (arith, l)
    less false n l = l

    none : times y ys ≡ 0
    none = elim (same_or_other y y) [
      | inl e ↦ (let l : 1 + times y ys < 2 = subst (λ q. cond q (1 + times y ys) (times y ys) < 2) e.1 (h y) in omega (arith, l))
      | inr e ↦ absurd (e.0 refl)
    ]
