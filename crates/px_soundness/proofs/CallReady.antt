-- All blocks that an entry requires are met: what stands for its variables but the new ones.
use Rattle.std.proofs.Common.{◌≡◌, ◌≢◌, ◌⊎◌, ℕ, zero, suc, ◌+◌, ◌<◌, Bool, true, false, cond, not, nat_eq, ◌||◌, Option, Some, None, List, [], ◌∷◌, length, slice_get, inl, inr, refl, sym, ap, ◌∙◌, subst, arith}
use Rattle.std.specs.List.{list_all}
use Rattle.std.proofs.lemmas.Bool.{and_parts}
use Rattle.std.proofs.lemmas.Option.{same_Some}
use Rattle.px_terms.specs.Substitutions.{content_for}
use Rattle.px_terms.specs.declared.types.BlockType.{BlockType}
use Rattle.px_terms.specs.declared.types.ValueType.{ValueType}
use Rattle.px_terms.specs.declared.variables.Var.{Var}
use Rattle.px_terms.specs.declared.variables.VarInfo.{VarInfo}
use Rattle.px_terms.specs.declared.variables.Sort.{Sort}
use Rattle.px_terms.specs.declared.variables.Sort.TheVariants as sort
use Rattle.px_terms.specs.declared.conjuncts.Content.{Content}
use Rattle.px_entry.specs.declared.entries.Entry.{Entry}
use Rattle.px_entry.specs.Sorts.{is_some_and, is_given_sort, is_cell_sort, is_input_sort, is_made_sort, is_cell}
use Rattle.px_entry.specs.Regular.{are_given, cells_of}
use Rattle.px_entry.proofs.Lists.{Each}
use Rattle.px_callgraph.specs.declared.states.State.{State}
use Rattle.px_callgraph.specs.Renaming.{Substitution, is_new}
use Rattle.px_soundness.proofs.WellFormed.{Good, times}
use Rattle.px_soundness.proofs.AtomHeaps.{absent}
use Rattle.px_soundness.proofs.FitsThrough.{Suits}
use Rattle.px_soundness.proofs.CallStands.{StandsBefore}
use Rattle.px_soundness.proofs.CallStages.{SuitsSoFar, Matched}
use Rattle.px_meaning.proofs.Joins.{same_or_other}

-- ---- lists

pub each_for : (Q : Content → Type 0) (σ : Substitution) → Each (λ (b : Var × Content). Q b.1) σ → (y : ℕ) (c : Content) → content_for σ y ≡ Some c → Q c
each_for Q [] g y c e = absent e
each_for Q (b ∷ σ) g y c e = by (nat_eq b.0.0 y) (each_for Q σ g.1 y c) e
  where
    by : (q : Bool) → (content_for σ y ≡ Some c → Q c) → cond q (Some b.1) (content_for σ y) ≡ Some c → Q c
    by true rest e = subst Q (same_Some _ _ e) g.0
    by false rest e = rest e

-- of a number that stands there
pub each_times : (Q : ℕ → Type 0) (ys : List ℕ) (y : ℕ) → Each Q ys → 0 < times y ys → Q y
each_times Q [] y h l = absurd (let n : ⊥ = omega (arith, l) in n)
each_times Q (z ∷ ys) y h l = by (same_or_other y z) (each_times Q ys y h.1)
  where
    by : ((y ≡ z) × (nat_eq y z ≡ true)) ⊎ ((y ≢ z) × (nat_eq y z ≡ false)) → (0 < times y ys → Q y) → Q y
    by (inl e) rest = subst Q (sym e.0) h.0
    by (inr e) rest = rest (subst (λ q. 0 < cond q (1 + times y ys) (times y ys)) e.1 l)

-- a given variable is one of the first
pub given_below : (n : ℕ) (vars : List VarInfo) (y : ℕ) (i : VarInfo) → are_given n vars ≡ true → slice_get vars y ≡ Some i → is_given_sort i.sort ≡ true → y < n
given_below zero vars y i e at given = absurd (none vars y e at)
  where
    both : (b : Bool) → b ≡ true → not b ≡ true → ⊥
    both true e f = let g : false ≡ true = f in cc
    both false e f = let g : false ≡ true = e in cc

    none : (vars : List VarInfo) (y : ℕ) → list_all (λ (i : VarInfo). not (is_given_sort i.sort)) vars ≡ true → slice_get vars y ≡ Some i → ⊥
    none [] y e at = absent at
    none (k ∷ vars) zero e at = both (is_given_sort i.sort) given (subst (λ (z : VarInfo). not (is_given_sort z.sort) ≡ true) (same_Some _ _ at) (and_parts (not (is_given_sort k.sort)) (list_all (λ (i : VarInfo). not (is_given_sort i.sort)) vars) e).0)
    none (k ∷ vars) (suc y) e at = none vars y (and_parts (not (is_given_sort k.sort)) (list_all (λ (i : VarInfo). not (is_given_sort i.sort)) vars) e).1 at
given_below (suc n) [] y i e at given = absent at
given_below (suc n) (k ∷ vars) zero i e at given = omega arith
given_below (suc n) (k ∷ vars) (suc y) i e at given = let l = given_below n vars y i (and_parts (is_given_sort k.sort) (are_given n vars) e).1 at given in omega (arith, l)

pub get_there : {A : Type 0} (xs : List A) (n : ℕ) → n < length xs → (x : A) × (slice_get xs n ≡ Some x)
get_there [] n l = absurd (let f : ⊥ = omega (arith, l) in f)
get_there (x ∷ xs) zero l = (x, refl)
get_there (x ∷ xs) (suc n) l = get_there xs n (omega (arith, l))

-- ---- all blocks are met

module _ (types : List BlockType) (arguments : List Content) (x : Entry) (u : State) (σ : Substitution) (used : List ℕ) (m : Matched types arguments x u σ [] used) (given : are_given (length arguments) x.vars ≡ true) where
  found_given : (y : ℕ) (i : VarInfo) → slice_get x.vars y ≡ Some i → is_given_sort i.sort ≡ true → (c : Content) × (content_for σ y ≡ Some c)
  found_given y i at g = let (c, is) = get_there arguments y (given_below (length arguments) x.vars y i given at g) in (c, m.given y c is)

  found_cell : (y : ℕ) (i : VarInfo) → slice_get x.vars y ≡ Some i → is_cell_sort i.sort ≡ true → (c : Content) × (content_for σ y ≡ Some c)
  found_cell y i at g =
      let cell : is_cell x.vars y ≡ true = ap (λ (o : Option VarInfo). is_some_and o (λ (k : VarInfo). is_cell_sort k.sort)) at ∙ g in
      let o = m.once y cell in
      each_times (λ z. (c : Content) × (content_for σ z ≡ Some c)) (cells_of m.first) y m.cells (omega (arith, o))

  old_content : (y : ℕ) (i : VarInfo) → slice_get x.vars y ≡ Some i → (s : Sort) → i.sort ≡ s → is_new i ≡ false → (c : Content) × (content_for σ y ≡ Some c) × Good u.vars u.pure c × Suits u.vars i.sort i.value c
  old_content y i at sort.Given is old =
      let (c, e) = found_given y i at (ap is_given_sort is) in
      (c, e, each_for (Good u.vars u.pure) σ m.good y c e, subst (λ s. Suits u.vars s i.value c) (sym is) (subst (λ s. SuitsSoFar u.vars s i.value c) is (m.suits y i c at e)))
  old_content y i at sort.Cell is old =
      let (c, e) = found_cell y i at (ap is_cell_sort is) in
      (c, e, each_for (Good u.vars u.pure) σ m.good y c e, subst (λ s. Suits u.vars s i.value c) (sym is) (subst (λ s. SuitsSoFar u.vars s i.value c) is (m.suits y i c at e)))
  old_content y i at sort.Input is old = absurd (let f : true ≡ false = sym (ap (λ s. is_input_sort s || is_made_sort s) is) ∙ old in cc)
  old_content y i at sort.Made is old = absurd (let f : true ≡ false = sym (ap (λ s. is_input_sort s || is_made_sort s) is) ∙ old in cc)

  new_none : (y : ℕ) (i : VarInfo) → slice_get x.vars y ≡ Some i → is_new i ≡ true → content_for σ y ≡ None
  new_none y i at new = by (content_for σ y) refl
    where
      no : (s : Sort) (t : ValueType) (c : Content) → (is_input_sort s || is_made_sort s) ≡ true → SuitsSoFar u.vars s t c → ⊥
      no sort.Given t c e h = let f : false ≡ true = e in cc
      no sort.Cell t c e h = let f : false ≡ true = e in cc
      no sort.Input t c e h = h
      no sort.Made t c e h = h

      by : (o : Option Content) → content_for σ y ≡ o → content_for σ y ≡ None
      by None e = e
      by (Some c) e = absurd (no i.sort i.value c new (m.suits y i c at e))

  pub stands_before : StandsBefore u.vars u.pure x.vars σ
  stands_before = record { content = λ y i at old. old_content y i at i.sort refl old; none = new_none }
