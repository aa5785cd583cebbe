-- The stages of a call: an entry is chosen, and a block is met that the path hasn't met.
use Rattle.std.proofs.Common.{◌≡◌, ◌≢◌, ℕ, zero, suc, ◌+◌, ◌<◌, Bool, true, false, cond, not, nat_eq, ◌||◌, ◌&&◌, Option, Some, None, List, [], ◌∷◌, ◌++◌, map, take, length, slice_get, refl, sym, ap, ◌∙◌, subst, arith, append-nil}
use Rattle.std.specs.List.{count_by}
use Rattle.std.proofs.lemmas.Bool.{and_parts, eq-eqb, eqb-true}
use Rattle.std.proofs.lemmas.Option.{same_Some, slice_get_within}
use Rattle.px_terms.specs.Substitutions.{content_for}
use Rattle.px_terms.specs.declared.types.BlockType.{BlockType}
use Rattle.px_terms.specs.declared.types.ValueType.{ValueType}
use Rattle.px_terms.specs.declared.types.ValueType.TheVariants.{Int, Pointer}
use Rattle.px_terms.specs.declared.variables.Var.{Var}
use Rattle.px_terms.specs.declared.variables.VarInfo.{VarInfo}
use Rattle.px_terms.specs.declared.variables.Sort.{Sort}
use Rattle.px_terms.specs.declared.variables.Sort.TheVariants as sort
use Rattle.px_terms.specs.declared.conjuncts.Content.{Content}
use Rattle.px_terms.specs.declared.conjuncts.Content.TheVariants.{Unwritten, Word, Place, Cell}
use Rattle.px_terms.specs.declared.conjuncts.Conj.{Conj}
use Rattle.px_terms.proofs.Agreement.{fits_fewer}
use Rattle.px_entry.specs.declared.atoms.Atom.{Atom}
use Rattle.px_entry.specs.declared.entries.Entry.{Entry}
use Rattle.px_entry.specs.Sorts.{is_given_sort, is_cell_sort, is_cell}
use Rattle.px_entry.specs.Contents.{is_written_of, fits_cell, fit_each}
use Rattle.px_entry.specs.Regular.{are_given, stands_once, each_once, is_own_cell, fits_block, state_cells, cells_of, are_variables_regular, is_pre_regular, is_post_regular, are_terms_regular, is_regular}
use Rattle.px_entry.proofs.Lists.{Each, each_from}
use Rattle.px_callgraph.specs.declared.states.State.{State}
use Rattle.px_callgraph.specs.Renaming.{Substitution, stand_from}
use Rattle.px_callgraph.specs.Calls.{fits_arguments}
use Rattle.px_soundness.proofs.WellFormed.{Good, times}
use Rattle.px_soundness.proofs.AtomHeaps.{absent}
use Rattle.px_soundness.proofs.Truths.{variable_is}
use Rattle.px_soundness.proofs.WellTyped.{Grown, each_push, grown_by, good_grown, fits_grown, state_fit_grown}
use Rattle.px_soundness.proofs.Complete.{times_is}
use Rattle.px_soundness.proofs.CallMatches.{AllMet, all_met_more}
use Rattle.px_soundness.proofs.CallStages.{SuitsSoFar, Matched}
use Rattle.px_callgraph.proofs.KeepLemmas.{each_weaker}

-- ---- a block that wasn't met is none of those that were used

pub used_below : (vars : List VarInfo) (pure : List Conj) (atoms : List Atom) (σ : Substitution) (used : List ℕ) (pre : List Atom) → AllMet vars pure atoms σ used pre → Each (λ k. k < length atoms) used
used_below vars pure atoms σ [] pre h = tt
used_below vars pure atoms σ (k ∷ used) [] h = absurd h
used_below vars pure atoms σ (k ∷ used) (p ∷ pre) h = (slice_get_within atoms k h.0.atom h.0.at, used_below vars pure atoms σ used pre h.1)

pub others_missing : (vars : List VarInfo) (pure : List Conj) (atoms : List Atom) (σ : Substitution) (used : List ℕ) (pre : List Atom) → AllMet vars pure atoms σ used pre → Each (λ k. k ≢ length atoms) used
others_missing vars pure atoms σ used pre h =
    each_weaker (λ k. k < length atoms) (λ k. k ≢ length atoms) (λ k l e. let f : ⊥ = omega (arith, l, e) in f) used (used_below vars pure atoms σ used pre h)

-- ---- a block is met

module _ (vars more : List VarInfo) (grown : Grown vars more) where
  written_grown : (t : ValueType) (c : Content) → is_written_of vars t c ≡ true → is_written_of more t c ≡ true
  written_grown Int (Word p) e = fits_grown vars more grown Int (Word p) e
  written_grown (Pointer b) (Place a) e = fits_grown vars more grown (Pointer b) (Place a) e
  written_grown Int (Place a) e = cc
  written_grown (Pointer b) (Word p) e = cc
  written_grown Int Unwritten e = cc
  written_grown (Pointer b) Unwritten e = cc
  written_grown Int (Cell x) e = cc
  written_grown (Pointer b) (Cell x) e = cc

  so_far_grown : (s : Sort) (t : ValueType) (c : Content) → SuitsSoFar vars s t c → SuitsSoFar more s t c
  so_far_grown sort.Given t c h = written_grown t c h
  so_far_grown sort.Cell t c h = fits_grown vars more grown t c h
  so_far_grown sort.Input t c h = h
  so_far_grown sort.Made t c h = h

-- what is known stays so where an atom and variables are added
pub met_stage : (types : List BlockType) (arguments : List Content) (x : Entry) (u : State) (σ : Substitution) (rest : List Atom) (used : List ℕ) → Matched types arguments x u σ rest used → (new : List VarInfo) (a : Atom) →
    fits_block types (fits_cell (u.vars ++ new)) a ≡ true → Each (Good (u.vars ++ new) u.pure) (state_cells a.state) →
    Matched types arguments x (record u { vars = u.vars ++ new; pre = u.pre ++ a ∷ []; atoms = u.atoms ++ a ∷ [] }) σ rest used
met_stage types arguments x u σ rest used m new a fits cells =
    let g : Grown u.vars (u.vars ++ new) = grown_by u.vars new in
    record {
      first = m.first;
      split = m.split;
      own = m.own;
      once = m.once;
      good = each_weaker _ _ (λ (b : Var × Content) h. good_grown u.vars (u.vars ++ new) g u.pure u.pure (λ x e. e) b.1 h) σ m.good;
      suits = λ y i c at e. so_far_grown u.vars (u.vars ++ new) g i.sort i.value c (m.suits y i c at e);
      given = m.given;
      cells = m.cells;
      fresh = m.fresh;
      distinct = m.distinct;
      met = subst (λ σ'. AllMet (u.vars ++ new) u.pure (u.atoms ++ a ∷ []) σ' used m.first) (append-nil σ)
          (all_met_more u.vars (u.vars ++ new) u.pure u.pure u.atoms (a ∷ []) σ [] (λ v f. fits_fewer u.vars new v f) (λ v f h. h) used m.first m.met);
      blocks = each_push _ u.atoms a
          (each_weaker _ _ (λ (b : Atom) h. (state_fit_grown u.vars (u.vars ++ new) g _ b.state h.0, each_weaker _ _ (good_grown u.vars (u.vars ++ new) g u.pure u.pure (λ x e. e)) (state_cells b.state) h.1)) u.atoms m.blocks) (fits, cells);
    }

-- ---- an entry is chosen

pub each_once_is : (such : VarInfo → Bool) (xs : List ℕ) (n : ℕ) (vars : List VarInfo) → each_once such xs n vars ≡ true → (y : ℕ) (i : VarInfo) → slice_get vars y ≡ Some i → such i ≡ true → stands_once xs (n + y) ≡ true
each_once_is such xs n [] e y i at is = absent at
each_once_is such xs n (k ∷ vars) e zero i at is =
    let b = and_parts (not (such k) || stands_once xs n) (each_once such xs (suc n) vars) e in
    let same : n ≡ n + 0 = omega arith in
    subst (λ z. stands_once xs z ≡ true) same (by (such k) (stands_once xs n) (ap such (same_Some _ _ at) ∙ is) b.0)
  where
    by : (p q : Bool) → p ≡ true → (not p || q) ≡ true → q ≡ true
    by true q e f = f
    by false q e f = cc
each_once_is such xs n (k ∷ vars) e (suc y) i at is =
    let b = and_parts (not (such k) || stands_once xs n) (each_once such xs (suc n) vars) e in
    let same : suc n + y ≡ n + suc y = omega arith in
    subst (λ z. stands_once xs z ≡ true) same (each_once_is such xs (suc n) vars b.1 y i at is)

-- what stands for parameters
pub stand_at : (n : ℕ) (cs : List Content) (y : ℕ) (c : Content) → slice_get cs y ≡ Some c → content_for (stand_from n cs) (n + y) ≡ Some c
stand_at n [] y c e = absent e
stand_at n (d ∷ cs) zero c e = ap (λ q. cond q (Some d) (content_for (stand_from (suc n) cs) (n + 0))) (eq-eqb n (n + 0) (let f : n ≡ n + 0 = omega arith in f)) ∙ e
stand_at n (d ∷ cs) (suc y) c e = by (nat_eq n (n + suc y)) refl (stand_at (suc n) cs y c e)
  where
    moved : suc n + y ≡ n + suc y
    moved = omega arith

    by : (q : Bool) → nat_eq n (n + suc y) ≡ q → content_for (stand_from (suc n) cs) (suc n + y) ≡ Some c → cond q (Some d) (content_for (stand_from (suc n) cs) (n + suc y)) ≡ Some c
    by true is rest = absurd (let f = eqb-true n (n + suc y) is in let g : ⊥ = omega (arith, f) in g)
    by false is rest = ap (content_for (stand_from (suc n) cs)) (sym moved) ∙ rest

stand_below : (n : ℕ) (cs : List Content) (z : ℕ) (c : Content) → content_for (stand_from n cs) z ≡ Some c → (y : ℕ) × (z ≡ n + y) × (slice_get cs y ≡ Some c)
stand_below n [] z c e = absent e
stand_below n (d ∷ cs) z c e = by (nat_eq n z) refl (stand_below (suc n) cs z c) e
  where
    by : (q : Bool) → nat_eq n z ≡ q → (content_for (stand_from (suc n) cs) z ≡ Some c → (y : ℕ) × (z ≡ suc n + y) × (slice_get cs y ≡ Some c)) → cond q (Some d) (content_for (stand_from (suc n) cs) z) ≡ Some c →
        (y : ℕ) × (z ≡ n + y) × (slice_get (d ∷ cs) y ≡ Some c)
    by true is rest e = let f : z ≡ n + 0 = (let g = eqb-true n z is in omega (arith, g)) in (0, f, e)
    by false is rest e = let (y, at, get) = rest e in let f : z ≡ n + suc y = omega (arith, at) in (suc y, f, get)

good_from : (vars : List VarInfo) (pure : List Conj) (n : ℕ) (cs : List Content) → Each (Good vars pure) cs → Each (λ (b : Var × Content). Good vars pure b.1) (stand_from n cs)
good_from vars pure n [] g = tt
good_from vars pure n (c ∷ cs) g = (g.0, good_from vars pure (suc n) cs g.1)

-- arguments fit the first variables
argument_fits : (vars : List VarInfo) (cs : List Content) (xs : List VarInfo) → fit_each (is_written_of vars) (map (λ (i : VarInfo). i.value) (take (length cs) xs)) cs ≡ true → (y : ℕ) (c : Content) (i : VarInfo) → slice_get cs y ≡ Some c → slice_get xs y ≡ Some i → is_written_of vars i.value c ≡ true
argument_fits vars [] xs e y c i at is = absent at
argument_fits vars (d ∷ cs) [] e y c i at is = absent is
argument_fits vars (d ∷ cs) (k ∷ xs) e zero c i at is =
    let b = and_parts (is_written_of vars k.value d) (fit_each (is_written_of vars) (map (λ (i : VarInfo). i.value) (take (length cs) xs)) cs) e in
    subst (λ z. is_written_of vars i.value z ≡ true) (same_Some _ _ at) (subst (λ (z : VarInfo). is_written_of vars z.value d ≡ true) (same_Some _ _ is) b.0)
argument_fits vars (d ∷ cs) (k ∷ xs) e (suc y) c i at is =
    let b = and_parts (is_written_of vars k.value d) (fit_each (is_written_of vars) (map (λ (i : VarInfo). i.value) (take (length cs) xs)) cs) e in argument_fits vars cs xs b.1 y c i at is

-- one of the first n variables is given
first_given : (n : ℕ) (vars : List VarInfo) (y : ℕ) (i : VarInfo) → are_given n vars ≡ true → y < n → slice_get vars y ≡ Some i → is_given_sort i.sort ≡ true
first_given zero vars y i e l at = absurd (let f : ⊥ = omega (arith, l) in f)
first_given (suc n) [] y i e l at = absent at
first_given (suc n) (k ∷ vars) zero i e l at = ap (λ (z : VarInfo). is_given_sort z.sort) (sym (same_Some _ _ at)) ∙ (and_parts (is_given_sort k.sort) (are_given n vars) e).0
first_given (suc n) (k ∷ vars) (suc y) i e l at = first_given n vars y i (and_parts (is_given_sort k.sort) (are_given n vars) e).1 (omega (arith, l)) at

module _ (types : List BlockType) (u : State) (arguments : List Content) (x : Entry) (regular : is_regular types (length arguments) x ≡ true) (fits : fits_arguments u.vars arguments x ≡ true) (good : Each (Good u.vars u.pure) arguments)
    (blocks : Each (λ (b : Atom). (fits_block types (fits_cell u.vars) b ≡ true) × Each (Good u.vars u.pure) (state_cells b.state)) u.atoms) where
  pub given_first : are_given (length arguments) x.vars ≡ true
  given_first =
      let n = length arguments in
      let r = and_parts (are_variables_regular n x && is_pre_regular types x && is_post_regular types x) (are_terms_regular x) regular in
      let s = and_parts (are_variables_regular n x && is_pre_regular types x) (is_post_regular types x) r.0 in
      let v = and_parts (are_variables_regular n x) (is_pre_regular types x) s.0 in (and_parts _ _ v.0).0

  pre_regular : is_pre_regular types x ≡ true
  pre_regular =
      let n = length arguments in
      let r = and_parts (are_variables_regular n x && is_pre_regular types x && is_post_regular types x) (are_terms_regular x) regular in
      let s = and_parts (are_variables_regular n x && is_pre_regular types x) (is_post_regular types x) r.0 in
      (and_parts (are_variables_regular n x) (is_pre_regular types x) s.0).1

  given_suits : (s : Sort) (t : ValueType) (c : Content) → is_given_sort s ≡ true → is_written_of u.vars t c ≡ true → SuitsSoFar u.vars s t c
  given_suits sort.Given t c e h = h
  given_suits sort.Cell t c e h = cc
  given_suits sort.Input t c e h = cc
  given_suits sort.Made t c e h = cc

  given_no_cell : (s : Sort) → is_given_sort s ≡ true → is_cell_sort s ≡ true → ⊥
  given_no_cell sort.Given e f = let g : false ≡ true = f in cc
  given_no_cell sort.Cell e f = let g : false ≡ true = e in cc
  given_no_cell sort.Input e f = let g : false ≡ true = e in cc
  given_no_cell sort.Made e f = let g : false ≡ true = e in cc

  one : (y : ℕ) → is_cell x.vars y ≡ true → times y (cells_of x.pre) ≡ 1
  one y cell =
      let (i, at, is) = variable_is x.vars (λ (i : VarInfo). is_cell_sort i.sort) y cell in
      let once : each_once (λ i. is_cell_sort i.sort) (cells_of x.pre) 0 x.vars ≡ true = (and_parts _ _ (and_parts _ _ pre_regular).0).1 in
      let zero_plus : 0 + y ≡ y = omega arith in
      times_is y (cells_of x.pre) ∙ eqb-true (count_by (nat_eq y) (cells_of x.pre)) 1 (subst (λ z. stands_once (cells_of x.pre) z ≡ true) zero_plus (each_once_is (λ i. is_cell_sort i.sort) (cells_of x.pre) 0 x.vars once y i at is))

  pub chosen_stage : Matched types arguments x u (stand_from 0 arguments) x.pre []
  chosen_stage = record {
    first = [];
    split = refl;
    own = each_from (fits_block types (is_own_cell x.vars)) _ (λ p h. h) x.pre (and_parts _ _ (and_parts _ _ (and_parts _ _ pre_regular).0).0).1;
    once = λ y cell. let o = one y cell in omega (arith, o);
    good = good_from u.vars u.pure 0 arguments good;
    suits = λ y i c at e.
        let (z, same, get) = stand_below 0 arguments y c e in
        let f : y ≡ z = omega (arith, same) in
        let l : y < length arguments = (let k = slice_get_within arguments z c get in omega (arith, k, f)) in
        given_suits i.sort i.value c (first_given (length arguments) x.vars y i given_first l at) (argument_fits u.vars arguments x.vars fits y c i (subst (λ w. slice_get arguments w ≡ Some c) (sym f) get) at);
    given = λ y c e. let f : 0 + y ≡ y = omega arith in subst (λ z. content_for (stand_from 0 arguments) z ≡ Some c) f (stand_at 0 arguments y c e);
    cells = tt;
    fresh = fresh_cell;
    distinct = tt;
    met = tt;
    blocks = blocks;
  }
    where
      fresh_cell : (y : ℕ) → is_cell x.vars y ≡ true → times y [] ≡ 0 → content_for (stand_from 0 arguments) y ≡ None
      fresh_cell y cell none = by (content_for (stand_from 0 arguments) y) refl
        where
          by : (o : Option Content) → content_for (stand_from 0 arguments) y ≡ o → content_for (stand_from 0 arguments) y ≡ None
          by None e = e
          by (Some c) e =
              let (z, same, get) = stand_below 0 arguments y c e in
              let (i, at, is) = variable_is x.vars (λ (i : VarInfo). is_cell_sort i.sort) y cell in
              let l : y < length arguments = (let k = slice_get_within arguments z c get in omega (arith, k, same)) in
              absurd (given_no_cell i.sort (first_given (length arguments) x.vars y i given_first l at) is)
