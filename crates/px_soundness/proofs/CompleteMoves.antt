-- What states keep so that the entries of their paths are regular, move by move.
use Rattle.std.proofs.Common.{◌≡◌, ◌≢◌, ℕ, zero, suc, ◌+◌, ◌-◌, ◌<◌, Bool, true, false, not, cond, nat_eq, nat_lt, ◌&&◌, ◌||◌, Option, Some, List, [], ◌∷◌, ◌++◌, map, length, slice_get, refl, sym, ap, ap₂, ◌∙◌, subst, arith, append_assoc, append-nil}
use Rattle.std.specs.Prelude.{filter, flat_map}
use Rattle.std.specs.List.{list_all, list_any}
use Rattle.std.proofs.lemmas.Bool.{and_parts, and_from, eq-eqb, ltb-true, lt-ltb}
use Rattle.std.proofs.lemmas.Grind.{flat_map-append}
use Rattle.std.proofs.lemmas.List.Elements.{filter-append}
use Rattle.std.proofs.lemmas.List.Folds.{list_all-append}
use Rattle.std.proofs.lemmas.Option.{slice_get_within, slice_get-get_or, same_Some}
use Rattle.px_terms.specs.declared.types.BlockType.{BlockType}
use Rattle.px_terms.specs.declared.types.ValueType.{ValueType}
use Rattle.px_terms.specs.declared.types.ValueType.TheVariants.{Int, Pointer}
use Rattle.px_terms.specs.declared.variables.VarInfo.{VarInfo}
use Rattle.px_terms.specs.declared.variables.Sort.{Sort}
use Rattle.px_terms.specs.declared.variables.Sort.TheVariants as sort
use Rattle.px_terms.specs.declared.conjuncts.Conj.{Conj}
use Rattle.px_entry.specs.declared.atoms.Atom.{Atom}
use Rattle.px_entry.specs.declared.atoms.AtomState.{AtomState}
use Rattle.px_entry.specs.Sorts.{is_given_sort, is_cell_sort, is_input_sort, is_made_sort, is_int_type, is_pointer_type, is_variable_with, is_some_and, is_given, is_made, is_pointer}
use Rattle.px_entry.specs.Constraint.{found_atoms, made_atoms}
use Rattle.px_entry.specs.Contents.{cell_variables}
use Rattle.px_entry.specs.Regular.{are_inputs_words, state_cells, cells_of, are_reached, same_blocks}
use Rattle.px_entry.proofs.Lists.{Each, each_append}
use Rattle.px_callgraph.specs.States.{info, given_variables}
use Rattle.px_callgraph.specs.Accesses.{with_state, set_atom}
use Rattle.px_callgraph.proofs.SortLemmas.{below_more}
use Rattle.px_soundness.proofs.WellFormed.{GoodAtom, times, GoodFound, Once, made_places, Complete}
use Rattle.px_soundness.proofs.AtomHeaps.{absent}
use Rattle.px_soundness.proofs.Truths.{variable_is}
use Rattle.px_soundness.proofs.WellTyped.{each_push, grown_by, with_grown}
use Rattle.px_soundness.proofs.Complete.{times_append, times_none, any_from_times, conj_grown, found_grown, reached_grown, found_same, made_same}
use Rattle.px_callgraph.proofs.KeepLemmas.{each_weaker}

-- ---- lists

pub get_after : (vars new : List VarInfo) (i m : ℕ) → m ≡ length vars + i → slice_get (vars ++ new) m ≡ slice_get new i
get_after [] new i m e = let f : m ≡ i = omega (arith, e) in ap (slice_get new) f
get_after (x ∷ vars) new i zero e = absurd (let f : ⊥ = omega (arith, e) in f)
get_after (x ∷ vars) new i (suc m) e = get_after vars new i m (omega (arith, e))

pub none_such : (such : VarInfo → Bool) (new : List VarInfo) → list_all (λ (i : VarInfo). not (such i)) new ≡ true → (n : ℕ) (i : VarInfo) → slice_get new n ≡ Some i → such i ≡ true → ⊥
none_such such [] h n i e t = absent e
none_such such (x ∷ new) h zero i e t = by (such i) t (subst (λ (z : VarInfo). not (such z) ≡ true) (same_Some _ _ e) (and_parts (not (such x)) (list_all (λ (i : VarInfo). not (such i)) new) h).0)
  where
    by : (b : Bool) → b ≡ true → not b ≡ true → ⊥
    by true e f = let g : false ≡ true = f in cc
    by false e f = let g : false ≡ true = e in cc
none_such such (x ∷ new) h (suc n) i e t = none_such such new (and_parts (not (such x)) (list_all (λ (i : VarInfo). not (such i)) new) h).1 n i e t

pub once_grown : (such : VarInfo → Bool) (vars new : List VarInfo) (xs ys : List ℕ) → Once such xs vars → ((x : ℕ) → x < length vars → times x ys ≡ times x xs) →
    ((n : ℕ) (i : VarInfo) → slice_get new n ≡ Some i → such i ≡ true → (x : ℕ) → x ≡ length vars + n → times x ys ≡ 1) → Once such ys (vars ++ new)
once_grown such vars new xs ys once old fresh x i e t = by (nat_lt x (length vars)) refl
  where
    by : (b : Bool) → nat_lt x (length vars) ≡ b → times x ys ≡ 1
    by true l =
        let l' : x < length vars = ltb-true x (length vars) l in
        let k = slice_get-get_or vars x (info sort.Given Int) l' in
        old x l' ∙ once x i (k ∙ (sym (grown_by vars new x _ k) ∙ e)) t
    by false l =
        let n : ℕ = x - length vars in
        let at : x ≡ length vars + n = behind x (length vars) l in
        fresh n i (sym (get_after vars new n x at) ∙ e) t x at
      where
        not_below : (a b : ℕ) → nat_lt a b ≡ false → (a < b → ⊥)
        not_below a b e l = let f : false ≡ true = sym e ∙ lt-ltb a b l in cc

        behind : (a b : ℕ) → nat_lt a b ≡ false → a ≡ b + (a - b)
        behind a b e = let f = not_below a b e in omega (arith, f)

pub words_more : (vars new : List VarInfo) → are_inputs_words vars ≡ true → are_inputs_words new ≡ true → are_inputs_words (vars ++ new) ≡ true
words_more vars new e f = list_all-append (λ (i : VarInfo). not (is_input_sort i.sort) || is_int_type i.value) vars new ∙ and_from _ _ e f

pub others_more : (more new : List VarInfo) → list_all (λ (i : VarInfo). not (is_given_sort i.sort)) more ≡ true → list_all (λ (i : VarInfo). not (is_given_sort i.sort)) new ≡ true → list_all (λ (i : VarInfo). not (is_given_sort i.sort)) (more ++ new) ≡ true
others_more more new e f = list_all-append (λ (i : VarInfo). not (is_given_sort i.sort)) more new ∙ and_from _ _ e f

-- ---- new variables

module _ (types : List BlockType) (parameters : List ValueType) (vars : List VarInfo) (pure : List Conj) (pre atoms : List Atom) (good : Each (GoodAtom types vars pure) atoms) where
  -- a variable that is neither a cell's nor made
  pub complete_variables : (new : List VarInfo) → list_all (λ (i : VarInfo). not (is_given_sort i.sort)) new ≡ true → are_inputs_words new ≡ true → list_all (λ (i : VarInfo). not (is_cell_sort i.sort)) new ≡ true →
      list_all (λ (i : VarInfo). not (is_made_sort i.sort)) new ≡ true → Complete types parameters vars pure pre atoms → Complete types parameters (vars ++ new) pure pre atoms
  complete_variables new others words no_cells no_made h =
      let g = grown_by vars new in record {
        more = h.more ++ new;
        split = ap (λ xs. xs ++ new) h.split ∙ append_assoc (given_variables parameters) h.more new;
        others = others_more h.more new h.others others;
        words = words_more vars new h.words words;
        conjuncts = each_weaker _ _ (conj_grown vars (vars ++ new) g pure pure (λ x e. e)) pure h.conjuncts;
        found = each_weaker _ _ (found_grown vars (vars ++ new) g pure pure (λ x e. e) types) pre h.found;
        cells = once_grown (λ i. is_cell_sort i.sort) vars new (cells_of pre) (cells_of pre) h.cells (λ x l. refl) (λ n i e t x at. absurd (none_such (λ i. is_cell_sort i.sort) new no_cells n i e t));
        below = each_weaker _ _ (below_more vars new) (cells_of pre) h.below;
        reached = reached_grown vars (vars ++ new) g pure pure (λ x e. e) [] pre h.reached;
        blocks = ap (same_blocks pre) (found_same vars (vars ++ new) g pure pure (λ x e. e) types atoms good) ∙ h.blocks;
        made = subst (λ (as' : List Atom). Once (λ i. is_made_sort i.sort) (map (λ (a : Atom). a.place.0) as') (vars ++ new)) (sym (made_same vars (vars ++ new) g pure pure (λ x e. e) types atoms good))
            (once_grown (λ i. is_made_sort i.sort) vars new (made_places vars atoms) (made_places vars atoms) h.made (λ x l. refl) (λ n i e t x at. absurd (none_such (λ i. is_made_sort i.sort) new no_made n i e t)));
      }

  -- ---- a block that wasn't met

  cells_push : (a : Atom) → cells_of (pre ++ a ∷ []) ≡ cells_of pre ++ cells_of (a ∷ [])
  cells_push a = flat_map-append (λ (a : Atom). flat_map cell_variables (state_cells a.state)) pre (a ∷ [])

  reached_push : (vs : List VarInfo) (cells : List ℕ) (xs : List Atom) (a : Atom) → are_reached vs cells xs ≡ true → (is_given vs a.place.0 || list_any (nat_eq a.place.0) (cells ++ cells_of xs)) ≡ true → are_reached vs cells (xs ++ a ∷ []) ≡ true
  reached_push vs cells [] a e f = and_from _ _ (subst (λ ys. (is_given vs a.place.0 || list_any (nat_eq a.place.0) ys) ≡ true) (append-nil cells) f) refl
  reached_push vs cells (b ∷ rest) a e f =
      let p = and_parts (is_given vs b.place.0 || list_any (nat_eq b.place.0) cells) (are_reached vs (cells ++ cells_of (b ∷ [])) rest) e in
      let own = flat_map cell_variables (state_cells b.state) in
      let same : cells ++ cells_of (b ∷ rest) ≡ (cells ++ cells_of (b ∷ [])) ++ cells_of rest =
      sym (append_assoc cells own (cells_of rest)) ∙ ap (λ ys. (cells ++ ys) ++ cells_of rest) (sym (append-nil own)) in
      and_from _ _ p.0 (reached_push vs (cells ++ cells_of (b ∷ [])) rest a p.1 (subst (λ ys. (is_given vs a.place.0 || list_any (nat_eq a.place.0) ys) ≡ true) same f))

  blocks_push : (xs ys : List Atom) (a : Atom) → same_blocks xs ys ≡ true → same_blocks (xs ++ a ∷ []) (ys ++ a ∷ []) ≡ true
  blocks_push [] [] a e = and_from _ _ (and_from _ _ (eq-eqb a.place.0 a.place.0 refl) (eq-eqb a.block.0 a.block.0 refl)) refl
  blocks_push [] (y ∷ ys) a e = cc
  blocks_push (x ∷ xs) [] a e = cc
  blocks_push (x ∷ xs) (y ∷ ys) a e = let p = and_parts (nat_eq x.place.0 y.place.0 && nat_eq x.block.0 y.block.0) (same_blocks xs ys) e in and_from _ _ p.0 (blocks_push xs ys a p.1)

  -- the place of a pointer that may be used and wasn't made is given, or stands in a cell that was found
  reached_place : Complete types parameters vars pure pre atoms → (x : ℕ) → is_pointer vars x ≡ true → is_made vars x ≡ false → (is_given vars x || list_any (nat_eq x) (cells_of pre)) ≡ true
  reached_place h x p m = let (i, at, q) = variable_is vars (λ (i : VarInfo). is_pointer_type i.value) x p in by i at q i.sort refl
    where
      same : (i : VarInfo) (f : VarInfo → Bool) → slice_get vars x ≡ Some i → is_variable_with vars f x ≡ f i
      same i f at = ap (λ (o : Option VarInfo). is_some_and o f) at

      input_word : (vs : List VarInfo) → are_inputs_words vs ≡ true → (n : ℕ) (i : VarInfo) → slice_get vs n ≡ Some i → i.sort ≡ sort.Input → is_int_type i.value ≡ true
      input_word [] w n i e s = absent e
      input_word (k ∷ vs) w zero i e s =
          let b = (and_parts (not (is_input_sort k.sort) || is_int_type k.value) (are_inputs_words vs) w).0 in
          let b' : (not (is_input_sort i.sort) || is_int_type i.value) ≡ true = subst (λ (z : VarInfo). (not (is_input_sort z.sort) || is_int_type z.value) ≡ true) (same_Some _ _ e) b in
          subst (λ z. (not (is_input_sort z) || is_int_type i.value) ≡ true) s b'
      input_word (k ∷ vs) w (suc n) i e s = input_word vs (and_parts (not (is_input_sort k.sort) || is_int_type k.value) (are_inputs_words vs) w).1 n i e s

      both : (t : ValueType) → is_int_type t ≡ true → is_pointer_type t ≡ true → ⊥
      both Int e f = let g : false ≡ true = f in cc
      both (Pointer t) e f = let g : false ≡ true = e in cc

      or_right : (a b : Bool) → b ≡ true → (a || b) ≡ true
      or_right true b e = refl
      or_right false b e = e

      by : (i : VarInfo) → slice_get vars x ≡ Some i → is_pointer_type i.value ≡ true → (s : Sort) → i.sort ≡ s → (is_given vars x || list_any (nat_eq x) (cells_of pre)) ≡ true
      by i at q sort.Given e = ap (λ b. b || list_any (nat_eq x) (cells_of pre)) (same i (λ (i : VarInfo). is_given_sort i.sort) at ∙ ap is_given_sort e)
      by i at q sort.Cell e = or_right (is_given vars x) (list_any (nat_eq x) (cells_of pre)) (any_from_times x (cells_of pre) (h.cells x i at (ap is_cell_sort e)))
      by i at q sort.Input e = absurd (both i.value (input_word vars h.words x i at e) q)
      by i at q sort.Made e = absurd (let f : true ≡ false = sym (same i (λ (i : VarInfo). is_made_sort i.sort) at ∙ ap is_made_sort e) ∙ m in cc)

  filter_last : (vs : List VarInfo) (test : Atom → Bool) (xs : List Atom) (a : Atom) → test a ≡ true → filter test (xs ++ a ∷ []) ≡ filter test xs ++ a ∷ []
  filter_last vs test xs a e = filter-append test xs (a ∷ []) ∙ ap (λ b. filter test xs ++ cond b (a ∷ []) []) e

  filter_not_last : (vs : List VarInfo) (test : Atom → Bool) (xs : List Atom) (a : Atom) → test a ≡ false → filter test (xs ++ a ∷ []) ≡ filter test xs
  filter_not_last vs test xs a e = filter-append test xs (a ∷ []) ∙ ap (λ b. filter test xs ++ cond b (a ∷ []) []) e ∙ append-nil (filter test xs)

  apart_number : (xs : List ℕ) (x n : ℕ) → x ≡ length vars + n → Each (λ y. y < length vars) xs → Each (λ y. x ≢ y) xs
  apart_number xs x n at h = each_weaker (λ y. y < length vars) (λ y. x ≢ y) (λ y l e. let f : ⊥ = omega (arith, at, l, e) in f) xs h

  pub complete_met : (new : List VarInfo) (a : Atom) → list_all (λ (i : VarInfo). not (is_given_sort i.sort)) new ≡ true → are_inputs_words new ≡ true → list_all (λ (i : VarInfo). not (is_made_sort i.sort)) new ≡ true →
      is_pointer vars a.place.0 ≡ true → is_made (vars ++ new) a.place.0 ≡ false → is_made vars a.place.0 ≡ false → GoodFound types (vars ++ new) pure a →
      ((x : ℕ) → x < length vars → times x (cells_of (a ∷ [])) ≡ 0) →
      ((n : ℕ) (i : VarInfo) → slice_get new n ≡ Some i → is_cell_sort i.sort ≡ true → (x : ℕ) → x ≡ length vars + n → times x (cells_of (a ∷ [])) ≡ 1) →
      Each (λ x. x < length (vars ++ new)) (cells_of (a ∷ [])) →
      Complete types parameters vars pure pre atoms → Complete types parameters (vars ++ new) pure (pre ++ a ∷ []) (atoms ++ a ∷ [])
  complete_met new a others words no_made pointer not_made' not_made found_a old fresh below_a h =
      let g = grown_by vars new in
      let vs = vars ++ new in
      let found_is : found_atoms vs (atoms ++ a ∷ []) ≡ found_atoms vars atoms ++ a ∷ [] =
      filter_last vs (λ b. not (is_made vs b.place.0)) atoms a (ap not not_made') ∙ ap (λ xs. xs ++ a ∷ []) (found_same vars vs g pure pure (λ x e. e) types atoms good) in
      let made_is' : made_atoms vs (atoms ++ a ∷ []) ≡ made_atoms vars atoms =
      filter_not_last vs (λ b. is_made vs b.place.0) atoms a not_made' ∙ made_same vars vs g pure pure (λ x e. e) types atoms good in
      let place_reached = reached_place h a.place.0 pointer not_made in
      record {
        more = h.more ++ new;
        split = ap (λ xs. xs ++ new) h.split ∙ append_assoc (given_variables parameters) h.more new;
        others = others_more h.more new h.others others;
        words = words_more vars new h.words words;
        conjuncts = each_weaker _ _ (conj_grown vars vs g pure pure (λ x e. e)) pure h.conjuncts;
        found = each_push _ pre a (each_weaker _ _ (found_grown vars vs g pure pure (λ x e. e) types) pre h.found) found_a;
        cells = subst (λ ys. Once (λ i. is_cell_sort i.sort) ys vs) (sym (cells_push a))
            (once_grown (λ i. is_cell_sort i.sort) vars new (cells_of pre) (cells_of pre ++ cells_of (a ∷ [])) h.cells
            (λ x l. times_append x (cells_of pre) (cells_of (a ∷ [])) ∙ ap (λ n. times x (cells_of pre) + n) (old x l) ∙ plus_zero (times x (cells_of pre)))
            (λ n i e t x at. times_append x (cells_of pre) (cells_of (a ∷ [])) ∙ ap₂ (λ m n. m + n) (times_none x (cells_of pre) (apart_number (cells_of pre) x n at h.below)) (fresh n i e t x at)));
        below = subst (Each (λ x. x < length vs)) (sym (cells_push a)) (each_append (λ x. x < length vs) (cells_of pre) (cells_of (a ∷ [])) (each_weaker _ _ (below_more vars new) (cells_of pre) h.below) below_a);
        reached = reached_push vs [] pre a (reached_grown vars vs g pure pure (λ x e. e) [] pre h.reached) (given_more (is_given vars a.place.0) refl place_reached);
        blocks = ap (same_blocks (pre ++ a ∷ [])) found_is ∙ blocks_push pre (found_atoms vars atoms) a h.blocks;
        made = subst (λ (as' : List Atom). Once (λ i. is_made_sort i.sort) (map (λ (a : Atom). a.place.0) as') vs) (sym made_is')
            (once_grown (λ i. is_made_sort i.sort) vars new (made_places vars atoms) (made_places vars atoms) h.made (λ x l. refl) (λ n i e t x at. absurd (none_such (λ i. is_made_sort i.sort) new no_made n i e t)));
      }
    where
      plus_zero : (n : ℕ) → n + 0 ≡ n
      plus_zero n = omega arith

      or_right : (a b : Bool) → b ≡ true → (a || b) ≡ true
      or_right true b e = refl
      or_right false b e = e

      given_more : (q : Bool) → is_given vars a.place.0 ≡ q → (q || list_any (nat_eq a.place.0) (cells_of pre)) ≡ true → (is_given (vars ++ new) a.place.0 || list_any (nat_eq a.place.0) (cells_of pre)) ≡ true
      given_more true is e = ap (λ b. b || list_any (nat_eq a.place.0) (cells_of pre)) (with_grown vars (vars ++ new) (grown_by vars new) _ a.place.0 is)
      given_more false is e = or_right (is_given (vars ++ new) a.place.0) (list_any (nat_eq a.place.0) (cells_of pre)) e

  -- ---- a block that was made

  pub places_below : (xs : List Atom) → Each (GoodAtom types vars pure) xs → Each (λ x. x < length vars) (map (λ (a : Atom). a.place.0) (made_atoms vars xs))
  places_below [] h = tt
  places_below (a ∷ rest) h = by (is_made vars a.place.0) (places_below rest h.1)
    where
      by : (b : Bool) → Each (λ x. x < length vars) (map (λ (a : Atom). a.place.0) (made_atoms vars rest)) → Each (λ x. x < length vars) (map (λ (a : Atom). a.place.0) (cond b (a ∷ made_atoms vars rest) (made_atoms vars rest)))
      by true t = (let (i, at, p) = variable_is vars _ a.place.0 h.0.points in slice_get_within vars a.place.0 i at, t)
      by false t = t

  map_push : (xs : List Atom) (a : Atom) → map (λ (a : Atom). a.place.0) (xs ++ a ∷ []) ≡ map (λ (a : Atom). a.place.0) xs ++ a.place.0 ∷ []
  map_push [] a = refl
  map_push (x ∷ xs) a = ap (λ (ns : List ℕ). x.place.0 ∷ ns) (map_push xs a)

  pub complete_made : (i : VarInfo) (a : Atom) → i.sort ≡ sort.Made → a.place.0 ≡ length vars → is_made (vars ++ i ∷ []) a.place.0 ≡ true → Complete types parameters vars pure pre atoms → Complete types parameters (vars ++ i ∷ []) pure pre (atoms ++ a ∷ [])
  complete_made i a is at made h =
      let new = i ∷ [] in
      let g = grown_by vars new in
      let vs = vars ++ new in
      let found_is : found_atoms vs (atoms ++ a ∷ []) ≡ found_atoms vars atoms =
      filter_not_last vs (λ b. not (is_made vs b.place.0)) atoms a (ap not made) ∙ found_same vars vs g pure pure (λ x e. e) types atoms good in
      let made_is' : made_atoms vs (atoms ++ a ∷ []) ≡ made_atoms vars atoms ++ a ∷ [] =
      filter_last vs (λ b. is_made vs b.place.0) atoms a made ∙ ap (λ xs. xs ++ a ∷ []) (made_same vars vs g pure pure (λ x e. e) types atoms good) in
      record {
        more = h.more ++ new;
        split = ap (λ xs. xs ++ new) h.split ∙ append_assoc (given_variables parameters) h.more new;
        others = others_more h.more new h.others (ap (λ s. not (is_given_sort s) && true) is);
        words = words_more vars new h.words (ap (λ s. (not (is_input_sort s) || is_int_type i.value) && true) is);
        conjuncts = each_weaker _ _ (conj_grown vars vs g pure pure (λ x e. e)) pure h.conjuncts;
        found = each_weaker _ _ (found_grown vars vs g pure pure (λ x e. e) types) pre h.found;
        cells = once_grown (λ i. is_cell_sort i.sort) vars new (cells_of pre) (cells_of pre) h.cells (λ x l. refl) (λ n k e t x at. absurd (none_such (λ i. is_cell_sort i.sort) new (ap (λ s. not (is_cell_sort s) && true) is) n k e t));
        below = each_weaker _ _ (below_more vars new) (cells_of pre) h.below;
        reached = reached_grown vars vs g pure pure (λ x e. e) [] pre h.reached;
        blocks = ap (same_blocks pre) found_is ∙ h.blocks;
        made = subst (λ (as' : List Atom). Once (λ i. is_made_sort i.sort) (map (λ (a : Atom). a.place.0) as') vs) (sym made_is')
            (subst (λ ns. Once (λ i. is_made_sort i.sort) ns vs) (sym (map_push (made_atoms vars atoms) a))
            (once_grown (λ i. is_made_sort i.sort) vars new (made_places vars atoms) (made_places vars atoms ++ a.place.0 ∷ []) h.made
            (λ x l. times_append x (made_places vars atoms) (a.place.0 ∷ []) ∙ ap (λ n. times x (made_places vars atoms) + n) (times_none x (a.place.0 ∷ []) ((λ e. let f : ⊥ = omega (arith, at, l, e) in f), tt)) ∙ plus_zero (times x (made_places vars atoms)))
            (λ n k e t x at'. times_append x (made_places vars atoms) (a.place.0 ∷ []) ∙ ap₂ (λ m n. m + n) (times_none x (made_places vars atoms) (apart_number (made_places vars atoms) x n at' (places_below atoms good))) (one x n k e at'))));
      }
    where
      plus_zero : (n : ℕ) → n + 0 ≡ n
      plus_zero n = omega arith

      first : (n : ℕ) (k : VarInfo) → slice_get (i ∷ []) n ≡ Some k → n ≡ 0
      first zero k e = refl
      first (suc n) k e = absent e

      one : (x n : ℕ) (k : VarInfo) → slice_get (i ∷ []) n ≡ Some k → x ≡ length vars + n → times x (a.place.0 ∷ []) ≡ 1
      one x n k e at' = let z = first n k e in let same : x ≡ a.place.0 = omega (arith, at, at', z) in ap (λ b. cond b (1 + 0) 0) (eq-eqb x a.place.0 same)

-- ---- a block that changes

module _ (vars : List VarInfo) where
  abbrev pub key : Atom → ℕ × ℕ
  key a = (a.place.0, a.block.0)

  pub keys_set : (atoms : List Atom) (n : ℕ) (st : AtomState) → map key (found_atoms vars (set_atom n st atoms)) ≡ map key (found_atoms vars atoms)
  keys_set [] n st = refl
  keys_set (b ∷ rest) zero st = by (is_made vars b.place.0)
    where
      by : (m : Bool) → map key (cond (not m) (with_state st b ∷ found_atoms vars rest) (found_atoms vars rest)) ≡ map key (cond (not m) (b ∷ found_atoms vars rest) (found_atoms vars rest))
      by true = refl
      by false = refl
  keys_set (b ∷ rest) (suc n) st = by (is_made vars b.place.0) (keys_set rest n st)
    where
      by : (m : Bool) → map key (found_atoms vars (set_atom n st rest)) ≡ map key (found_atoms vars rest) →
          map key (cond (not m) (b ∷ found_atoms vars (set_atom n st rest)) (found_atoms vars (set_atom n st rest))) ≡ map key (cond (not m) (b ∷ found_atoms vars rest) (found_atoms vars rest))
      by true e = e
      by false e = ap (λ (ks : List (ℕ × ℕ)). key b ∷ ks) e

  pub made_set : (atoms : List Atom) (n : ℕ) (st : AtomState) → made_places vars (set_atom n st atoms) ≡ made_places vars atoms
  made_set [] n st = refl
  made_set (b ∷ rest) zero st = by (is_made vars b.place.0)
    where
      by : (m : Bool) → map (λ (a : Atom). a.place.0) (cond m (with_state st b ∷ made_atoms vars rest) (made_atoms vars rest)) ≡ map (λ (a : Atom). a.place.0) (cond m (b ∷ made_atoms vars rest) (made_atoms vars rest))
      by true = refl
      by false = refl
  made_set (b ∷ rest) (suc n) st = by (is_made vars b.place.0) (made_set rest n st)
    where
      by : (m : Bool) → made_places vars (set_atom n st rest) ≡ made_places vars rest →
          map (λ (a : Atom). a.place.0) (cond m (b ∷ made_atoms vars (set_atom n st rest)) (made_atoms vars (set_atom n st rest))) ≡ map (λ (a : Atom). a.place.0) (cond m (b ∷ made_atoms vars rest) (made_atoms vars rest))
      by true e = ap (λ (ns : List ℕ). b.place.0 ∷ ns) e
      by false e = e

  pub same_keys : (pre xs ys : List Atom) → map key xs ≡ map key ys → same_blocks pre xs ≡ same_blocks pre ys
  same_keys [] [] [] e = refl
  same_keys [] [] (y ∷ ys) e = cc
  same_keys [] (x ∷ xs) [] e = cc
  same_keys [] (x ∷ xs) (y ∷ ys) e = refl
  same_keys (a ∷ pre) [] [] e = refl
  same_keys (a ∷ pre) [] (y ∷ ys) e = cc
  same_keys (a ∷ pre) (x ∷ xs) [] e = cc
  same_keys (a ∷ pre) (x ∷ xs) (y ∷ ys) e =
      let h : key x ≡ key y = cc in
      let t : map key xs ≡ map key ys = cc in
      ap₂ (λ (k : ℕ × ℕ) b. nat_eq a.place.0 k.0 && nat_eq a.block.0 k.1 && b) h (same_keys pre xs ys t)

pub complete_changed : (types : List BlockType) (parameters : List ValueType) (vars : List VarInfo) (pure : List Conj) (pre atoms : List Atom) (n : ℕ) (st : AtomState) →
    Complete types parameters vars pure pre atoms → Complete types parameters vars pure pre (set_atom n st atoms)
complete_changed types parameters vars pure pre atoms n st h = record {
  more = h.more;
  split = h.split;
  others = h.others;
  words = h.words;
  conjuncts = h.conjuncts;
  found = h.found;
  cells = h.cells;
  below = h.below;
  reached = h.reached;
  blocks = same_keys vars pre (found_atoms vars (set_atom n st atoms)) (found_atoms vars atoms) (keys_set vars atoms n st) ∙ h.blocks;
  made = subst (λ ns. Once (λ i. is_made_sort i.sort) ns vars) (sym (made_set vars atoms n st)) h.made;
}
