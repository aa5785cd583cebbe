-- What stands for each variable of an entry whose required blocks are all met: the inputs and the blocks that the callee
-- made get variables of their own.
use Rattle.std.proofs.Common.{◌≡◌, ◌≢◌, ◌⊎◌, ℕ, zero, suc, ◌+◌, ◌<◌, Bool, true, false, cond, nat_eq, ◌||◌, Option, Some, None, List, [], ◌∷◌, ◌++◌, length, slice_get, inl, inr, refl, sym, ap, ◌∙◌, subst, arith, append_assoc}
use Rattle.std.proofs.lemmas.Bool.{and_from, eq-eqb}
use Rattle.std.proofs.lemmas.Option.{same_Some, slice_get_within}
use Rattle.px_terms.specs.Substitutions.{content_for}
use Rattle.px_terms.specs.declared.types.ValueType.{ValueType}
use Rattle.px_terms.specs.declared.types.ValueType.TheVariants.{Int, Pointer}
use Rattle.px_terms.specs.declared.variables.Var.{Var}
use Rattle.px_terms.specs.declared.variables.VarInfo.{VarInfo}
use Rattle.px_terms.specs.declared.variables.Sort.{Sort}
use Rattle.px_terms.specs.declared.variables.Sort.TheVariants as sort
use Rattle.px_terms.specs.declared.types.TypeId.{TypeId}
use Rattle.px_terms.specs.declared.conjuncts.Place.TheVariants as place
use Rattle.px_terms.specs.declared.conjuncts.Content.{Content}
use Rattle.px_terms.specs.declared.conjuncts.Content.TheVariants.{Unwritten, Word, Place, Cell}
use Rattle.px_terms.specs.declared.conjuncts.Conj.{Conj}
use Rattle.px_entry.specs.Sorts.{is_some_and, is_cell_sort, is_input_sort, is_made_sort, is_int_type, same_type, is_variable_with}
use Rattle.px_entry.specs.Contents.{is_written_of, variable_content}
use Rattle.px_entry.proofs.Lists.{Each, each_append}
use Rattle.px_callgraph.specs.Renaming.{Substitution, is_new, new_variables, stand_new}
use Rattle.px_soundness.proofs.WellFormed.{Good}
use Rattle.px_soundness.proofs.AtomHeaps.{absent}
use Rattle.px_soundness.proofs.Truths.{variable_is}
use Rattle.px_soundness.proofs.WellTyped.{Grown, grown_by, with_grown, fits_grown, good_grown, type_itself}
use Rattle.px_soundness.proofs.WellTypedSteps.{variable_good, other_usable}
use Rattle.px_soundness.proofs.CompleteMoves.{get_after}
use Rattle.px_soundness.proofs.FitsThrough.{Suits, variable_of, Stands}
use Rattle.px_soundness.proofs.CallMatches.{found_more}
use Rattle.px_callgraph.proofs.KeepLemmas.{each_weaker}
use Rattle.px_meaning.proofs.Joins.{same_or_other}

-- ---- new variables, by their places

-- how many variables before a place are new
abbrev pub new_before : List VarInfo → ℕ → ℕ
new_before [] y = 0
new_before (i ∷ xs) zero = 0
new_before (i ∷ xs) (suc y) = cond (is_new i) (suc (new_before xs y)) (new_before xs y)

pub new_rising : (xs : List VarInfo) (y z : ℕ) (i k : VarInfo) → slice_get xs y ≡ Some i → slice_get xs z ≡ Some k → is_new i ≡ true → y < z → new_before xs y < new_before xs z
new_rising [] y z i k e f new l = absent e
new_rising (h ∷ xs) y zero i k e f new l = absurd (let n : ⊥ = omega (arith, l) in n)
new_rising (h ∷ xs) zero (suc z) i k e f new l = ap_true (is_new h) (ap is_new (same_Some _ _ e) ∙ new)
  where
    ap_true : (b : Bool) → b ≡ true → 0 < cond b (suc (new_before xs z)) (new_before xs z)
    ap_true true e = omega arith
    ap_true false e = cc
new_rising (h ∷ xs) (suc y) (suc z) i k e f new l = by (is_new h) (new_rising xs y z i k e f new (omega (arith, l)))
  where
    by : (b : Bool) → new_before xs y < new_before xs z → cond b (suc (new_before xs y)) (new_before xs y) < cond b (suc (new_before xs z)) (new_before xs z)
    by true r = omega (arith, r)
    by false r = r

pub new_listed : (xs : List VarInfo) (y : ℕ) (i : VarInfo) → slice_get xs y ≡ Some i → is_new i ≡ true → slice_get (new_variables xs) (new_before xs y) ≡ Some i
new_listed [] y i e new = absent e
new_listed (h ∷ xs) zero i e new = by (is_new h) (ap is_new (same_Some _ _ e) ∙ new)
  where
    by : (b : Bool) → b ≡ true → slice_get (cond b (h ∷ new_variables xs) (new_variables xs)) 0 ≡ Some i
    by true f = e
    by false f = cc
new_listed (h ∷ xs) (suc y) i e new = by (is_new h) (new_listed xs y i e new)
  where
    by : (b : Bool) → slice_get (new_variables xs) (new_before xs y) ≡ Some i → slice_get (cond b (h ∷ new_variables xs) (new_variables xs)) (cond b (suc (new_before xs y)) (new_before xs y)) ≡ Some i
    by true f = f
    by false f = f

-- a variable that is new is the next one that the caller doesn't have
pub new_stands : (xs : List VarInfo) (x n y : ℕ) (i : VarInfo) → slice_get xs y ≡ Some i → is_new i ≡ true → content_for (stand_new x n xs) (x + y) ≡ Some (variable_content i.value (n + new_before xs y))
new_stands [] x n y i e new = absent e
new_stands (h ∷ xs) x n zero i e new = by (is_new h) (ap is_new (same_Some _ _ e) ∙ new)
  where
    same : nat_eq x (x + 0) ≡ true
    same = eq-eqb x (x + 0) (let f : x ≡ x + 0 = omega arith in f)

    by : (b : Bool) → b ≡ true → content_for (elim b as (λ _. Substitution) [ true ↦ (record { 0 = x }, variable_content h.value n) ∷ stand_new (suc x) (suc n) xs | false ↦ stand_new (suc x) n xs ]) (x + 0) ≡ Some (variable_content i.value (n + 0))
    by true f =
        ap (λ q. cond q (Some (variable_content h.value n)) (content_for (stand_new (suc x) (suc n) xs) (x + 0))) same
        ∙ ap (λ (k : VarInfo). Some (variable_content k.value n)) (same_Some _ _ e)
        ∙ ap (λ m. Some (variable_content i.value m)) (let g : n ≡ n + 0 = omega arith in g)
    by false f = cc
new_stands (h ∷ xs) x n (suc y) i e new = by (is_new h) (new_stands xs (suc x) (suc n) y i e new) (new_stands xs (suc x) n y i e new)
  where
    moved : suc x + y ≡ x + suc y
    moved = omega arith

    other : nat_eq x (x + suc y) ≡ false
    other = elim (same_or_other x (x + suc y)) [ inl f ↦ absurd (let g : x ≡ x + suc y = f.0 in let n : ⊥ = omega (arith, g) in n) | inr f ↦ f.1 ]

    by : (b : Bool) → content_for (stand_new (suc x) (suc n) xs) (suc x + y) ≡ Some (variable_content i.value (suc n + new_before xs y)) → content_for (stand_new (suc x) n xs) (suc x + y) ≡ Some (variable_content i.value (n + new_before xs y)) →
        content_for (elim b as (λ _. Substitution) [ true ↦ (record { 0 = x }, variable_content h.value n) ∷ stand_new (suc x) (suc n) xs | false ↦ stand_new (suc x) n xs ]) (x + suc y) ≡ Some (variable_content i.value (n + cond b (suc (new_before xs y)) (new_before xs y)))
    by true r q =
        ap (λ t. cond t (Some (variable_content h.value n)) (content_for (stand_new (suc x) (suc n) xs) (x + suc y))) other
        ∙ ap (content_for (stand_new (suc x) (suc n) xs)) (sym moved) ∙ r
        ∙ ap (λ m. Some (variable_content i.value m)) (let g : suc n + new_before xs y ≡ n + suc (new_before xs y) = omega arith in g)
    by false r q = ap (content_for (stand_new (suc x) n xs)) (sym moved) ∙ q

-- ---- all variables

-- what stands for the variables of an entry before the new ones: good contents, by sort and type
pub record StandsBefore (vars : List VarInfo) (pure : List Conj) (xs : List VarInfo) (σ : Substitution) : Type 0 where
  pub content : (y : ℕ) (i : VarInfo) → slice_get xs y ≡ Some i → is_new i ≡ false → (c : Content) × (content_for σ y ≡ Some c) × Good vars pure c × Suits vars i.sort i.value c
  pub none : (y : ℕ) (i : VarInfo) → slice_get xs y ≡ Some i → is_new i ≡ true → content_for σ y ≡ None

-- inputs are words, and what was made is a pointer
abbrev pub IsNewType : Sort → ValueType → Type 0
IsNewType sort.Given t = Unit {0}
IsNewType sort.Cell t = Unit {0}
IsNewType sort.Input t = t ≡ Int
IsNewType sort.Made t = (b : TypeId) × (t ≡ Pointer b)

pub none_more : (σ τ : Substitution) (y : ℕ) → content_for σ y ≡ None → content_for (σ ++ τ) y ≡ content_for τ y
none_more [] τ y e = refl
none_more (b ∷ σ) τ y e = by (nat_eq b.0.0 y) (none_more σ τ y) e
  where
    by : (q : Bool) → (content_for σ y ≡ None → content_for (σ ++ τ) y ≡ content_for τ y) → cond q (Some b.1) (content_for σ y) ≡ None → cond q (Some b.1) (content_for (σ ++ τ) y) ≡ content_for τ y
    by true more e = absent (sym e)
    by false more e = more e

new_not_cell : (i : VarInfo) → is_new i ≡ true → is_cell_sort i.sort ≡ false
new_not_cell i e = by i.sort e
  where
    by : (s : Sort) → (is_input_sort s || is_made_sort s) ≡ true → is_cell_sort s ≡ false
    by sort.Given e = cc
    by sort.Cell e = cc
    by sort.Input e = refl
    by sort.Made e = refl

pub less_or_more : (x y : ℕ) → x ≢ y → (x < y) ⊎ (y < x)
less_or_more x y ne = grind (arith, ne)

module _ (vars : List VarInfo) (pure : List Conj) (xs : List VarInfo) (σ : Substitution) (before : StandsBefore vars pure xs σ) (typed : (y : ℕ) (i : VarInfo) → slice_get xs y ≡ Some i → IsNewType i.sort i.value) where
  abbrev more : List VarInfo
  more = vars ++ new_variables xs

  abbrev all : Substitution
  all = σ ++ stand_new 0 (length vars) xs

  grown : Grown vars more
  grown = grown_by vars (new_variables xs)

  written_grown : (t : ValueType) (c : Content) → is_written_of vars t c ≡ true → is_written_of more t c ≡ true
  written_grown Int (Word p) e = fits_grown vars more grown Int (Word p) e
  written_grown (Pointer b) (Place a) e = fits_grown vars more grown (Pointer b) (Place a) e
  written_grown Int (Place a) e = cc
  written_grown (Pointer b) (Word p) e = cc
  written_grown Int Unwritten e = cc
  written_grown (Pointer b) Unwritten e = cc
  written_grown Int (Cell x) e = cc
  written_grown (Pointer b) (Cell x) e = cc

  suits_grown : (s : Sort) (t : ValueType) (c : Content) → Suits vars s t c → Suits more s t c
  suits_grown sort.Given t c h = written_grown t c h
  suits_grown sort.Input t c (m, is, input, h) = (m, is, with_grown vars more grown _ m input, written_grown t c h)
  suits_grown sort.Cell t c h = fits_grown vars more grown t c h
  suits_grown sort.Made t c (m, is, made, type) = (m, is, with_grown vars more grown _ m.0 made, with_grown vars more grown _ m.0 type)

  abbrev place_at : ℕ → ℕ
  place_at y = length vars + new_before xs y

  pub listed_at : (y : ℕ) (i : VarInfo) → slice_get xs y ≡ Some i → is_new i ≡ true → slice_get more (place_at y) ≡ Some i
  listed_at y i at new = get_after vars (new_variables xs) (new_before xs y) (place_at y) refl ∙ new_listed xs y i at new

  pub new_content : (y : ℕ) (i : VarInfo) → slice_get xs y ≡ Some i → is_new i ≡ true → content_for all y ≡ Some (variable_content i.value (place_at y))
  new_content y i at new =
      none_more σ (stand_new 0 (length vars) xs) y (before.none y i at new)
      ∙ ap (content_for (stand_new 0 (length vars) xs)) (let e : y ≡ 0 + y = omega arith in e)
      ∙ new_stands xs 0 (length vars) y i at new

  test_at : (y : ℕ) (i : VarInfo) → slice_get more y ≡ Some i → (test : VarInfo → Bool) → test i ≡ true → is_variable_with more test y ≡ true
  test_at y i at test e = ap (λ (o : Option VarInfo). is_some_and o test) at ∙ e

  new_suits : (m : ℕ) (i : VarInfo) → slice_get more m ≡ Some i → is_new i ≡ true → IsNewType i.sort i.value → Suits more i.sort i.value (variable_content i.value m)
  new_suits m i at new type = by i.sort i.value refl refl new type
    where
      by : (s : Sort) (t : ValueType) → i.sort ≡ s → i.value ≡ t → (is_input_sort s || is_made_sort s) ≡ true → IsNewType s t → Suits more s t (variable_content t m)
      by sort.Given t is at' e h = absurd (let f : false ≡ true = e in cc)
      by sort.Cell t is at' e h = absurd (let f : false ≡ true = e in cc)
      by sort.Input t is at' e h =
          subst (λ z. Suits more sort.Input z (variable_content z m)) (sym h)
          (m, refl, test_at m i at (λ (k : VarInfo). is_input_sort k.sort) (ap is_input_sort is), and_from _ _ (test_at m i at (λ (k : VarInfo). is_int_type k.value) (ap is_int_type (at' ∙ h))) refl)
      by sort.Made t is at' e (b, h) =
          subst (λ z. Suits more sort.Made z (variable_content z m)) (sym h)
          (record { 0 = m }, refl, test_at m i at (λ (k : VarInfo). is_made_sort k.sort) (ap is_made_sort is), test_at m i at (λ (k : VarInfo). same_type k.value (Pointer b)) (ap (λ z. same_type z (Pointer b)) (at' ∙ h) ∙ type_itself (Pointer b)))

  content_at : (y : ℕ) (i : VarInfo) → slice_get xs y ≡ Some i → (b : Bool) → is_new i ≡ b → (c : Content) × (content_for all y ≡ Some c) × Good more pure c × Suits more i.sort i.value c
  content_at y i at false old =
      let (c, is, g, h) = before.content y i at old in
      (c, found_more σ (stand_new 0 (length vars) xs) y c is, good_grown vars more grown pure pure (λ x e. e) c g, suits_grown i.sort i.value c h)
  content_at y i at true new =
      let m = place_at y in
      let l = listed_at y i at new in
      (variable_content i.value m, new_content y i at new, variable_good more pure m i l (other_usable more pure m i l (new_not_cell i new)), new_suits m i l new (typed y i at))

  -- the number of what stands for a variable
  variable_number : (t : ValueType) (m n : ℕ) → variable_of (variable_content t m) ≡ Some n → m ≡ n
  variable_number Int m n e = absent e
  variable_number (Pointer b) m n e = same_Some _ _ e

  old_below : (c : Content) (n : ℕ) → Good vars pure c → variable_of c ≡ Some n → n < length vars
  old_below Unwritten n g e = absent e
  old_below (Word p) n g e = absent e
  old_below (Place place.Null) n g e = absent e
  old_below (Place (place.Var x)) n g e = let (i, at, is) = variable_is vars _ x.0 g.0 in subst (λ z. z < length vars) (same_Some _ _ e) (slice_get_within vars x.0 i at)
  old_below (Cell x) n g e = let (i, at, is) = variable_is vars _ x.0 g in subst (λ z. z < length vars) (same_Some _ _ e) (slice_get_within vars x.0 i at)

  made_new : (i : VarInfo) → i.sort ≡ sort.Made → is_new i ≡ true
  made_new i e = ap (λ s. is_input_sort s || is_made_sort s) e

  apart_at : (x y : ℕ) (i k : VarInfo) (c d : Content) (m n : ℕ) → slice_get xs x ≡ Some i → slice_get xs y ≡ Some k → i.sort ≡ sort.Made → x ≢ y →
      content_for all x ≡ Some c → content_for all y ≡ Some d → variable_of c ≡ Some m → variable_of d ≡ Some n → (b : Bool) → is_new k ≡ b → m ≢ n
  apart_at x y i k c d m n at at' is ne is_c is_d of_c of_d b kind same =
      let first : place_at x ≡ m = variable_number i.value (place_at x) m (subst (λ z. variable_of z ≡ Some m) (same_Some _ _ (sym is_c ∙ new_content x i at (made_new i is))) of_c) in
      by b kind first
    where
      by : (b : Bool) → is_new k ≡ b → place_at x ≡ m → ⊥
      by false old first =
          let (e, is_e, g, h) = before.content y k at' old in
          let one : e ≡ d = same_Some _ _ (sym (found_more σ (stand_new 0 (length vars) xs) y e is_e) ∙ is_d) in
          let l : n < length vars = old_below d n (subst (Good vars pure) one g) of_d in
          omega (arith, first, same, l)
      by true new first =
          let second : place_at y ≡ n = variable_number k.value (place_at y) n (subst (λ z. variable_of z ≡ Some n) (same_Some _ _ (sym is_d ∙ new_content y k at' new)) of_d) in
          elim (less_or_more x y ne) [
            | inl l ↦ (let r = new_rising xs x y i k at at' (made_new i is) l in omega (arith, first, second, same, r))
            | inr l ↦ (let r = new_rising xs y x k i at' at new l in omega (arith, first, second, same, r))
          ]

  pub stands_all : Stands more pure xs all
  stands_all = record {
    content = λ y i at. content_at y i at (is_new i) refl;
    apart = λ x y i k c d m n at at' is ne is_c is_d of_c of_d. apart_at x y i k c d m n at at' is ne is_c is_d of_c of_d (is_new k) refl;
  }

-- the contents that stand for them are good
good_new : (pure : List Conj) (xs before vars : List VarInfo) (x n : ℕ) → vars ≡ before ++ new_variables xs → n ≡ length before → Each (λ (b : Var × Content). Good vars pure b.1) (stand_new x n xs)
good_new pure [] before vars x n e at = tt
good_new pure (i ∷ xs) before vars x n e at =
    by (is_new i) refl e
    (λ f. good_new pure xs (before ++ i ∷ []) vars (suc x) (suc n) (f ∙ sym (append_assoc before (i ∷ []) (new_variables xs))) (ap suc at ∙ longer before i))
    (λ f. good_new pure xs before vars (suc x) n f at)
  where
    longer : (ys : List VarInfo) (k : VarInfo) → suc (length ys) ≡ length (ys ++ k ∷ [])
    longer [] k = refl
    longer (y ∷ ys) k = ap suc (longer ys k)

    here : (ys zs : List VarInfo) (k : VarInfo) → slice_get (ys ++ k ∷ zs) (length ys) ≡ Some k
    here [] zs k = refl
    here (y ∷ ys) zs k = here ys zs k

    by : (b : Bool) → is_new i ≡ b → vars ≡ before ++ cond b (i ∷ new_variables xs) (new_variables xs) →
        (vars ≡ before ++ i ∷ new_variables xs → Each (λ (b : Var × Content). Good vars pure b.1) (stand_new (suc x) (suc n) xs)) → (vars ≡ before ++ new_variables xs → Each (λ (b : Var × Content). Good vars pure b.1) (stand_new (suc x) n xs)) →
        Each (λ (b : Var × Content). Good vars pure b.1) (elim b as (λ _. Substitution) [ true ↦ (record { 0 = x }, variable_content i.value n) ∷ stand_new (suc x) (suc n) xs | false ↦ stand_new (suc x) n xs ])
    by true new e onward same =
        let l : slice_get vars n ≡ Some i = ap (λ ys. slice_get ys n) e ∙ ap (slice_get (before ++ i ∷ new_variables xs)) at ∙ here before (new_variables xs) i in (
          variable_good vars pure n i l (other_usable vars pure n i l (new_not_cell i new)),
          onward e,
        )
    by false old e onward same = same e

pub good_all : (vars : List VarInfo) (pure : List Conj) (xs : List VarInfo) (σ : Substitution) → Each (λ (b : Var × Content). Good vars pure b.1) σ → Each (λ (b : Var × Content). Good (vars ++ new_variables xs) pure b.1) (σ ++ stand_new 0 (length vars) xs)
good_all vars pure xs σ g =
    each_append _ σ (stand_new 0 (length vars) xs)
    (each_weaker _ _ (λ (b : Var × Content) h. good_grown vars (vars ++ new_variables xs) (grown_by vars (new_variables xs)) pure pure (λ x e. e) b.1 h) σ g)
    (good_new pure xs vars (vars ++ new_variables xs) 0 (length vars) refl refl)
