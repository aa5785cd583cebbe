-- Arguments for what is given, and other values for the rest.
use Rattle.std.proofs.Common.{◌≡◌, ◌≢◌, ℕ, zero, suc, ◌≤◌, Bool, true, false, not, Option, Some, None, List, [], ◌∷◌, length, take, map, slice_get, refl, sym, ap, ◌∙◌, subst, arith}
use Rattle.std.specs.List.{list_all}
use Rattle.std.specs.Prelude.{All}
use Rattle.std.proofs.lemmas.Bool.{and_parts}
use Rattle.px_terms.specs.Valuations.{Valuation, FitsSort, Fits}
use Rattle.px_terms.specs.Variables.{mentioned}
use Rattle.px_terms.specs.Conjuncts.{IsTrueUnder}
use Rattle.px_terms.specs.declared.types.TypeId.{TypeId}
use Rattle.px_terms.specs.declared.types.Value.{Value}
use Rattle.px_terms.specs.declared.types.Value.TheVariants.{Block}
use Rattle.px_terms.specs.declared.types.ValueType.{ValueType}
use Rattle.px_terms.specs.declared.types.ValueType.TheVariants.{Pointer}
use Rattle.px_terms.specs.declared.variables.Sort.{Sort}
use Rattle.px_terms.specs.declared.variables.Sort.TheVariants as sort
use Rattle.px_terms.specs.declared.variables.VarInfo.{VarInfo}
use Rattle.px_terms.specs.declared.conjuncts.Conj.{Conj}
use Rattle.px_entry.specs.Sorts.{is_given_sort, is_given}
use Rattle.px_entry.specs.Regular.{are_given}
use Rattle.px_meaning.specs.Heaps.{HeapMap, HeapBlock, HasBlockType, IsWritten, AreWritten}
use Rattle.px_meaning.specs.Triples.{values_from}
use Rattle.px_terms.proofs.Agreement.{truth_agrees}
use Rattle.px_manifest.proofs.MovedBlocks.{moved, block_from, moved_apart, still_fits, still_true}
use Rattle.px_terms.proofs.Places.{block_is}
use Rattle.px_meaning.proofs.TypedHeaps.{written_type, written_block}

-- the arguments, one for each of the first variables, and the values of another valuation
abbrev pub with_arguments : List Value → Valuation → Valuation
with_arguments [] w x = w x
with_arguments (u ∷ us) w zero = u
with_arguments (u ∷ us) w (suc x) = with_arguments us (λ y. w (suc y)) x

-- ---- the arguments are the values of the parameters

later_values : (v : Valuation) (x n : ℕ) → values_from (λ y. v (suc y)) x n ≡ values_from v (suc x) n
later_values v x zero = refl
later_values v x (suc n) = ap (λ (us : List Value). v (suc x) ∷ us) (later_values v (suc x) n)

own_arguments : (us : List Value) (w : Valuation) → values_from (with_arguments us w) 0 (length us) ≡ us
own_arguments [] w = refl
own_arguments (u ∷ us) w = ap (λ (ws : List Value). u ∷ ws) (sym (later_values (with_arguments (u ∷ us) w) 0 (length us)) ∙ own_arguments us (λ y. w (suc y)))

same_length : (heap : HeapMap) (ts : List ValueType) (us : List Value) → AreWritten heap ts us → length us ≡ length ts
same_length heap [] [] h = refl
same_length heap (t ∷ ts) (u ∷ us) h = ap suc (same_length heap ts us h.1)
same_length heap [] (u ∷ us) h = absurd h
same_length heap (t ∷ ts) [] h = absurd h

pub are_arguments : (heap : HeapMap) (ts : List ValueType) (us : List Value) (w : Valuation) → AreWritten heap ts us → values_from (with_arguments us w) 0 (length ts) ≡ us
are_arguments heap ts us w h = subst (λ n. values_from (with_arguments us w) 0 n ≡ us) (same_length heap ts us h) (own_arguments us w)

-- ---- what is given, and what isn't

-- a variable is given and has its argument, or isn't and has the other value
pub data HasItsValue (heap : HeapMap) (i : VarInfo) (value other : Value) : Type 0 where
  an_argument : is_given_sort i.sort ≡ true → IsWritten heap i.value value → HasItsValue heap i value other
  another : is_given_sort i.sort ≡ false → value ≡ other → HasItsValue heap i value other

none_given : (vars : List VarInfo) (x : ℕ) (i : VarInfo) → list_all (λ (j : VarInfo). not (is_given_sort j.sort)) vars ≡ true → slice_get vars x ≡ Some i → is_given_sort i.sort ≡ false
none_given [] x i e at = absurd (cc)
none_given (j ∷ vars) zero i e at =
    let same : j ≡ i = cc in subst (λ (k : VarInfo). is_given_sort k.sort ≡ false) same (by (is_given_sort j.sort) (and_parts (not (is_given_sort j.sort)) (list_all (λ (j : VarInfo). not (is_given_sort j.sort)) vars) e).0)
  where
    by : (q : Bool) → not q ≡ true → q ≡ false
    by true e = cc
    by false e = refl
none_given (j ∷ vars) (suc x) i e at = none_given vars x i (and_parts (not (is_given_sort j.sort)) (list_all (λ (j : VarInfo). not (is_given_sort j.sort)) vars) e).1 at

pub head_is : {A : Type 0} {x y : A} {xs ys : List A} → x ∷ xs ≡ y ∷ ys → (x ≡ y) × (xs ≡ ys)
head_is e = (cc, cc)

module _ (heap : HeapMap) where
  pub has_value : (ts : List ValueType) (us : List Value) (vars : List VarInfo) (w : Valuation) (x : ℕ) (i : VarInfo) →
      are_given (length ts) vars ≡ true → map (λ (i : VarInfo). i.value) (take (length ts) vars) ≡ ts → AreWritten heap ts us → slice_get vars x ≡ Some i →
      HasItsValue heap i (with_arguments us w x) (w x)
  has_value [] [] vars w x i g types h at = another (none_given vars x i g at) refl
  has_value (t ∷ ts) (u ∷ us) [] w x i g types h at = absurd (cc)
  has_value (t ∷ ts) (u ∷ us) (j ∷ vars) w zero i g types h at =
      let same : j ≡ i = cc in
      let own : j.value ≡ t = (head_is types).0 in
      an_argument (subst (λ (k : VarInfo). is_given_sort k.sort ≡ true) same (and_parts (is_given_sort j.sort) (are_given (length ts) vars) g).0)
      (subst (λ (k : VarInfo). IsWritten heap k.value u) same (subst (λ s. IsWritten heap s u) (sym own) h.0))
  has_value (t ∷ ts) (u ∷ us) (j ∷ vars) w (suc x) i g types h at =
      has_value ts us vars (λ y. w (suc y)) x i (and_parts (is_given_sort j.sort) (are_given (length ts) vars) g).1 (head_is types).1 h.1 at
  has_value [] (u ∷ us) vars w x i g types h at = absurd h
  has_value (t ∷ ts) [] vars w x i g types h at = absurd h

  pub other_value : (ts : List ValueType) (us : List Value) (vars : List VarInfo) (w : Valuation) (x : ℕ) →
      are_given (length ts) vars ≡ true → AreWritten heap ts us → is_given vars x ≡ false → with_arguments us w x ≡ w x
  other_value [] [] vars w x g h e = refl
  other_value (t ∷ ts) (u ∷ us) [] w x g h e = absurd (cc)
  other_value (t ∷ ts) (u ∷ us) (j ∷ vars) w zero g h e =
      let yes : is_given_sort j.sort ≡ true = (and_parts (is_given_sort j.sort) (are_given (length ts) vars) g).0 in absurd (cc)
  other_value (t ∷ ts) (u ∷ us) (j ∷ vars) w (suc x) g h e = other_value ts us vars (λ y. w (suc y)) x (and_parts (is_given_sort j.sort) (are_given (length ts) vars) g).1 h.1 e
  other_value [] (u ∷ us) vars w x g h e = absurd h
  other_value (t ∷ ts) [] vars w x g h e = absurd h

-- ---- fitting values

is_given_then : (s : Sort) → is_given_sort s ≡ true → s ≡ sort.Given
is_given_then sort.Given e = refl
is_given_then sort.Cell e = cc
is_given_then sort.Input e = cc
is_given_then sort.Made e = cc

made_block : (s : Sort) (t : ValueType) (u : Value) → s ≡ sort.Made → FitsSort s t u → (n : ℕ) × (u ≡ Block n)
made_block s t u e h = block_is u (subst (λ s. FitsSort s t u) e h).1

one_type : (o : Option HeapBlock) (s t : TypeId) → HasBlockType s.0 o → HasBlockType t.0 o → s ≡ t
one_type None s t h k = absurd h
one_type (Some b) s t h k = ap (λ n. record { 0 = n }) (sym h ∙ k)

has_none : (o : Option HeapBlock) (t : ℕ) → o ≡ None → HasBlockType t o → ⊥
has_none o t e h = let k : HasBlockType t None = subst (HasBlockType t) e h in k

module _ (heap : HeapMap) (bound : ℕ) (finite : (n : ℕ) → bound ≤ n → heap n ≡ None) where
  -- no argument is a moved block
  not_moved : (t : ValueType) (u w : Value) (n : ℕ) → IsWritten heap t u → u ≡ Block n → moved bound w ≡ Block n → ⊥
  not_moved t u w n h e m =
      let (s, is, there) = written_block heap t u n h e in
      let (k, own, beyond) = block_from bound w n m in has_none (heap n) s.0 (finite n (omega arith)) there

  module _ (vars : List VarInfo) (ts : List ValueType) (us : List Value) (own : Valuation) (fits : Fits vars own)
      (given : are_given (length ts) vars ≡ true) (types : map (λ (i : VarInfo). i.value) (take (length ts) vars) ≡ ts) (written : AreWritten heap ts us) where
    abbrev pub chosen : Valuation
    chosen = with_arguments us (λ x. moved bound (own x))

    value_of : (x : ℕ) (i : VarInfo) → slice_get vars x ≡ Some i → HasItsValue heap i (chosen x) (moved bound (own x))
    value_of x i at = has_value heap ts us vars (λ x. moved bound (own x)) x i given types written at

    fits_sort : (x : ℕ) (i : VarInfo) → slice_get vars x ≡ Some i → FitsSort i.sort i.value (chosen x)
    fits_sort x i at = by (value_of x i at)
      where
        by : HasItsValue heap i (chosen x) (moved bound (own x)) → FitsSort i.sort i.value (chosen x)
        by (an_argument g h) = subst (λ s. FitsSort s i.value (chosen x)) (sym (is_given_then i.sort g)) (written_type heap i.value (chosen x) h)
        by (another g e) = subst (FitsSort i.sort i.value) (sym e) (still_fits bound i.sort i.value (own x) (fits.sorts x i at))

    made_apart : (x y : ℕ) (i j : VarInfo) → slice_get vars x ≡ Some i → slice_get vars y ≡ Some j → i.sort ≡ sort.Made → x ≢ y → chosen x ≢ chosen y
    made_apart x y i j at at' made differ same = by (value_of x i at) (value_of y j at')
      where
        given_made : is_given_sort i.sort ≡ true → ⊥
        given_made g = let e : sort.Made ≡ sort.Given = sym made ∙ is_given_then i.sort g in cc

        by : HasItsValue heap i (chosen x) (moved bound (own x)) → HasItsValue heap j (chosen y) (moved bound (own y)) → ⊥
        by (an_argument g h) k = given_made g
        by (another g e) (an_argument g' h) =
            let (n, block) = made_block i.sort i.value (own x) made (fits.sorts x i at) in
            not_moved j.value (chosen y) (own x) _ h (sym same ∙ e ∙ ap (moved bound) block) (ap (moved bound) block)
        by (another g e) (another g' e') = fits.made x y i j at at' made differ (moved_apart bound (own x) (own y) (sym e ∙ same ∙ e'))

    types_apart : (x y : ℕ) (i j : VarInfo) (s t : TypeId) (b : ℕ) → slice_get vars x ≡ Some i → slice_get vars y ≡ Some j → i.value ≡ Pointer s → j.value ≡ Pointer t →
        chosen x ≡ Block b → chosen y ≡ Block b → s ≡ t
    types_apart x y i j s t b at at' is is' block block' = by (value_of x i at) (value_of y j at')
      where
        by : HasItsValue heap i (chosen x) (moved bound (own x)) → HasItsValue heap j (chosen y) (moved bound (own y)) → s ≡ t
        by (an_argument g h) (an_argument g' h') =
            one_type (heap b) s t (subst (IsWritten heap (Pointer s)) block (subst (λ u. IsWritten heap u (chosen x)) is h))
            (subst (IsWritten heap (Pointer t)) block' (subst (λ u. IsWritten heap u (chosen y)) is' h'))
        by (an_argument g h) (another g' e') = absurd (not_moved i.value (chosen x) (own y) b h block (sym e' ∙ block'))
        by (another g e) (an_argument g' h') = absurd (not_moved j.value (chosen y) (own x) b h' block' (sym e ∙ block))
        by (another g e) (another g' e') =
            let (k, own_block, n) = block_from bound (own x) b (sym e ∙ block) in
            let (k', own_block', n') = block_from bound (own y) b (sym e' ∙ block') in
            let same : k ≡ k' = omega arith in
            fits.types x y i j s t k at at' is is' own_block (own_block' ∙ ap Block (sym same))

    pub chosen_fits : Fits vars chosen
    chosen_fits = record { sorts = fits_sort; made = made_apart; types = types_apart }

    -- ---- true conjuncts

    pub chosen_true : (c : Conj) → All (λ x. is_given vars x ≡ false) (mentioned c) → IsTrueUnder own c → IsTrueUnder chosen c
    chosen_true c free h =
        truth_agrees (λ x. moved bound (own x)) chosen c (λ k d l. sym (other_value heap ts us vars (λ x. moved bound (own x)) _ given written (free k d l))) (still_true bound own c h)

    -- what isn't given has the moved value
    pub other_chosen : (x : ℕ) → is_given vars x ≡ false → chosen x ≡ moved bound (own x)
    other_chosen x e = other_value heap ts us vars (λ x. moved bound (own x)) x given written e
