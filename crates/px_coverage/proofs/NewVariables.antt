-- The values of the variables that are new to the caller after a call: the callee's inputs, and the blocks that it made.
use Rattle.std.proofs.Common.{◌≡◌, ◌≢◌, ◌⊎◌, ℕ, zero, suc, ◌+◌, ◌<◌, Bool, true, false, cond, ◌||◌, Option, Some, None, List, [], ◌∷◌, ◌++◌, length, slice_get, refl, sym, ap, ◌∙◌, subst, inl, inr, arith}
use Rattle.std.proofs.lemmas.Option.{same_Some, slice_get_within}
use Rattle.px_terms.specs.Valuations.{Valuation, HasType, FitsSort, Fits}
use Rattle.px_terms.specs.declared.types.TypeId.{TypeId}
use Rattle.px_terms.specs.declared.types.Value.{Value}
use Rattle.px_terms.specs.declared.types.Value.TheVariants as value
use Rattle.px_terms.specs.declared.types.ValueType.{ValueType}
use Rattle.px_terms.specs.declared.types.ValueType.TheVariants.{Int, Pointer}
use Rattle.px_terms.specs.declared.variables.VarInfo.{VarInfo}
use Rattle.px_terms.specs.declared.variables.Sort.{Sort}
use Rattle.px_terms.specs.declared.variables.Sort.TheVariants as sort
use Rattle.px_terms.specs.declared.conjuncts.Content.{Content}
use Rattle.px_entry.specs.declared.entries.Entry.{Entry}
use Rattle.px_entry.specs.Sorts.{is_some_and, is_made_sort, is_input_sort, is_made}
use Rattle.px_entry.specs.Regular.{is_regular}
use Rattle.px_entry.proofs.Lists.{each_from}
use Rattle.px_callgraph.specs.declared.states.State.{State}
use Rattle.px_callgraph.specs.JobTree.{JobTree}
use Rattle.px_callgraph.specs.Renaming.{Substitution, is_new, new_variables, stand_new}
use Rattle.px_callgraph.specs.Calls.{stand_all}
use Rattle.px_meaning.specs.Heaps.{HeapMap, IsWritten, join}
use Rattle.px_meaning.specs.Operations.{value_at}
use Rattle.px_meaning.specs.Triples.{block_of, heap_of}
use Rattle.px_soundness.proofs.AtomHeaps.{absent, none_not_some, at_heap, front_none, there, back_none}
use Rattle.px_soundness.proofs.WellTyped.{each_get}
use Rattle.px_soundness.proofs.Contents.{variable_is_content}
use Rattle.px_soundness.proofs.Through.{stood, through}
use Rattle.px_soundness.proofs.CallMatches.{found_more}
use Rattle.px_soundness.proofs.CallStages.{Matched}
use Rattle.px_soundness.proofs.CallStands.{new_before, StandsBefore, IsNewType, new_content}
use Rattle.px_soundness.proofs.CallReady.{stands_before, get_there}
use Rattle.px_soundness.proofs.CallMade.{all_new, new_back}
use Rattle.px_soundness.proofs.CallPending.{Pending}
use Rattle.px_soundness.proofs.EntryParts.{given_of}
use Rattle.px_soundness.proofs.EntryTypes.{new_types}
use Rattle.px_coverage.specs.Covered.{Execution, IsOf}
use Rattle.px_coverage.proofs.Stands.{HasSort, Stands, sort_block, has_type_not_none, made_atom, not_met, stands_fits}
use Rattle.px_coverage.proofs.Extended.{extended, extended_old, extended_new, get_either, content_agrees}
use Rattle.px_coverage.proofs.CallAgrees.{Agrees}
use Rattle.px_coverage.proofs.InnerHeaps.{Made, made_new, made_there}
use Rattle.px_terms.proofs.Places.{block_is}

-- the values of those that are new, in order; n is the number of the first variable
abbrev pub new_values : Valuation → ℕ → List VarInfo → List Value
new_values w n [] = []
new_values w n (i ∷ xs) = cond (is_new i) (w n ∷ new_values w (suc n) xs) (new_values w (suc n) xs)

new_value_at : (w : Valuation) (n : ℕ) (xs : List VarInfo) (y : ℕ) (i : VarInfo) → slice_get xs y ≡ Some i → is_new i ≡ true → value_at (new_values w n xs) (new_before xs y) ≡ w (n + y)
new_value_at w n [] y i e new = absent e
new_value_at w n (h ∷ xs) zero i e new = by (is_new h) (ap is_new (same_Some _ _ e) ∙ new)
  where
    by : (q : Bool) → q ≡ true → value_at (cond q (w n ∷ new_values w (suc n) xs) (new_values w (suc n) xs)) 0 ≡ w (n + 0)
    by true f = let same : n ≡ n + 0 = omega arith in ap w same
    by false f = let g : false ≡ true = f in cc
new_value_at w n (h ∷ xs) (suc y) i e new = by (is_new h) (new_value_at w (suc n) xs y i e new ∙ (let same : suc n + y ≡ n + suc y = omega arith in ap w same))
  where
    by : (q : Bool) → value_at (new_values w (suc n) xs) (new_before xs y) ≡ w (n + suc y) → value_at (cond q (w n ∷ new_values w (suc n) xs) (new_values w (suc n) xs)) (cond q (suc (new_before xs y)) (new_before xs y)) ≡ w (n + suc y)
    by true f = f
    by false f = f

each_new : (xs : List VarInfo) (k : ℕ) (i : VarInfo) → slice_get (new_variables xs) k ≡ Some i → is_new i ≡ true
each_new xs k i e = each_get (λ (i : VarInfo). is_new i ≡ true) (new_variables xs) k i (each_from is_new (λ (i : VarInfo). is_new i ≡ true) (λ i f. f) (new_variables xs) (all_new is_new (λ i f. f) xs)) e

type_written : (heap : HeapMap) (u : Value) → HasType Int u → IsWritten heap Int u
type_written heap (value.Word z) h = h
type_written heap value.Null h = absurd h
type_written heap (value.Block n) h = absurd h
type_written heap value.Unwritten h = absurd h

no_int_block : (u : Value) (n : ℕ) → HasType Int u → u ≡ value.Block n → ⊥
no_int_block u n h e = subst (HasType Int) e h

module _ (j : JobTree) (e : Execution) (contents : List Content) (x : Entry) (regular : is_regular j.types (length contents) x ≡ true)
    (u : State) (σ : Substitution) (used : List ℕ) (m : Matched j.types contents x u σ [] used) (q : Pending j x u σ)
    (v : Valuation) (rest : HeapMap) (stands : Stands e v rest u.vars u.pure u.pre u.atoms)
    (inner : Execution) (is_of : IsOf inner x) (agrees : Agrees v is_of.valuation σ) (same : inner.before ≡ join (heap_of v u.atoms) rest) where
  abbrev w : Valuation
  w = is_of.valuation

  abbrev pub vars : List VarInfo
  vars = u.vars ++ new_variables x.vars

  abbrev pub all : Substitution
  all = stand_all x σ u

  -- the caller's valuation after the call
  abbrev pub val : Valuation
  val = extended v (length u.vars) (new_values w 0 x.vars)

  pub agree : (y : ℕ) → y < length u.vars → val y ≡ v y
  agree y l = extended_old v (length u.vars) (new_values w 0 x.vars) y l

  pub before : StandsBefore u.vars u.pure x.vars σ
  before = stands_before j.types contents x u σ used m (given_of j.types (length contents) x regular)

  pub typed : (y : ℕ) (i : VarInfo) → slice_get x.vars y ≡ Some i → IsNewType i.sort i.value
  typed = new_types j.types (length contents) x regular

  val_new : (y : ℕ) (i : VarInfo) → slice_get x.vars y ≡ Some i → is_new i ≡ true → (k : ℕ) → k ≡ length u.vars + new_before x.vars y → val k ≡ w y
  val_new y i at new k is =
      extended_new v (length u.vars) (new_values w 0 x.vars) k (new_before x.vars y) is ∙ new_value_at w 0 x.vars y i at new ∙ (let zero_plus : 0 + y ≡ y = omega arith in ap w zero_plus)

  -- ---- what the callee made is new

  outside : (y : ℕ) (i : VarInfo) (n : ℕ) → slice_get x.vars y ≡ Some i → is_made_sort i.sort ≡ true → w y ≡ value.Block n → (heap_of v u.atoms n ≡ None) × (e.before n ≡ None)
  outside y i n at made block =
      let is : is_made x.vars y ≡ true = ap (λ (o : Option VarInfo). is_some_and o (λ (k : VarInfo). is_made_sort k.sort)) at ∙ made in
      let (b, has) = made_there j.types (length contents) x regular inner is_of y n is block in
      let none : join (heap_of v u.atoms) rest n ≡ None = elim (made_new j.types (length contents) x regular inner is_of n) [
        | inl h ↦ absurd (none_not_some (Made j.types (length contents) x regular inner is_of n) b h has)
        | inr h ↦ sym (at_heap n same) ∙ h
      ] in
      let out : heap_of v u.atoms n ≡ None = front_none (heap_of v u.atoms) rest n none in
      (out, not_met j.types j.body.parameters u.vars q.counted u.pure u.pre u.atoms q.well_typed.atoms q.complete e v rest stands n out ∙ back_none (heap_of v u.atoms) rest n none)

  -- a block of an old variable isn't
  inside : (y : ℕ) (i : VarInfo) (n : ℕ) → slice_get u.vars y ≡ Some i → v y ≡ value.Block n → heap_of v u.atoms n ≡ None → e.before n ≡ None → ⊥
  inside y i n at block out none = by (is_made_sort i.sort) refl
    where
      by : (p : Bool) → is_made_sort i.sort ≡ p → ⊥
      by true made =
          let (k, a, got, place, _) = made_atom j.types j.body.parameters u.vars q.counted u.pure u.pre u.atoms q.well_typed.atoms q.complete e v rest stands y i at made in
          none_not_some (heap_of v u.atoms n) (block_of v a) out (there v u.atoms k a n stands.placed got (ap v place ∙ block))
      by false made = let (b, type, has) = sort_block e.before i.sort i.value (v y) n (stands.sorts y i at) made block in has_type_not_none b.0 (e.before n) has none

  -- ---- the new values are of their sorts

  new_sort : (y : ℕ) (i : VarInfo) → slice_get x.vars y ≡ Some i → is_new i ≡ true → HasSort e.before i.sort i.value (w y)
  new_sort y i at new = by i.sort i.value refl new (typed y i at) (is_of.satisfies.fits.sorts y i at)
    where
      by : (s : Sort) (t : ValueType) → i.sort ≡ s → (is_input_sort s || is_made_sort s) ≡ true → IsNewType s t → FitsSort s t (w y) → HasSort e.before s t (w y)
      by sort.Given t is f k h = absurd (let g : false ≡ true = f in cc)
      by sort.Cell t is f k h = absurd (let g : false ≡ true = f in cc)
      by sort.Input t is f k h = subst (λ z. IsWritten e.before z (w y)) (sym k) (type_written e.before (w y) (subst (λ z. HasType z (w y)) k h))
      by sort.Made t is f (b, k) h = let (n, block) = block_is (w y) h.1 in (n, b, k, block, (outside y i n at (ap is_made_sort is) block).1)

  pub new_sorts : (k : ℕ) (i : VarInfo) → slice_get (new_variables x.vars) k ≡ Some i → HasSort e.before i.sort i.value (val (length u.vars + k))
  new_sorts k i at =
      let (y, here, is) = new_back x.vars k i at in
      let new = each_new x.vars k i at in
      subst (HasSort e.before i.sort i.value) (sym (val_new y i here new (length u.vars + k) (ap (λ z. length u.vars + z) (sym is)))) (new_sort y i here new)

  -- ---- they fit

  old_fits : Fits u.vars v
  old_fits = stands_fits j.types j.body.parameters u.vars q.counted u.pure u.pre u.atoms q.well_typed.atoms q.complete e v rest stands

  -- where a variable is from
  data From (z : ℕ) (i : VarInfo) : Type 0 where
    old : slice_get u.vars z ≡ Some i → val z ≡ v z → From z i
    new_one : (y : ℕ) → slice_get x.vars y ≡ Some i → is_new i ≡ true → z ≡ length u.vars + new_before x.vars y → val z ≡ w y → From z i

  from : (z : ℕ) (i : VarInfo) → slice_get vars z ≡ Some i → From z i
  from z i at = by (get_either u.vars (new_variables x.vars) z i at)
    where
      by : ((slice_get u.vars z ≡ Some i) ⊎ ((k : ℕ) × (z ≡ length u.vars + k) × (slice_get (new_variables x.vars) k ≡ Some i))) → From z i
      by (inl here) = old here (agree z (slice_get_within u.vars z i here))
      by (inr (k, is, here)) =
          let (y, at_y, before_y) = new_back x.vars k i here in
          let new = each_new x.vars k i here in
          let place : z ≡ length u.vars + new_before x.vars y = is ∙ ap (λ n. length u.vars + n) (sym before_y) in
          new_one y at_y new place (val_new y i at_y new z place)

  sorts : (z : ℕ) (i : VarInfo) → slice_get vars z ≡ Some i → FitsSort i.sort i.value (val z)
  sorts z i at = by (from z i at)
    where
      by : From z i → FitsSort i.sort i.value (val z)
      by (old here is) = subst (FitsSort i.sort i.value) (sym is) (old_fits.sorts z i here)
      by (new_one y here new place is) = subst (FitsSort i.sort i.value) (sym is) (is_of.satisfies.fits.sorts y i here)

  -- a new variable that is a pointer was made
  pointer_made : (y : ℕ) (i : VarInfo) (n : ℕ) → slice_get x.vars y ≡ Some i → is_new i ≡ true → w y ≡ value.Block n → is_made_sort i.sort ≡ true
  pointer_made y i n at new block = by i.sort i.value new (typed y i at) (is_of.satisfies.fits.sorts y i at)
    where
      by : (s : Sort) (t : ValueType) → (is_input_sort s || is_made_sort s) ≡ true → IsNewType s t → FitsSort s t (w y) → is_made_sort s ≡ true
      by sort.Given t f k h = let g : false ≡ true = f in cc
      by sort.Cell t f k h = let g : false ≡ true = f in cc
      by sort.Made t f k h = refl
      by sort.Input t f k h = absurd (no_int_block (w y) n (subst (λ z. HasType z (w y)) k h) block)

  made_is_block : (z : ℕ) (i : VarInfo) → slice_get vars z ≡ Some i → i.sort ≡ sort.Made → (n : ℕ) × (val z ≡ value.Block n)
  made_is_block z i at made = block_is (val z) (subst (λ s. FitsSort s i.value (val z)) made (sorts z i at)).1

  made_apart : (y z : ℕ) (i k : VarInfo) → slice_get vars y ≡ Some i → slice_get vars z ≡ Some k → i.sort ≡ sort.Made → y ≢ z → val y ≢ val z
  made_apart y z i k at at' made other equal =
      let (n, block) = made_is_block y i at made in by n block (from y i at) (from z k at')
    where
      by : (n : ℕ) → val y ≡ value.Block n → From y i → From z k → ⊥
      by n block (old here is) (old here' is') = old_fits.made y z i k here here' made other (sym is ∙ equal ∙ is')
      by n block (old here is) (new_one y' here' new place is') =
          let at_w : w y' ≡ value.Block n = sym is' ∙ sym equal ∙ block in
          let (out, none) = outside y' k n here' (pointer_made y' k n here' new at_w) at_w in inside y i n here (sym is ∙ block) out none
      by n block (new_one y' here new place is) (old here' is') =
          let at_w : w y' ≡ value.Block n = sym is ∙ block in
          let (out, none) = outside y' i n here (pointer_made y' i n here new at_w) at_w in inside z k n here' (sym is' ∙ sym equal ∙ block) out none
      by n block (new_one y' here new place is) (new_one z' here' new' place' is') =
          is_of.satisfies.fits.made y' z' i k here here' made (λ f. other (place ∙ ap (λ a. length u.vars + new_before x.vars a) f ∙ sym place')) (sym is ∙ equal ∙ is')

  one_type : (y z : ℕ) (i k : VarInfo) (s t : TypeId) (n : ℕ) → slice_get vars y ≡ Some i → slice_get vars z ≡ Some k → i.value ≡ Pointer s → k.value ≡ Pointer t → val y ≡ value.Block n → val z ≡ value.Block n → s ≡ t
  one_type y z i k s t n at at' type type' block block' = by (from y i at) (from z k at')
    where
      by : From y i → From z k → s ≡ t
      by (old here is) (old here' is') = old_fits.types y z i k s t n here here' type type' (sym is ∙ block) (sym is' ∙ block')
      by (old here is) (new_one z' here' new place is') =
          let at_w : w z' ≡ value.Block n = sym is' ∙ block' in
          let (out, none) = outside z' k n here' (pointer_made z' k n here' new at_w) at_w in absurd (inside y i n here (sym is ∙ block) out none)
      by (new_one y' here new place is) (old here' is') =
          let at_w : w y' ≡ value.Block n = sym is ∙ block in
          let (out, none) = outside y' i n here (pointer_made y' i n here new at_w) at_w in absurd (inside z k n here' (sym is' ∙ block') out none)
      by (new_one y' here new place is) (new_one z' here' new' place' is') = is_of.satisfies.fits.types y' z' i k s t n here here' type type' (sym is ∙ block) (sym is' ∙ block')

  pub val_fits : Fits vars val
  val_fits = record { sorts = sorts; made = made_apart; types = one_type }

  -- ---- what stands for the callee's variables has their values

  new_type : (y : ℕ) (i : VarInfo) → slice_get x.vars y ≡ Some i → is_new i ≡ true → HasType i.value (w y)
  new_type y i at new = by i.sort i.value new (is_of.satisfies.fits.sorts y i at)
    where
      by : (s : Sort) (t : ValueType) → (is_input_sort s || is_made_sort s) ≡ true → FitsSort s t (w y) → HasType t (w y)
      by sort.Given t f h = h
      by sort.Cell t f h = absurd (let g : false ≡ true = f in cc)
      by sort.Input t f h = h
      by sort.Made t f h = h.0

  pub through_is : (y : ℕ) → y < length x.vars → through val all y ≡ w y
  through_is y l = let (i, at) = get_there x.vars y l in by i at (is_new i) refl
    where
      by : (i : VarInfo) → slice_get x.vars y ≡ Some i → (p : Bool) → is_new i ≡ p → through val all y ≡ w y
      by i at false is_old =
          let (c, is, g, suits) = before.content y i at is_old in
          ap (stood val) (found_more σ (stand_new 0 (length u.vars) x.vars) y c is) ∙ content_agrees u.vars u.pure v val agree c g ∙ agrees y c is
      by i at true new =
          let k = length u.vars + new_before x.vars y in
          let is : val k ≡ w y = val_new y i at new k refl in
          ap (stood val) (new_content u.vars u.pure x.vars σ before typed y i at new) ∙ variable_is_content val i.value k (subst (HasType i.value) (sym is) (new_type y i at new)) ∙ is
