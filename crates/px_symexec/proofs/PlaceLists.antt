-- Lists of conjuncts on places alone, decided by hand.
use Rattle.std.proofs.Common.{◌≡◌, ℕ, zero, suc, ◌%◌, ◌^◌, ◌<◌, ◌≤◌, pos, List, [], ◌∷◌, length, Some, None, inl, inr, refl, ap, sym, ◌∙◌, subst, arith, rules}
use Rattle.std.specs.Prelude.{All, slice_get, FitsSigned}
use Rattle.std.specs.Int.{w32}
use Rattle.std.proofs.lemmas.List.Elements.{All-nil, All-cons}
use Rattle.std.proofs.lemmas.Option.{same_Some}
use Rattle.px_terms.specs.Valuations.{valuation_of, number_of, numbers_of, IsWord, Fits}
use Rattle.px_terms.specs.Fitting.{FitsAt}
use Rattle.px_terms.specs.Conjuncts.{IsTrueUnder, IsPlain, IsIntVariable, IsPointerVariable}
use Rattle.px_terms.specs.declared.types.TypeId.{TypeId}
use Rattle.px_terms.specs.declared.types.ValueType.TheVariants.{Int, Pointer}
use Rattle.px_terms.specs.declared.types.Value.{Value}
use Rattle.px_terms.specs.declared.types.Value.TheVariants.{Word, Null, Block}
use Rattle.px_terms.specs.declared.variables.VarInfo.{VarInfo}
use Rattle.px_terms.specs.declared.conjuncts.Place.{Place}
use Rattle.px_terms.specs.declared.conjuncts.Place.TheVariants as place
use Rattle.px_terms.specs.declared.conjuncts.Conj.{Conj}
use Rattle.px_terms.specs.declared.conjuncts.Conj.TheVariants.{SamePlace, OtherPlace}
use Rattle.px_terms.proofs.FitLemmas.{fits_from}
use Rattle.px_plain.specs.Ties.{KeepsTie, KeepsTies, KeepsPlace, KeepsPlaces, IsSamePlace, IsNullPlace, IsSaidUnwritten, SaysUnwritten}
use Rattle.px_solver.specs.Components.{IsHard}
use Rattle.px_solver.specs.Models.{HasPlace}
use Rattle.px_solver.specs.Decisions.{IsRefuted, IsFound}
use Rattle.px_callgraph.specs.WorkedStates.{int_block, is_at}
use Rattle.px_symexec.specs.WorkedJobs.{a_pointer, a_made, an_int}

-- ---- any such list

-- the conjuncts are plain, say of none that it is unwritten, and tie no words
pub record AreOnPlaces (cs : List Conj) : Type 0 where
  pub plain : All IsPlain cs
  pub silent : (x : ℕ) → All (λ c. ¬ SaysUnwritten x c) cs
  pub ties : (w : ℕ → ℕ) → KeepsTies w cs

pub open_by : (vars : List VarInfo) (cs : List Conj) (vs : List Value) → Fits vars (valuation_of vs) → All (IsTrueUnder (valuation_of vs)) cs → ¬ IsRefuted vars cs []
open_by vars cs vs f t (inl none) = none (valuation_of vs) f (λ k d l p. t k d l)
open_by vars cs vs f t (inr n) = n

zero_least : (a : ℕ) (v : Value) → v ≡ Word (pos 0) → number_of v % 2 ^ 32 ≤ a
zero_least a v e = subst (λ z. number_of z % 2 ^ 32 ≤ a) (sym e) (omega arith)

zero_word : (v : Value) → v ≡ Word (pos 0) → IsWord v
zero_word v e = subst IsWord (sym e) tt

module _ (vars : List VarInfo) (cs : List Conj) (vs : List Value) (on : AreOnPlaces cs) where
  none_hard : (r : ℕ) → ¬ IsHard cs r
  none_hard r (k, c, l, e, n) = n.0 (subst IsPlain e (on.plain k c l))

  none_silent : (x : ℕ) → ¬ IsSaidUnwritten cs x
  none_silent x (k, c, l, e, s) = on.silent x k c l (subst (SaysUnwritten x) (sym e) s)

  -- where its words are 0
  pub found_by : length vs ≡ length vars → Fits vars (valuation_of vs) → All (IsTrueUnder (valuation_of vs)) cs →
      ((x : ℕ) → IsIntVariable vars x → valuation_of vs x ≡ Word (pos 0)) →
      ((x : ℕ) → IsPointerVariable vars x → HasPlace vars cs x (valuation_of vs x)) → IsFound vars cs [] vs
  found_by size f t zeros places = record {
    not_refuted = open_by vars cs vs f t;
    none_false = λ k d l h. h.0 (on.plain k d l);
    fits = f;
    are_true = t;
    model = record {
      size = size;
      unwritten = λ x l u. absurd (none_silent x u);
      words = λ x i n. zero_word (valuation_of vs x) (zeros x i);
      places = λ x p n. places x p;
      keep = on.ties (numbers_of (valuation_of vs));
      searched = λ r h. absurd (none_hard r h.hard);
      least = λ r i h n. record { least = λ u k e s. zero_least (u r % 2 ^ 32) (valuation_of vs r) (zeros r i) };
    };
  }

-- of a list of one
only : {A : Type 0} (P : A → Type 0) (x : A) → P x → All P (x ∷ [])
only P x h = All-cons P x [] h (All-nil P)

pub nothing_on_places : AreOnPlaces []
nothing_on_places = record { plain = All-nil _; silent = λ x. All-nil _; ties = λ w. All-nil _ }

pub same_on_places : (a b : Place) → AreOnPlaces (SamePlace a b ∷ [])
same_on_places a b = record { plain = only IsPlain (SamePlace a b) tt; silent = λ x. only (λ c. ¬ SaysUnwritten x c) (SamePlace a b) (λ n. n); ties = λ w. only (KeepsTie w) (SamePlace a b) tt }

pub other_on_places : (a b : Place) → AreOnPlaces (OtherPlace a b ∷ [])
other_on_places a b = record { plain = only IsPlain (OtherPlace a b) tt; silent = λ x. only (λ c. ¬ SaysUnwritten x c) (OtherPlace a b) (λ n. n); ties = λ w. only (KeepsTie w) (OtherPlace a b) tt }

-- ---- refuted lists

abbrev pub not_null : Conj
not_null = OtherPlace (is_at 0) place.Null

abbrev pub is_null : Conj
is_null = SamePlace (is_at 0) place.Null

pub null_and_not : (vars : List VarInfo) → IsRefuted vars (is_null ∷ not_null ∷ []) []
null_and_not vars = inl (λ v f t. (t 1 is_null (let l : 1 < 2 = omega arith in l) tt).1 (t 0 is_null (let l : 0 < 2 = omega arith in l) tt).1)

pub apart_from_itself : (vars : List VarInfo) → IsRefuted vars (not_null ∷ not_null ∷ OtherPlace (is_at 0) (is_at 0) ∷ []) []
apart_from_itself vars = inl (λ v f t. (t 2 is_null (let l : 2 < 3 = omega arith in l) tt).1 refl)

-- ---- found lists

nothing_fits : Fits [] (valuation_of [])
nothing_fits = fits_from [] [] (λ x l. let n : ⊥ = omega arith in absurd n)

one_fits : (i : VarInfo) (a : Value) → FitsAt (i ∷ []) (a ∷ []) 0 → Fits (i ∷ []) (valuation_of (a ∷ []))
one_fits i a h = fits_from (i ∷ []) (a ∷ []) by
  where
    by : (x : ℕ) → x < 1 → FitsAt (i ∷ []) (a ∷ []) x
    by zero l = h
    by (suc x) l = let n : ⊥ = omega arith in absurd n

pub pointer_null : Fits (a_pointer ∷ []) (valuation_of (Null ∷ []))
pointer_null = one_fits a_pointer Null (record { sort = tt; apart = λ b. absurd b })

pub pointer_block : Fits (a_pointer ∷ []) (valuation_of (Block 1 ∷ []))
pointer_block = one_fits a_pointer (Block 1) (record { sort = tt; apart = λ b y l. let n : ⊥ = omega arith in absurd n })

pub made_block : Fits (a_made ∷ []) (valuation_of (Block 1 ∷ []))
made_block = one_fits a_made (Block 1) (record { sort = (tt, tt); apart = λ b y l. let n : ⊥ = omega arith in absurd n })

zero_fits : FitsSigned w32 (pos 0)
zero_fits = search rules

pub block_and_zero : Fits (a_pointer ∷ an_int ∷ []) (valuation_of (Block 1 ∷ Word (pos 0) ∷ []))
block_and_zero = fits_from (a_pointer ∷ an_int ∷ []) (Block 1 ∷ Word (pos 0) ∷ []) by
  where
    by : (x : ℕ) → x < 2 → FitsAt (a_pointer ∷ an_int ∷ []) (Block 1 ∷ Word (pos 0) ∷ []) x
    by zero l = record { sort = tt; apart = λ b y m. let n : ⊥ = omega arith in absurd n }
    by (suc zero) l = record { sort = zero_fits; apart = λ b. absurd b }
    by (suc (suc x)) l = let n : ⊥ = omega arith in absurd n

-- the first variable is a block: where it is told apart from null, or nothing is said of it
first_block : (vars : List VarInfo) (cs : List Conj) → ¬ IsNullPlace vars cs 0 → HasPlace vars cs 0 (Block 1)
first_block vars cs n = inr (record {
  block = n;
  first = 0;
  earlier = 0;
  is_first = record { same = λ w k. refl; least = λ z l. let m : ⊥ = omega arith in absurd m };
  are_earlier = refl;
  value = refl;
})

none_there : {A : Type 0} (k : VarInfo) → ◌≡◌ {A = _} None (Some k) → A
none_there k e = cc

apart_numbers : ◌≡◌ {A = ℕ} 0 1 → ⊥
apart_numbers e = omega (arith, e)

-- the one variable of a list that is no null place by its types
alone : (i : VarInfo) (cs : List Conj) → ((w : ℕ → ℕ) → KeepsPlaces w cs) → ¬ IsNullPlace (i ∷ []) cs 0
alone i cs keep (inl tied) = apart_numbers (sym (tied (λ _. 1) (keep (λ _. 1))))
alone i cs keep (inr h) = h.types (one_of h.first h.one h.is_first ∙ sym (one_of h.second h.other h.is_second))
  where
    one_of : (x : ℕ) (k : VarInfo) → slice_get (i ∷ []) x ≡ Some k → k.value ≡ i.value
    one_of zero k e = ap (λ (z : VarInfo). z.value) (sym (same_Some i k e))
    one_of (suc x) k e = none_there k e

pointer_only : (i : VarInfo) (a : Value) (cs : List Conj) → HasPlace (i ∷ []) cs 0 a → (x : ℕ) → IsPointerVariable (i ∷ []) x → HasPlace (i ∷ []) cs x (valuation_of (a ∷ []) x)
pointer_only i a cs h zero p = h
pointer_only i a cs h (suc x) p = absurd p

-- no variable of a list of pointers is an `int`
no_int : (i : VarInfo) (a : Value) → (i.value ≡ Int → ⊥) → (x : ℕ) → IsIntVariable (i ∷ []) x → valuation_of (a ∷ []) x ≡ Word (pos 0)
no_int i a n zero e = absurd (n e)
no_int i a n (suc x) e = absurd e

pointer_no_int : (t : TypeId) → Pointer t ≡ Int → ⊥
pointer_no_int t e = cc

pub found_nothing : IsFound [] [] [] []
found_nothing = found_by [] [] [] nothing_on_places refl nothing_fits (All-nil _) (λ x i. absurd i) (λ x p. absurd p)

pub found_made : IsFound (a_made ∷ []) [] [] (Block 1 ∷ [])
found_made =
    found_by (a_made ∷ []) [] (Block 1 ∷ []) nothing_on_places refl made_block (All-nil _) (no_int a_made (Block 1) (pointer_no_int int_block))
    (pointer_only a_made (Block 1) [] (first_block (a_made ∷ []) [] (alone a_made [] (λ w. All-nil _))))

pub found_null : IsFound (a_pointer ∷ []) (is_null ∷ []) [] (Null ∷ [])
found_null =
    found_by (a_pointer ∷ []) (is_null ∷ []) (Null ∷ []) (same_on_places (is_at 0) place.Null) refl pointer_null (only (IsTrueUnder (valuation_of (Null ∷ []))) is_null ((tt, tt), refl))
    (no_int a_pointer Null (pointer_no_int int_block))
    (pointer_only a_pointer Null (is_null ∷ []) (inl (inl (λ w k. k 0 is_null (let l : 0 < 1 = omega arith in l)), refl)))

null_no_block : Block 1 ≡ Null → ⊥
null_no_block e = cc

keeps_none : (w : ℕ → ℕ) → KeepsPlaces w (not_null ∷ [])
keeps_none w = only (KeepsPlace w) not_null tt

pub found_block : IsFound (a_pointer ∷ []) (not_null ∷ []) [] (Block 1 ∷ [])
found_block =
    found_by (a_pointer ∷ []) (not_null ∷ []) (Block 1 ∷ []) (other_on_places (is_at 0) place.Null) refl pointer_block (only (IsTrueUnder (valuation_of (Block 1 ∷ []))) not_null ((tt, tt), null_no_block))
    (no_int a_pointer (Block 1) (pointer_no_int int_block))
    (pointer_only a_pointer (Block 1) (not_null ∷ []) (first_block (a_pointer ∷ []) (not_null ∷ []) (alone a_pointer (not_null ∷ []) keeps_none)))

abbrev both : List VarInfo
both = a_pointer ∷ an_int ∷ []

-- the pointer before an `int` is no null place: the `int` isn't the same place
before_int : ¬ IsNullPlace both (not_null ∷ []) 0
before_int (inl tied) = apart_numbers (sym (tied (λ _. 1) (keeps_none (λ _. 1))))
before_int (inr h) = h.types (one_of h.first h.one h.is_first h.same_first ∙ sym (one_of h.second h.other h.is_second h.same_second))
  where
    one_of : (x : ℕ) (k : VarInfo) → slice_get both x ≡ Some k → IsSamePlace (not_null ∷ []) 0 x → k.value ≡ Pointer int_block
    one_of zero k e s = ap (λ (z : VarInfo). z.value) (sym (same_Some a_pointer k e))
    one_of (suc zero) k e s = absurd (apart_numbers (s (λ x. x) (keeps_none (λ x. x))))
    one_of (suc (suc x)) k e s = none_there k e

pub found_block_and_zero : IsFound both (not_null ∷ []) [] (Block 1 ∷ Word (pos 0) ∷ [])
found_block_and_zero =
    found_by both (not_null ∷ []) (Block 1 ∷ Word (pos 0) ∷ []) (other_on_places (is_at 0) place.Null) refl block_and_zero (only (IsTrueUnder (valuation_of (Block 1 ∷ Word (pos 0) ∷ []))) not_null ((tt, tt), null_no_block)) ints pointers
  where
    ints : (x : ℕ) → IsIntVariable both x → valuation_of (Block 1 ∷ Word (pos 0) ∷ []) x ≡ Word (pos 0)
    ints zero e = absurd (pointer_no_int int_block e)
    ints (suc zero) e = refl
    ints (suc (suc x)) e = absurd e

    pointers : (x : ℕ) → IsPointerVariable both x → HasPlace both (not_null ∷ []) x (valuation_of (Block 1 ∷ Word (pos 0) ∷ []) x)
    pointers zero p = first_block both (not_null ∷ []) before_int
    pointers (suc zero) p = absurd (int_no_pointer p.0 p.1)
      where
        int_no_pointer : (t : TypeId) → Int ≡ Pointer t → ⊥
        int_no_pointer t e = cc
    pointers (suc (suc x)) p = absurd p

pub open_pointer : ¬ IsRefuted (a_pointer ∷ []) [] []
open_pointer = open_by (a_pointer ∷ []) [] (Null ∷ []) pointer_null (All-nil _)
