-- A list that a rule rules out has no model.
use Rattle.std.proofs.Common.{◌≡◌, ◌⊎◌, inl, inr, ℕ, zero, suc, ◌+◌, ◌*◌, ◌%◌, ◌^◌, List, [], ◌∷◌, get_or, refl, sym, ap, subst, ◌∙◌, arith}
use Rattle.std.specs.Prelude.{All, flat_map, slice_get, FitsSigned, ℤ, ◌<ℤ◌, ◌≤ℤ◌}
use Rattle.std.specs.Int.{w32}
use Rattle.std.proofs.lemmas.List.Elements.{All-head, All-cons}
use Rattle.px_terms.specs.Words.{signed}
use Rattle.px_terms.specs.Terms.{Term, value_at}
use Rattle.px_terms.specs.Polynomials.{Polynomial, value_of}
use Rattle.px_terms.specs.Variables.{variables_of}
use Rattle.px_terms.specs.Valuations.{Valuation, numbers_of, number_of, IsWord, FitsSort, Fits}
use Rattle.px_terms.specs.Conjuncts.{IsTrueUnder, HasWords, IsWellSorted, IsIntVariable, AreWellSorted}
use Rattle.px_terms.specs.Rules.{IsConstant, IsVariable, IsUnitSum, BoundsVariable, IsWithinBounds, IntervalRulesOut, ParityRulesOut, HoldsInIntegers, OrderRulesOut, RulesOut, SomeRulesOut}
use Rattle.px_terms.specs.declared.types.Value.{Value}
use Rattle.px_terms.specs.declared.types.Value.TheVariants as value
use Rattle.px_terms.specs.declared.types.ValueType.TheVariants.{Int}
use Rattle.px_terms.specs.declared.variables.Sort.{Sort}
use Rattle.px_terms.specs.declared.variables.Sort.TheVariants.{Given, Cell, Input, Made}
use Rattle.px_terms.specs.declared.variables.VarInfo.{VarInfo}
use Rattle.px_terms.specs.declared.conjuncts.Conj.{Conj}
use Rattle.px_terms.specs.declared.conjuncts.Conj.TheVariants.{Equal, Unequal, Less, AtMost, SamePlace, OtherPlace, Written, Unwritten, Quotient}
use Rattle.px_terms.proofs.WordLaws.{words_are_signed}
use Rattle.px_plain.proofs.Meanings.{info_of}
use Rattle.px_solver.specs.Laws.{RefutedHaveNoModel}
use Rattle.px_solver.proofs.Values.{value_alike}
use Rattle.px_terms.proofs.DomainLemmas.{equal_words, equal_turned, true_modulo_two}

-- ---- parity

-- ---- order

variable_value : (w : ℕ → ℕ) (x : ℕ) (p : Polynomial) → IsVariable x p → value_of w p ≡ w x % 2 ^ 32
variable_value w x p h = ap (λ c. (c + value_at w p.monomials) % 2 ^ 32) h.0 ∙ ap (λ ts. (0 + value_at w ts) % 2 ^ 32) h.1 ∙ plain (w x)
  where
    plain : (a : ℕ) → (0 + (1 * (a * 1) + 0)) % 2 ^ 32 ≡ a % 2 ^ 32
    plain a = omega arith

abbrev int_at : Valuation → ℕ → ℤ
int_at v x = signed (numbers_of v x % 2 ^ 32)

order_one : (v : Valuation) (c : Conj) → IsTrueUnder v c → HoldsInIntegers (int_at v) c
order_one v (Equal p) h = λ x y d. elim d.1 [
  | inl e ↦ ap signed (equal_words (numbers_of v x) (numbers_of v y) (sym (ap (λ ts. (0 + value_at (numbers_of v) ts) % 2 ^ 32) e) ∙ sym (ap (λ c. (c + value_at (numbers_of v) p.monomials) % 2 ^ 32) d.0) ∙ h.1))
  | inr e ↦ ap signed (equal_turned (numbers_of v x) (numbers_of v y) (sym (ap (λ ts. (0 + value_at (numbers_of v) ts) % 2 ^ 32) e) ∙ sym (ap (λ c. (c + value_at (numbers_of v) p.monomials) % 2 ^ 32) d.0) ∙ h.1))
]
order_one v (Unequal p) h = tt
order_one v (Less p q) h = λ x y a b. subst (λ z. signed (numbers_of v x % 2 ^ 32) <ℤ signed z) (variable_value (numbers_of v) y q b) (subst (λ z. signed z <ℤ signed (value_of (numbers_of v) q)) (variable_value (numbers_of v) x p a) h.2)
order_one v (AtMost p q) h = λ x y a b. subst (λ z. signed (numbers_of v x % 2 ^ 32) ≤ℤ signed z) (variable_value (numbers_of v) y q b) (subst (λ z. signed z ≤ℤ signed (value_of (numbers_of v) q)) (variable_value (numbers_of v) x p a) h.2)
order_one v (SamePlace a b) h = tt
order_one v (OtherPlace a b) h = tt
order_one v (Written z) h = tt
order_one v (Unwritten z) h = tt
order_one v (Quotient z p q) h = tt

-- ---- interval

-- the variables of a polynomial are x alone, or none
abbrev OnlyOf : ℕ → Polynomial → Type 0
OnlyOf x p = (variables_of p ≡ []) ⊎ (variables_of p ≡ x ∷ [])

of_constant : (x : ℕ) (p : Polynomial) → IsConstant p → OnlyOf x p
of_constant x p e = inl (ap (λ (ts : List Term). flat_map (λ (t : Term). t.vars) ts) e)

of_variable : (x : ℕ) (p : Polynomial) → IsVariable x p → variables_of p ≡ x ∷ []
of_variable x p h = ap (λ (ts : List Term). flat_map (λ (t : Term). t.vars) ts) h.1

of_unit : (x : ℕ) (p : Polynomial) → IsUnitSum x p → variables_of p ≡ x ∷ []
of_unit x p (a, u, e) = ap (λ (ts : List Term). flat_map (λ (t : Term). t.vars) ts) e

module _ (v : Valuation) (x : ℕ) (z : ℤ) (here : v x ≡ value.Word z) where
  abbrev at_all : Valuation
  at_all y = value.Word z

  words_there : (p : Polynomial) → HasWords at_all p
  words_there p k d l = tt

  same_value : (p : Polynomial) → OnlyOf x p → value_of (numbers_of at_all) p ≡ value_of (numbers_of v) p
  same_value p (inl e) = value_alike (numbers_of at_all) (numbers_of v) p (subst (All (λ y. numbers_of at_all y % 2 ^ 32 ≡ numbers_of v y % 2 ^ 32)) (sym e) (λ k d l. absurd (omega arith)))
  same_value p (inr e) = value_alike (numbers_of at_all) (numbers_of v) p (subst (All (λ y. numbers_of at_all y % 2 ^ 32 ≡ numbers_of v y % 2 ^ 32)) (sym e)
      (All-cons (λ y. numbers_of at_all y % 2 ^ 32 ≡ numbers_of v y % 2 ^ 32) x [] (ap (λ a. number_of a % 2 ^ 32) (sym here)) (λ k d l. absurd (omega arith))))

  both_only : (p q : Polynomial) → ((IsVariable x p × IsConstant q) ⊎ (IsConstant p × IsVariable x q)) → OnlyOf x p × OnlyOf x q
  both_only p q (inl (a, b)) = (inr (of_variable x p a), of_constant x q b)
  both_only p q (inr (a, b)) = (of_constant x p a, inr (of_variable x q b))

  within_one : (c : Conj) → IsTrueUnder v c → BoundsVariable x c → IsTrueUnder at_all c
  within_one (Equal p) h b = (words_there p, same_value p (inr (of_unit x p b)) ∙ h.1)
  within_one (Unequal p) h b = (words_there p, λ e. h.1 (sym (same_value p (inr (of_unit x p b))) ∙ e))
  within_one (Less p q) h b =
      let o = both_only p q b in
      (words_there p, words_there q, subst (λ n. signed n <ℤ signed (value_of (numbers_of at_all) q)) (sym (same_value p o.0)) (subst (λ n. signed (value_of (numbers_of v) p) <ℤ signed n) (sym (same_value q o.1)) h.2))
  within_one (AtMost p q) h b =
      let o = both_only p q b in
      (words_there p, words_there q, subst (λ n. signed n ≤ℤ signed (value_of (numbers_of at_all) q)) (sym (same_value p o.0)) (subst (λ n. signed (value_of (numbers_of v) p) ≤ℤ signed n) (sym (same_value q o.1)) h.2))
  within_one (SamePlace a b) h k = absurd k
  within_one (OtherPlace a b) h k = absurd k
  within_one (Written y) h k = absurd k
  within_one (Unwritten y) h k = absurd k
  within_one (Quotient y p q) h k = absurd k

-- what holds of the variables of a conjunct that bounds x holds of x
one_of : (P : ℕ → Type 0) (x : ℕ) (xs : List ℕ) → xs ≡ x ∷ [] → All P xs → P x
one_of P x xs e h = All-head P x [] (subst (All P) e h)

bound_word : (v : Valuation) (x : ℕ) (c : Conj) → IsTrueUnder v c → BoundsVariable x c → IsWord (v x)
bound_word v x (Equal p) h b = one_of (λ y. IsWord (v y)) x (variables_of p) (of_unit x p b) h.0
bound_word v x (Unequal p) h b = one_of (λ y. IsWord (v y)) x (variables_of p) (of_unit x p b) h.0
bound_word v x (Less p q) h (inl (a, b)) = one_of (λ y. IsWord (v y)) x (variables_of p) (of_variable x p a) h.0
bound_word v x (Less p q) h (inr (a, b)) = one_of (λ y. IsWord (v y)) x (variables_of q) (of_variable x q b) h.1
bound_word v x (AtMost p q) h (inl (a, b)) = one_of (λ y. IsWord (v y)) x (variables_of p) (of_variable x p a) h.0
bound_word v x (AtMost p q) h (inr (a, b)) = one_of (λ y. IsWord (v y)) x (variables_of q) (of_variable x q b) h.1
bound_word v x (SamePlace a b) h k = absurd k
bound_word v x (OtherPlace a b) h k = absurd k
bound_word v x (Written y) h k = absurd k
bound_word v x (Unwritten y) h k = absurd k
bound_word v x (Quotient y p q) h k = absurd k

bound_int : (vars : List VarInfo) (x : ℕ) (c : Conj) → IsWellSorted vars c → BoundsVariable x c → IsIntVariable vars x
bound_int vars x (Equal p) h b = one_of (IsIntVariable vars) x (variables_of p) (of_unit x p b) h
bound_int vars x (Unequal p) h b = one_of (IsIntVariable vars) x (variables_of p) (of_unit x p b) h
bound_int vars x (Less p q) h (inl (a, b)) = one_of (IsIntVariable vars) x (variables_of p) (of_variable x p a) h.0
bound_int vars x (Less p q) h (inr (a, b)) = one_of (IsIntVariable vars) x (variables_of q) (of_variable x q b) h.1
bound_int vars x (AtMost p q) h (inl (a, b)) = one_of (IsIntVariable vars) x (variables_of p) (of_variable x p a) h.0
bound_int vars x (AtMost p q) h (inr (a, b)) = one_of (IsIntVariable vars) x (variables_of q) (of_variable x q b) h.1
bound_int vars x (SamePlace a b) h k = absurd k
bound_int vars x (OtherPlace a b) h k = absurd k
bound_int vars x (Written y) h k = absurd k
bound_int vars x (Unwritten y) h k = absurd k
bound_int vars x (Quotient y p q) h k = absurd k

word_fits : (s : Sort) (z : ℤ) → FitsSort s Int (value.Word z) → FitsSigned w32 z
word_fits Given z h = h
word_fits Cell z h = h
word_fits Input z h = h
word_fits Made z h = h.0

the_word : (a : Value) → IsWord a → (z : ℤ) × (a ≡ value.Word z)
the_word (value.Word z) h = (z, refl)
the_word value.Null h = absurd h
the_word (value.Block b) h = absurd h
the_word value.Unwritten h = absurd h

module _ (vars : List VarInfo) (cs : List Conj) (sorted : AreWellSorted vars cs) (v : Valuation) (f : Fits vars v) (t : All (IsTrueUnder v) cs) where
  -- x has a word, and a conjunct bounds it: the word is within the bounds
  bounded : (x : ℕ) → ((z : ℤ) → FitsSigned w32 z → ¬ IsWithinBounds cs x z) → IsIntVariable vars x → IsWord (v x) → ⊥
  bounded x none int w =
      let z = the_word (v x) w in
      let i = info_of (λ (i : VarInfo). i.value ≡ Int) (slice_get vars x) int in
      let fit = word_fits i.0.sort z.0 (subst (FitsSort i.0.sort Int) z.1 (subst (λ k. FitsSort i.0.sort k (v x)) i.2 (f.sorts x i.0 i.1))) in
      none z.0 fit (λ k d l b. within_one v x z.0 z.1 (get_or cs k d) (t k d l) b)

  interval : IntervalRulesOut cs → ⊥
  interval (x, none) = none (signed 0) (words_are_signed.signed_fits 0 (omega arith))
      (λ k d l b. absurd (bounded x none (bound_int vars x (get_or cs k d) (sorted.sorted k d l) b) (bound_word v x (get_or cs k d) (t k d l) b)))

  parity : ParityRulesOut cs → ⊥
  parity none = none (numbers_of v) (λ k d l. true_modulo_two v (get_or cs k d) (t k d l))

  order : OrderRulesOut cs → ⊥
  order none = none (int_at v) (λ k d l. order_one v (get_or cs k d) (t k d l))

  one_kind : (k : ℕ) → RulesOut k cs → ⊥
  unfolding RulesOut
  one_kind zero h = h
  one_kind (suc zero) h = interval h
  one_kind (suc (suc zero)) h = parity h
  one_kind (suc (suc (suc zero))) h = order h
  one_kind (suc (suc (suc (suc k)))) h = h

  some_kind : (ks : List ℕ) → SomeRulesOut ks cs → ⊥
  some_kind [] h = h
  some_kind (k ∷ ks) (inl h) = one_kind k h
  some_kind (k ∷ ks) (inr h) = some_kind ks h

pub refuted_have_no_model : RefutedHaveNoModel
refuted_have_no_model = record {
  none = λ vars cs kinds sorted r v f t. elim r [
    | inl plain ↦ plain v f (λ k d l p. t k d l)
    | inr out ↦ some_kind vars cs sorted v f t kinds out
  ];
}
