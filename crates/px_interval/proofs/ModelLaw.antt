-- A list that the rule rules out is true under no valuation.
use Rattle.std.proofs.Common.{◌≡◌, ◌⊎◌, inl, inr, ℕ, ◌+◌, ◌-◌, ◌*◌, ◌%◌, ◌^◌, ◌<◌, [], ◌∷◌, get_or, refl, sym, ap, subst, ◌∙◌, arith}
use Rattle.std.specs.Prelude.{ℤ, ◌<ℤ◌, ◌≤ℤ◌}
use Rattle.px_terms.specs.Words.{word, signed}
use Rattle.px_terms.specs.Terms.{value_at}
use Rattle.px_terms.specs.Polynomials.{Polynomial, value_of}
use Rattle.px_terms.specs.Valuations.{Valuation, numbers_of, number_of}
use Rattle.px_terms.specs.Conjuncts.{IsTrueUnder, HasWords}
use Rattle.px_terms.specs.Rules.{IsConstant, IsVariable, BoundsVariable}
use Rattle.px_terms.specs.declared.conjuncts.Conj.{Conj}
use Rattle.px_terms.specs.declared.conjuncts.Conj.TheVariants.{Equal, Unequal, Less, AtMost, SamePlace, OtherPlace, Written, Unwritten, Quotient}
use Rattle.px_terms.proofs.WordLaws.{words_are_signed}
use Rattle.px_interval.specs.Laws.{RuledOutHaveNoModel}
use Rattle.px_interval.proofs.Forms.{unit}
use Rattle.px_interval.proofs.Meanings.{at}

-- beside a constant, the polynomial is at most one term, with the variable x
abbrev IsOver : ℕ → Polynomial → Type 0
IsOver x p = (p.monomials ≡ []) ⊎ ((a : ℕ) × ((a ≡ 1) ⊎ (a ≡ 2 ^ 32 - 1)) × (p.monomials ≡ unit a x ∷ []))

module _ (v : Valuation) (x : ℕ) (z : ℤ) (same : word z ≡ number_of (v x) % 2 ^ 32) where
  plus_same : (c m n : ℕ) → m ≡ n % 2 ^ 32 → (c + (1 * (m * 1) + 0)) % 2 ^ 32 ≡ (c + (1 * (n * 1) + 0)) % 2 ^ 32
  plus_same c m n e = omega arith

  minus_same : (c m n : ℕ) → m ≡ n % 2 ^ 32 → (c + ((2 ^ 32 - 1) * (m * 1) + 0)) % 2 ^ 32 ≡ (c + ((2 ^ 32 - 1) * (n * 1) + 0)) % 2 ^ 32
  minus_same c m n e = omega arith

  unit_same : (a c : ℕ) → (a ≡ 1) ⊎ (a ≡ 2 ^ 32 - 1) → (c + (a * (word z * 1) + 0)) % 2 ^ 32 ≡ (c + (a * (number_of (v x) * 1) + 0)) % 2 ^ 32
  unit_same a c (inl e) = subst (λ k. (c + (k * (word z * 1) + 0)) % 2 ^ 32 ≡ (c + (k * (number_of (v x) * 1) + 0)) % 2 ^ 32) (sym e) (plus_same c (word z) (number_of (v x)) same)
  unit_same a c (inr e) = subst (λ k. (c + (k * (word z * 1) + 0)) % 2 ^ 32 ≡ (c + (k * (number_of (v x) * 1) + 0)) % 2 ^ 32) (sym e) (minus_same c (word z) (number_of (v x)) same)

  over_same : (p : Polynomial) → IsOver x p → value_of (numbers_of v) p ≡ value_of (numbers_of (at z)) p
  over_same p (inl e) = ap (λ ts. (p.constant + value_at (numbers_of v) ts) % 2 ^ 32) e ∙ sym (ap (λ ts. (p.constant + value_at (numbers_of (at z)) ts) % 2 ^ 32) e)
  over_same p (inr (a, u, e)) = ap (λ ts. (p.constant + value_at (numbers_of v) ts) % 2 ^ 32) e ∙ sym (unit_same a p.constant u) ∙ sym (ap (λ ts. (p.constant + value_at (numbers_of (at z)) ts) % 2 ^ 32) e)

  over_variable : (p : Polynomial) → IsVariable x p → IsOver x p
  over_variable p (c, e) = inr (1, inl refl, e)

  all_words : (p : Polynomial) → HasWords (at z) p
  all_words p k d l = tt

  pairs_over : (p q : Polynomial) → ((IsVariable x p × IsConstant q) ⊎ (IsConstant p × IsVariable x q)) → IsOver x p × IsOver x q
  pairs_over p q (inl (a, b)) = (over_variable p a, inl b)
  pairs_over p q (inr (a, b)) = (inl a, over_variable q b)

  abbrev Relates : (ℤ → ℤ → Type 0) → Valuation → Polynomial → Polynomial → Type 0
  Relates R w p q = R (signed (value_of (numbers_of w) p)) (signed (value_of (numbers_of w) q))

  related : (R : ℤ → ℤ → Type 0) (p q : Polynomial) → IsOver x p × IsOver x q → Relates R v p q → Relates R (at z) p q
  related R p q (a, b) h = subst (λ n. R (signed (value_of (numbers_of (at z)) p)) (signed n)) (over_same q b) (subst (λ n. R (signed n) (signed (value_of (numbers_of v) q))) (over_same p a) h)

  pub within : (c : Conj) → IsTrueUnder v c → BoundsVariable x c → IsTrueUnder (at z) c
  within (Equal p) h b = (all_words p, sym (over_same p (inr b)) ∙ h.1)
  within (Unequal p) h b = (all_words p, λ e. h.1 (over_same p (inr b) ∙ e))
  within (Less p q) h b = (all_words p, all_words q, related (λ i j. i <ℤ j) p q (pairs_over p q b) h.2)
  within (AtMost p q) h b = (all_words p, all_words q, related (λ i j. i ≤ℤ j) p q (pairs_over p q b) h.2)
  within (SamePlace a b) h k = absurd k
  within (OtherPlace a b) h k = absurd k
  within (Written y) h k = absurd k
  within (Unwritten y) h k = absurd k
  within (Quotient y p q) h k = absurd k

pub ruled_out : RuledOutHaveNoModel
ruled_out = record {
  none = λ cs r v t.
      let n = number_of (v r.0) % 2 ^ 32 in
      let few : n < 2 ^ 32 = omega arith in
      r.1 (signed n) (words_are_signed.signed_fits n few) (λ k d l b. within v r.0 (signed n) (words_are_signed.word_signed n few) (get_or cs k d) (t k d l) b);
}
