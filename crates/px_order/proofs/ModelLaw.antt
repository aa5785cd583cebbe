-- A list that the rule rules out is true under no valuation.
use Rattle.std.proofs.Common.{◌≡◌, inl, inr, ℕ, ◌+◌, ◌-◌, ◌*◌, ◌%◌, ◌^◌, get_or, sym, ap, subst, ◌∙◌, arith}
use Rattle.std.specs.Prelude.{ℤ, ◌<ℤ◌, ◌≤ℤ◌}
use Rattle.px_terms.specs.Words.{signed}
use Rattle.px_terms.specs.Terms.{value_at}
use Rattle.px_terms.specs.Polynomials.{Polynomial, value_of}
use Rattle.px_terms.specs.Valuations.{Valuation, numbers_of, number_of}
use Rattle.px_terms.specs.Conjuncts.{IsTrueUnder}
use Rattle.px_terms.specs.Rules.{IsVariable, IsDifference, HoldsInIntegers}
use Rattle.px_terms.specs.declared.conjuncts.Conj.{Conj}
use Rattle.px_terms.specs.declared.conjuncts.Conj.TheVariants.{Equal, Unequal, Less, AtMost, SamePlace, OtherPlace, Written, Unwritten, Quotient}
use Rattle.px_order.specs.Laws.{RuledOutHaveNoModel}
use Rattle.px_terms.proofs.DomainLemmas.{equal_words, equal_turned}

-- a word as a signed number
abbrev integer : Valuation → ℕ → ℤ
integer v x = signed (number_of (v x) % 2 ^ 32)

module _ (v : Valuation) where
  variable_value : (p : Polynomial) (x : ℕ) → IsVariable x p → value_of (numbers_of v) p ≡ number_of (v x) % 2 ^ 32
  variable_value p x (c, e) =
      ap (λ k. (k + value_at (numbers_of v) p.monomials) % 2 ^ 32) c ∙ ap (λ ts. (0 + value_at (numbers_of v) ts) % 2 ^ 32) e ∙ plain (number_of (v x))
    where
      plain : (n : ℕ) → (0 + (1 * (n * 1) + 0)) % 2 ^ 32 ≡ n % 2 ^ 32
      plain n = omega arith

  relates : (R : ℤ → ℤ → Type 0) (p q : Polynomial) → R (signed (value_of (numbers_of v) p)) (signed (value_of (numbers_of v) q))
      → (x y : ℕ) → IsVariable x p → IsVariable y q → R (integer v x) (integer v y)
  relates R p q h x y a b =
      subst (λ n. R (signed n) (integer v y)) (variable_value p x a) (subst (λ n. R (signed (value_of (numbers_of v) p)) (signed n)) (variable_value q y b) h)

  same_word : (p : Polynomial) (x y : ℕ) → value_of (numbers_of v) p ≡ 0 → IsDifference x y p → number_of (v x) % 2 ^ 32 ≡ number_of (v y) % 2 ^ 32
  same_word p x y h (c, inl e) = equal_words (number_of (v x)) (number_of (v y))
      (sym (ap (λ k. (k + value_at (numbers_of v) p.monomials) % 2 ^ 32) c ∙ ap (λ ts. (0 + value_at (numbers_of v) ts) % 2 ^ 32) e) ∙ h)
  same_word p x y h (c, inr e) = equal_turned (number_of (v x)) (number_of (v y))
      (sym (ap (λ k. (k + value_at (numbers_of v) p.monomials) % 2 ^ 32) c ∙ ap (λ ts. (0 + value_at (numbers_of v) ts) % 2 ^ 32) e) ∙ h)

  true_holds : (c : Conj) → IsTrueUnder v c → HoldsInIntegers (integer v) c
  true_holds (Equal p) h = λ x y d. ap signed (same_word p x y h.1 d)
  true_holds (Unequal p) h = tt
  true_holds (Less p q) h = relates (λ a b. a <ℤ b) p q h.2
  true_holds (AtMost p q) h = relates (λ a b. a ≤ℤ b) p q h.2
  true_holds (SamePlace a b) h = tt
  true_holds (OtherPlace a b) h = tt
  true_holds (Written x) h = tt
  true_holds (Unwritten x) h = tt
  true_holds (Quotient x p q) h = tt

pub ruled_out : RuledOutHaveNoModel
ruled_out = record { none = λ cs r v t. r (integer v) (λ k d l. true_holds v (get_or cs k d) (t k d l)) }
