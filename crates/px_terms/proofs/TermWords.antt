-- Words of terms: sums, differences and products under a valuation, as signed numbers, and when a
-- conjunct is true, by the comparison of its words or places.
use Rattle.std.proofs.Common.{◌≡◌, ◌≢◌, ◌↔◌, ◌⊎◌, inl, inr, ℕ, zero, suc, ◌^◌, ◌<◌, ◌≤◌, ◌++◌, List, [], ◌∷◌, map, min, max, fold, sym, ap, ap₂, subst, ◌∙◌, arith}
use Rattle.std.specs.Prelude.{All, ℤ, ◌+ℤ◌, ◌-ℤ◌, ◌*ℤ◌, neg_ℤ, ◌<ℤ◌, ◌≤ℤ◌, FitsSigned}
use Rattle.std.specs.Int.{w32, int_wrap}
use Rattle.std.proofs.lemmas.List.Elements.{All-nil, All-cons, All-head, All-tail, All-append}
use Rattle.px_terms.specs.Words.{word, signed, word_sum, word_difference, word_product, word_negated}
use Rattle.px_terms.specs.Terms.{Term, put_among, ordered}
use Rattle.px_terms.specs.Polynomials.{Polynomial, terms_of, with_variables, normal_form, negated, term_product, pairs, IsPolynomial, sum_of, difference_of, product_of}
use Rattle.px_terms.specs.Variables.{variables_of}
use Rattle.px_terms.specs.Valuations.{Valuation, numbers_of, IsWord}
use Rattle.px_terms.specs.Conjuncts.{HasWords, word_of, place_of, ArePlaces, IsTrueUnder}
use Rattle.px_terms.specs.declared.conjuncts.Place.{Place}
use Rattle.px_terms.specs.declared.conjuncts.Conj.TheVariants.{Equal, Unequal, Less, AtMost, SamePlace, OtherPlace}
use Rattle.px_terms.proofs.WordLaws.{words_are_signed}
use Rattle.px_terms.proofs.NormalForm.{AllHave, gathered_have, have_append}
use Rattle.px_terms.proofs.Evaluation.{each_from_flat, flat_from_each}
use Rattle.px_terms.proofs.Sums.{sum_value, difference_value}
use Rattle.px_terms.proofs.PolyProducts.{product_value}

-- ---- the variables of a normal form are among those of the terms

at_most_or : (y x : ℕ) → (y ≤ x) ⊎ (x ≤ y)
at_most_or zero x = inl (omega arith)
at_most_or (suc y) zero = inr (omega arith)
at_most_or (suc y) (suc x) = next (at_most_or y x)
  where
    next : (y ≤ x) ⊎ (x ≤ y) → (suc y ≤ suc x) ⊎ (suc x ≤ suc y)
    next (inl l) = inl (omega arith)
    next (inr l) = inr (omega arith)

module _ (P : ℕ → Type 0) where
  has_min : (y x : ℕ) → P y → P x → P (min y x)
  has_min y x p q = by (at_most_or y x)
    where
      by : (y ≤ x) ⊎ (x ≤ y) → P (min y x)
      by (inl l) = let e : y ≡ min y x = omega arith in subst P e p
      by (inr l) = let e : x ≡ min y x = omega arith in subst P e q

  has_max : (y x : ℕ) → P y → P x → P (max y x)
  has_max y x p q = by (at_most_or y x)
    where
      by : (y ≤ x) ⊎ (x ≤ y) → P (max y x)
      by (inl l) = let e : x ≡ max y x = omega arith in subst P e q
      by (inr l) = let e : y ≡ max y x = omega arith in subst P e p

  all_put : (ys : List ℕ) (x : ℕ) → All P ys → P x → All P (put_among ys x)
  all_put [] x h p = All-cons P x [] p (All-nil P)
  all_put (y ∷ ys) x h p =
      let q = All-head P y ys h in
      All-cons P (min y x) (put_among ys (max y x)) (has_min y x q p) (all_put ys (max y x) (All-tail P y ys h) (has_max y x q p))

  all_folded : (xs ys : List ℕ) → All P xs → All P ys → All P (fold put_among ys xs)
  all_folded [] ys h g = g
  all_folded (x ∷ xs) ys h g = all_folded xs (put_among ys x) (All-tail P x xs h) (all_put ys x g (All-head P x xs h))

  have_ordered : (ts : List Term) → AllHave (All P) ts → AllHave (All P) (map ordered ts)
  have_ordered [] h = tt
  have_ordered (t ∷ ts) h = (all_folded t.vars [] h.0 (All-nil P), have_ordered ts h.1)

  have_kept : (ts : List Term) → AllHave (All P) ts → AllHave (All P) (with_variables ts)
  have_kept [] h = tt
  have_kept (t ∷ ts) h = one t.coefficient t.vars (have_kept ts h.1) h.0
    where
      one : (c : ℕ) (k : List ℕ) → AllHave (All P) (with_variables ts) → All P k → AllHave (All P) (with_variables (record { coefficient = c; vars = k } ∷ ts))
      one c [] rest p = rest
      one c (x ∷ k) rest p = (p, rest)

  pub have_normal : (ts : List Term) → AllHave (All P) ts → All P (variables_of (normal_form ts))
  have_normal ts h = flat_from_each P (normal_form ts).monomials (gathered_have (All P) (with_variables (map ordered ts)) (have_kept (map ordered ts) (have_ordered ts h)))

  pub have_terms : (p : Polynomial) → All P (variables_of p) → AllHave (All P) (terms_of p)
  have_terms p h = (All-nil P, each_from_flat P p.monomials h)

  have_negated : (ts : List Term) → AllHave (All P) ts → AllHave (All P) (map negated ts)
  have_negated [] h = tt
  have_negated (t ∷ ts) h = (h.0, have_negated ts h.1)

  pub have_row : (s : Term) (ts : List Term) → All P s.vars → AllHave (All P) ts → AllHave (All P) (map (term_product s) ts)
  have_row s [] p h = tt
  have_row s (t ∷ ts) p h = (All-append P t.vars s.vars h.0 p, have_row s ts p h.1)

  pub have_pairs : (ss ts : List Term) → AllHave (All P) ss → AllHave (All P) ts → AllHave (All P) (pairs ss ts)
  have_pairs [] ts g h = tt
  have_pairs (s ∷ ss) ts g h = have_append (All P) (map (term_product s) ts) (pairs ss ts) (have_row s ts g.0 h) (have_pairs ss ts g.1 h)

-- ---- sums, differences and products

module _ (v : Valuation) where
  abbrev W : ℕ → Type 0
  W x = IsWord (v x)

  pub sum_words : (p q : Polynomial) → HasWords v p → HasWords v q → HasWords v (sum_of p q)
  sum_words p q h k = have_normal W (terms_of p ++ terms_of q) (have_append (All W) (terms_of p) (terms_of q) (have_terms W p h) (have_terms W q k))

  pub difference_words : (p q : Polynomial) → HasWords v p → HasWords v q → HasWords v (difference_of p q)
  difference_words p q h k =
      have_normal W (terms_of p ++ map negated (terms_of q)) (have_append (All W) (terms_of p) (map negated (terms_of q)) (have_terms W p h) (have_negated W (terms_of q) (have_terms W q k)))

  pub product_words : (p q : Polynomial) → HasWords v p → HasWords v q → HasWords v (product_of p q)
  product_words p q h k = have_normal W (pairs (terms_of p) (terms_of q)) (have_pairs W (terms_of p) (terms_of q) (have_terms W p h) (have_terms W q k))

  pub below : (p : Polynomial) → word_of v p < 2 ^ 32
  below p = omega arith

  -- the signed word of a polynomial
  abbrev pub signed_of : Polynomial → ℤ
  signed_of p = signed (word_of v p)

  pub signed_fits : (p : Polynomial) → FitsSigned w32 (signed_of p)
  signed_fits p = words_are_signed.signed_fits (word_of v p) (below p)

  pub word_back : (p : Polynomial) → word (signed_of p) ≡ word_of v p
  word_back p = words_are_signed.word_signed (word_of v p) (below p)

  pub sum_signed : (p q : Polynomial) → signed_of (sum_of p q) ≡ int_wrap w32 (signed_of p +ℤ signed_of q)
  sum_signed p q =
      ap signed (sum_value p q (numbers_of v) ∙ sym (ap₂ word_sum (word_back p) (word_back q)))
      ∙ words_are_signed.sum (signed_of p) (signed_of q) (signed_fits p) (signed_fits q)

  pub difference_signed : (p q : Polynomial) → IsPolynomial q → signed_of (difference_of p q) ≡ int_wrap w32 (signed_of p -ℤ signed_of q)
  difference_signed p q form =
      ap signed (difference_value p q form (numbers_of v) ∙ sym (ap₂ word_difference (word_back p) (word_back q)))
      ∙ words_are_signed.difference (signed_of p) (signed_of q) (signed_fits p) (signed_fits q)

  pub product_signed : (p q : Polynomial) → signed_of (product_of p q) ≡ int_wrap w32 (signed_of p *ℤ signed_of q)
  product_signed p q =
      ap signed (product_value p q (numbers_of v) ∙ sym (ap₂ word_product (word_back p) (word_back q)))
      ∙ words_are_signed.product (signed_of p) (signed_of q) (signed_fits p) (signed_fits q)

  -- the difference of 0 and a polynomial
  pub negation_signed : (p : Polynomial) → IsPolynomial p → signed_of (difference_of (record { constant = 0; monomials = [] }) p) ≡ int_wrap w32 (neg_ℤ (signed_of p))
  negation_signed p form =
      ap signed (difference_value (record { constant = 0; monomials = [] }) p form (numbers_of v) ∙ from_zero (word_of v p) ∙ sym (ap word_negated (word_back p)))
      ∙ words_are_signed.negated (signed_of p) (signed_fits p)
    where
      from_zero : (b : ℕ) → word_difference 0 b ≡ word_negated b
      from_zero b = omega arith

  -- ---- conjuncts

  same_signed : (p q : Polynomial) → signed_of p ≡ signed_of q → word_of v p ≡ word_of v q
  same_signed p q e = sym (word_back p) ∙ ap word e ∙ word_back q

  none_between : (a b : ℕ) → a < 2 ^ 32 → b < 2 ^ 32 → word_difference a b ≡ 0 → a ≡ b
  none_between a b l m e = omega arith

  no_difference : (a : ℕ) → a < 2 ^ 32 → word_difference a a ≡ 0
  no_difference a l = omega arith

  pub zero_difference : (p q : Polynomial) → IsPolynomial q → word_of v (difference_of p q) ≡ 0 ↔ signed_of p ≡ signed_of q
  zero_difference p q form = (
    λ e. ap signed (none_between (word_of v p) (word_of v q) (below p) (below q) (sym (difference_value p q form (numbers_of v)) ∙ e)),
    λ e. difference_value p q form (numbers_of v) ∙ ap (λ a. word_difference a (word_of v q)) (same_signed p q e) ∙ no_difference (word_of v q) (below q),
  )

  module _ (p q : Polynomial) (form : IsPolynomial q) (h : HasWords v p) (k : HasWords v q) where
    pub equal_is : IsTrueUnder v (Equal (difference_of p q)) ↔ signed_of p ≡ signed_of q
    equal_is = let z = zero_difference p q form in (λ t. z.0 t.1, λ e. (difference_words p q h k, z.1 e))

    pub unequal_is : IsTrueUnder v (Unequal (difference_of p q)) ↔ signed_of p ≢ signed_of q
    unequal_is = let z = zero_difference p q form in (λ t e. t.1 (z.1 e), λ n. (difference_words p q h k, λ e. n (z.0 e)))

    pub less_is : IsTrueUnder v (Less p q) ↔ signed_of p <ℤ signed_of q
    less_is = (λ t. t.2, λ l. (h, k, l))

    pub at_most_is : IsTrueUnder v (AtMost p q) ↔ signed_of p ≤ℤ signed_of q
    at_most_is = (λ t. t.2, λ l. (h, k, l))

  module _ (a b : Place) (h : ArePlaces v a b) where
    pub same_place_is : IsTrueUnder v (SamePlace a b) ↔ place_of v a ≡ place_of v b
    same_place_is = (λ t. t.1, λ e. (h, e))

    pub other_place_is : IsTrueUnder v (OtherPlace a b) ↔ place_of v a ≢ place_of v b
    other_place_is = (λ t. t.1, λ n. (h, n))
