-- What is selected is among the list, and valuations as words.
use Rattle.std.proofs.Common.{◌≡◌, inl, inr, ℕ, ◌%◌, ◌^◌, List, [], ◌∷◌, get_or, refl, sym, ap₂, subst, ◌∙◌, arith}
use Rattle.std.specs.Prelude.{All, Contains, ◌<ℤ◌, ◌≤ℤ◌}
use Rattle.std.proofs.Math.Nat.{mod-mod}
use Rattle.std.proofs.lemmas.List.Elements.{All-nil, All-cons, All-weaker, All-contains, Contains-append_right}
use Rattle.px_terms.specs.Words.{signed, word_quotient}
use Rattle.px_terms.specs.Polynomials.{Polynomial, value_of}
use Rattle.px_terms.specs.Valuations.{Valuation, numbers_of, number_of}
use Rattle.px_terms.specs.Conjuncts.{IsTrueUnder}
use Rattle.px_terms.specs.declared.conjuncts.Conj.{Conj}
use Rattle.px_terms.specs.declared.conjuncts.Conj.TheVariants.{Equal, Unequal, Less, AtMost, SamePlace, OtherPlace, Written, Unwritten, Quotient}
use Rattle.px_plain.specs.Ties.{IsOnWords, IsTrueOf}
use Rattle.px_solver.specs.Components.{Selects}
use Rattle.px_cnf.specs.Standing.{IsComparison}
use Rattle.px_cnf.specs.Words.{AreWords}
use Rattle.px_solver.proofs.Values.{value_alike}
use Rattle.px_bits.specs.Laws.{UndecidedAreAmong, NoWordsNoModel, RefutedLooks}

selected_among : (P : Conj → Type 0) (cs us : List Conj) → Selects P cs us → All (Contains cs) us
selected_among P [] us s = subst (All (Contains [])) (sym s) (All-nil (Contains []))
selected_among P (c ∷ cs) us (inl (p, (vs, e, r))) =
    subst (All (Contains (c ∷ cs))) (sym e)
    (All-cons (Contains (c ∷ cs)) c vs (0, omega arith, refl) (All-weaker (Contains cs) (Contains (c ∷ cs)) (λ d h. Contains-append_right (c ∷ []) cs d h) vs (selected_among P cs vs r)))
selected_among P (c ∷ cs) us (inr (n, r)) = All-weaker (Contains cs) (Contains (c ∷ cs)) (λ d h. Contains-append_right (c ∷ []) cs d h) us (selected_among P cs us r)

pub undecided_are_among : UndecidedAreAmong
undecided_are_among = record {
  among = λ vars conjuncts kinds hard d. elim d.cause [
    | inl f ↦ selected_among _ conjuncts hard f.selects
    | inr f ↦ selected_among _ conjuncts hard f.selects
  ];
}

-- ---- valuations as words

-- the words of a valuation
word_in : Valuation → ℕ → ℕ
word_in v x = number_of (v x) % 2 ^ 32

same_value : (v : Valuation) (p : Polynomial) → value_of (numbers_of v) p ≡ value_of (word_in v) p
unfolding word_in
same_value v p = value_alike (numbers_of v) (word_in v) p (λ k d l. omega arith)

true_of : (v : Valuation) (c : Conj) → IsOnWords c → IsTrueUnder v c → IsTrueOf (word_in v) c
unfolding word_in
true_of v (Equal p) w h = sym (same_value v p) ∙ h.1
true_of v (Unequal p) w h = λ e. h.1 (same_value v p ∙ e)
true_of v (Less p q) w h = subst (λ (m : ℕ). signed m <ℤ signed (value_of (word_in v) q)) (same_value v p) (subst (λ (m : ℕ). signed (value_of (numbers_of v) p) <ℤ signed m) (same_value v q) h.2)
true_of v (AtMost p q) w h = subst (λ (m : ℕ). signed m ≤ℤ signed (value_of (word_in v) q)) (same_value v p) (subst (λ (m : ℕ). signed (value_of (numbers_of v) p) ≤ℤ signed m) (same_value v q) h.2)
true_of v (SamePlace a b) w h = absurd w
true_of v (OtherPlace a b) w h = absurd w
true_of v (Written x) w h = absurd w
true_of v (Unwritten x) w h = absurd w
true_of v (Quotient x p q) w h = (λ e. h.3.0 (same_value v q ∙ e), mod-mod (number_of (v x.0)) (2 ^ 32) ∙ h.3.1 ∙ ap₂ word_quotient (same_value v p) (same_value v q))

on_words : (c : Conj) → IsComparison c → IsOnWords c
on_words (Equal p) h = tt
on_words (Unequal p) h = tt
on_words (Less p q) h = tt
on_words (AtMost p q) h = tt
on_words (SamePlace a b) h = absurd h
on_words (OtherPlace a b) h = absurd h
on_words (Written x) h = absurd h
on_words (Unwritten x) h = absurd h
on_words (Quotient x p q) h = absurd h

are_words : (v : Valuation) → AreWords (word_in v)
unfolding word_in
are_words v x = omega arith

pub no_words_no_model : NoWordsNoModel
no_words_no_model = record {
  none = λ vars conjuncts kinds hard d on none v h.
      none (word_in v) (are_words v)
      (λ k c l. true_of v (get_or hard k c) (on k c l) (All-contains (IsTrueUnder v) conjuncts (get_or hard k c) h (undecided_are_among.among vars conjuncts kinds hard d k c l)));
}

pub refuted_looks : RefutedLooks
refuted_looks = record { none = λ vars conjuncts kinds hard conflicts d look v h. no_words_no_model.none vars conjuncts kinds hard d (All-weaker IsComparison IsOnWords on_words hard look.0.0) look.1 v h }
