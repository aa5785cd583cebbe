-- Words that are the same modulo 2^32 make the same conjuncts true.
use Rattle.std.proofs.Common.{◌≡◌, ℕ, ◌%◌, ◌^◌, ◌++◌, sym, ap₂, subst, ◌∙◌}
use Rattle.std.specs.Prelude.{All, ◌<ℤ◌, ◌≤ℤ◌}
use Rattle.std.proofs.lemmas.List.Elements.{All-head, All-tail}
use Rattle.px_terms.specs.Words.{signed, word_quotient}
use Rattle.px_terms.specs.Polynomials.{Polynomial, value_of}
use Rattle.px_terms.specs.Variables.{variables_of, mentioned}
use Rattle.px_terms.specs.declared.conjuncts.Conj.{Conj}
use Rattle.px_terms.specs.declared.conjuncts.Conj.TheVariants.{Equal, Unequal, Less, AtMost, SamePlace, OtherPlace, Written, Unwritten, Quotient}
use Rattle.px_terms.proofs.Evaluation.{All-left, All-right}
use Rattle.px_plain.specs.Ties.{IsTrueOf}
use Rattle.px_solver.proofs.Values.{Alike, value_alike}

module _ (v w : ℕ → ℕ) where
  left_alike : (p q : Polynomial) → All (Alike v w) (mentioned (Less p q)) → value_of v p ≡ value_of w p
  left_alike p q h = value_alike v w p (All-left (Alike v w) (variables_of p) (variables_of q) h)

  right_alike : (p q : Polynomial) → All (Alike v w) (mentioned (Less p q)) → value_of v q ≡ value_of w q
  right_alike p q h = value_alike v w q (All-right (Alike v w) (variables_of p) (variables_of q) h)

  pub true_alike : (c : Conj) → All (Alike v w) (mentioned c) → IsTrueOf v c → IsTrueOf w c
  true_alike (Equal p) h t = sym (value_alike v w p h) ∙ t
  true_alike (Unequal p) h t = λ e. t (value_alike v w p h ∙ e)
  true_alike (Less p q) h t = subst (λ z. signed z <ℤ signed (value_of w q)) (left_alike p q h) (subst (λ z. signed (value_of v p) <ℤ signed z) (right_alike p q h) t)
  true_alike (AtMost p q) h t = subst (λ z. signed z ≤ℤ signed (value_of w q)) (left_alike p q h) (subst (λ z. signed (value_of v p) ≤ℤ signed z) (right_alike p q h) t)
  true_alike (SamePlace a b) h t = tt
  true_alike (OtherPlace a b) h t = tt
  true_alike (Written x) h t = tt
  true_alike (Unwritten x) h t = tt
  true_alike (Quotient x p q) h t =
      let all = variables_of p ++ variables_of q in
      let e : v x.0 % 2 ^ 32 ≡ w x.0 % 2 ^ 32 = All-head (Alike v w) x.0 all h in
      let rest = All-tail (Alike v w) x.0 all h in
      let a = value_alike v w p (All-left (Alike v w) (variables_of p) (variables_of q) rest) in
      let b = value_alike v w q (All-right (Alike v w) (variables_of p) (variables_of q) rest) in
      (λ z. t.0 (b ∙ z), sym e ∙ t.1 ∙ ap₂ word_quotient a b)
