-- Words, places and truth depend on the mentioned variables alone, and stay where variables are added.
use Rattle.std.proofs.Common.{◌≡◌, ℕ, zero, suc, ◌+◌, ◌*◌, ◌%◌, ◌^◌, ◌++◌, List, [], ◌∷◌, refl, sym, ap, ap₂, subst, ◌∙◌}
use Rattle.std.specs.Prelude.{All, Some, slice_get, ◌<ℤ◌, ◌≤ℤ◌}
use Rattle.std.proofs.lemmas.List.Elements.{All-head, All-tail, All-weaker}
use Rattle.px_terms.specs.Terms.{Term, product_at, value_at}
use Rattle.px_terms.specs.Polynomials.{Polynomial, value_of}
use Rattle.px_terms.specs.Variables.{variables_of, place_variables, mentioned}
use Rattle.px_terms.specs.Valuations.{Valuation, number_of, numbers_of, IsWord, IsPlace, IsUnwritten, Fits}
use Rattle.px_terms.specs.Conjuncts.{HasWords, word_of, place_of, IsTrueUnder}
use Rattle.px_terms.specs.declared.variables.VarInfo.{VarInfo}
use Rattle.px_terms.specs.declared.conjuncts.Place.{Place}
use Rattle.px_terms.specs.declared.conjuncts.Place.TheVariants as place
use Rattle.px_terms.specs.declared.conjuncts.Conj.{Conj}
use Rattle.px_terms.specs.declared.conjuncts.Conj.TheVariants.{Equal, Unequal, Less, AtMost, SamePlace, OtherPlace, Written, Unwritten, Quotient}
use Rattle.px_terms.specs.Words.{signed, word_quotient}
use Rattle.px_terms.proofs.NormalForm.{AllHave}
use Rattle.px_terms.proofs.Evaluation.{All-left, All-right, each_from_flat}

-- ---- numbers

module _ (v u : ℕ → ℕ) where
  product_agrees : (k : List ℕ) → All (λ x. v x ≡ u x) k → product_at v k ≡ product_at u k
  product_agrees [] h = refl
  product_agrees (x ∷ k) h = ap₂ ◌*◌ (All-head (λ x. v x ≡ u x) x k h) (product_agrees k (All-tail (λ x. v x ≡ u x) x k h))

  values_agree : (ts : List Term) → AllHave (All (λ x. v x ≡ u x)) ts → value_at v ts ≡ value_at u ts
  values_agree [] h = refl
  values_agree (t ∷ ts) h = ap₂ ◌+◌ (ap (λ z. t.coefficient * z) (product_agrees t.vars h.0)) (values_agree ts h.1)

  pub value_agrees : (p : Polynomial) → All (λ x. v x ≡ u x) (variables_of p) → value_of v p ≡ value_of u p
  value_agrees p h = ap (λ z. (p.constant + z) % 2 ^ 32) (values_agree p.monomials (each_from_flat (λ x. v x ≡ u x) p.monomials h))

-- ---- values

module _ (v u : Valuation) where
  abbrev Agree : List ℕ → Type 0
  Agree xs = All (λ x. v x ≡ u x) xs

  pub word_agrees : (p : Polynomial) → Agree (variables_of p) → word_of v p ≡ word_of u p
  word_agrees p h = value_agrees (numbers_of v) (numbers_of u) p (All-weaker (λ x. v x ≡ u x) (λ x. numbers_of v x ≡ numbers_of u x) (λ x e. ap number_of e) (variables_of p) h)

  pub words_agree : (p : Polynomial) → Agree (variables_of p) → HasWords v p → HasWords u p
  words_agree p h w k d l = subst IsWord (h k d l) (w k d l)

  pub place_agrees : (a : Place) → Agree (place_variables a) → place_of v a ≡ place_of u a
  place_agrees place.Null h = refl
  place_agrees (place.Var x) h = All-head (λ x. v x ≡ u x) x.0 [] h

  places_agree : (a b : Place) → Agree (place_variables a ++ place_variables b) → (place_of v a ≡ place_of u a) × (place_of v b ≡ place_of u b)
  places_agree a b h =
      (place_agrees a (All-left (λ x. v x ≡ u x) (place_variables a) (place_variables b) h), place_agrees b (All-right (λ x. v x ≡ u x) (place_variables a) (place_variables b) h))

  -- what is true under one valuation is true under another that agrees on the mentioned variables
  pub truth_agrees : (c : Conj) → Agree (mentioned c) → IsTrueUnder v c → IsTrueUnder u c
  truth_agrees (Equal p) h t = (words_agree p h t.0, sym (word_agrees p h) ∙ t.1)
  truth_agrees (Unequal p) h t = (words_agree p h t.0, λ e. t.1 (word_agrees p h ∙ e))
  truth_agrees (Less p q) h t =
      let a = All-left (λ x. v x ≡ u x) (variables_of p) (variables_of q) h in
      let b = All-right (λ x. v x ≡ u x) (variables_of p) (variables_of q) h in
      let first = subst (λ z. signed z <ℤ signed (word_of v q)) (word_agrees p a) t.2 in
      (words_agree p a t.0, words_agree q b t.1, subst (λ z. signed (word_of u p) <ℤ signed z) (word_agrees q b) first)
  truth_agrees (AtMost p q) h t =
      let a = All-left (λ x. v x ≡ u x) (variables_of p) (variables_of q) h in
      let b = All-right (λ x. v x ≡ u x) (variables_of p) (variables_of q) h in
      let first = subst (λ z. signed z ≤ℤ signed (word_of v q)) (word_agrees p a) t.2 in
      (words_agree p a t.0, words_agree q b t.1, subst (λ z. signed (word_of u p) ≤ℤ signed z) (word_agrees q b) first)
  truth_agrees (SamePlace a b) h t =
      let (e, f) = places_agree a b h in
      ((subst IsPlace e t.0.0, subst IsPlace f t.0.1), sym e ∙ t.1 ∙ f)
  truth_agrees (OtherPlace a b) h t =
      let (e, f) = places_agree a b h in
      ((subst IsPlace e t.0.0, subst IsPlace f t.0.1), λ g. t.1 (e ∙ g ∙ sym f))
  truth_agrees (Written x) h t = λ z. t (subst IsUnwritten (sym (All-head (λ x. v x ≡ u x) x.0 [] h)) z)
  truth_agrees (Unwritten x) h t = subst IsUnwritten (All-head (λ x. v x ≡ u x) x.0 [] h) t
  truth_agrees (Quotient x p q) h t =
      let e = All-head (λ x. v x ≡ u x) x.0 (variables_of p ++ variables_of q) h in
      let rest = All-tail (λ x. v x ≡ u x) x.0 (variables_of p ++ variables_of q) h in
      let a = All-left (λ x. v x ≡ u x) (variables_of p) (variables_of q) rest in
      let b = All-right (λ x. v x ≡ u x) (variables_of p) (variables_of q) rest in (
        subst IsWord e t.0,
        words_agree p a t.1,
        words_agree q b t.2,
        (λ z. t.3.0 (word_agrees q b ∙ z), sym (ap (λ z. number_of z % 2 ^ 32) e) ∙ t.3.1 ∙ ap₂ word_quotient (word_agrees p a) (word_agrees q b)),
      )

-- ---- variables that are added

pub get_more : (vars more : List VarInfo) (x : ℕ) (i : VarInfo) → slice_get vars x ≡ Some i → slice_get (vars ++ more) x ≡ Some i
get_more [] more x i e = cc
get_more (j ∷ vars) more zero i e = e
get_more (j ∷ vars) more (suc x) i e = get_more vars more x i e

-- a valuation that fits more variables fits the first of them
pub fits_fewer : (vars more : List VarInfo) (v : Valuation) → Fits (vars ++ more) v → Fits vars v
fits_fewer vars more v f = record {
  sorts = λ x i e. f.sorts x i (get_more vars more x i e);
  made = λ x y i j e g m n. f.made x y i j (get_more vars more x i e) (get_more vars more y j g) m n;
  types = λ x y i j s t b e g p q h k. f.types x y i j s t b (get_more vars more x i e) (get_more vars more y j g) p q h k;
}
