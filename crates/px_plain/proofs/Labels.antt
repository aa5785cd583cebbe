-- Numbers below a bound that are equal where others are.
use Rattle.std.proofs.Common.{◌≡◌, inl, inr, ℕ, zero, suc, ◌≤◌, refl, sym, ap, ◌∙◌, arith}
use Rattle.std.specs.Prelude.{cond, nat_eq}
use Rattle.std.proofs.lemmas.Bool.{cases_eq, eq-eqb, ne_eqb}

-- the first of the nodes up to n whose number is a, or n
abbrev pub first_of : (ℕ → ℕ) → ℕ → ℕ → ℕ
first_of f zero a = zero
first_of f (suc n) a = cond (nat_eq (f (first_of f n a)) a) (first_of f n a) (suc n)

pub first_below : (f : ℕ → ℕ) (n a : ℕ) → first_of f n a ≤ n
first_below f zero a = omega arith
first_below f (suc n) a =
    let h = first_below f n a in
    elim (cases_eq (f (first_of f n a)) a) [
      | inl e ↦ let g : first_of f (suc n) a ≡ first_of f n a = rw (eq-eqb (f (first_of f n a)) a e) in omega arith
      | inr e ↦ let g : first_of f (suc n) a ≡ suc n = rw (ne_eqb (f (first_of f n a)) a e) in omega arith
    ]

pub first_has : (f : ℕ → ℕ) (n a u : ℕ) → u ≤ n → f u ≡ a → f (first_of f n a) ≡ a
first_has f zero a u h e = let g : u ≡ 0 = omega arith in ap f (sym g) ∙ e
first_has f (suc n) a u h e = elim (cases_eq (f (first_of f n a)) a) [
  | inl q ↦ let g : first_of f (suc n) a ≡ first_of f n a = rw (eq-eqb (f (first_of f n a)) a q) in ap f g ∙ q
  | inr q ↦
      let g : first_of f (suc n) a ≡ suc n = rw (ne_eqb (f (first_of f n a)) a q) in
      elim (cases_eq u (suc n)) [
        | inl o ↦ ap f g ∙ ap f (sym o) ∙ e
        | inr o ↦ absurd (q (first_has f n a u (omega arith) e))
      ]
]

pub first_null : (f : ℕ → ℕ) (n : ℕ) → f 0 ≡ 0 → first_of f n 0 ≡ 0
first_null f zero e = refl
first_null f (suc n) e =
    let h = first_null f n e in
    let q : f (first_of f n 0) ≡ 0 = ap f h ∙ e in
    let g : first_of f (suc n) 0 ≡ first_of f n 0 = rw (eq-eqb (f (first_of f n 0)) 0 q) in
    g ∙ h

-- the label of a node up to n, and 0 for the others
abbrev pub label : (ℕ → ℕ) → ℕ → ℕ → ℕ
label f n u = first_of f n (f u)

module _ (f : ℕ → ℕ) (n : ℕ) where
  pub label_same : (u w : ℕ) → f u ≡ f w → label f n u ≡ label f n w
  label_same u w e = ap (first_of f n) e

  pub same_label : (u w : ℕ) → u ≤ n → w ≤ n → label f n u ≡ label f n w → f u ≡ f w
  same_label u w h k e = sym (first_has f n (f u) u h refl) ∙ ap f e ∙ first_has f n (f w) w k refl

  pub label_null : (u : ℕ) → f 0 ≡ 0 → f u ≡ 0 → label f n u ≡ 0
  label_null u z e = ap (first_of f n) e ∙ first_null f n z

  pub null_label : (u : ℕ) → u ≤ n → f 0 ≡ 0 → label f n u ≡ 0 → f u ≡ 0
  null_label u h z e = sym (first_has f n (f u) u h refl) ∙ ap f e ∙ z
