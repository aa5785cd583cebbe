-- The forms of plain sums, and the differences that they are.
use Rattle.std.proofs.Common.{◌≡◌, inl, inr, ℕ, ◌+◌, ◌-◌, ◌^◌, List, [], ◌∷◌, length, refl, sym, ap, subst, ◌∙◌, arith}
use Rattle.std.specs.Prelude.{Bool, Option, Some, None}
use Rattle.std.proofs.lemmas.Bool.{cases_eq, eq-eqb, ne_eqb}
use Rattle.std.proofs.lemmas.Option.{none-some, same_Some}
use Rattle.px_terms.specs.Terms.{Term}
use Rattle.px_terms.specs.Conjuncts.{IsPlainSum}
use Rattle.px_plain.specs.declared.nodes.Difference.{Difference}
use Rattle.px_plain.specs.declared.nodes.SignedVar.{SignedVar}
use Rattle.px_plain.specs.declared.nodes.SignedVar.TheVariants.{Plus, Minus}
use Rattle.px_plain.specs.Readings.{signed_among, signed_of, of_one, of_two, with_one, with_two, of_sum}

-- x or -x as a term
abbrev pub positive : ℕ → Term
positive x = record { coefficient = 1; vars = x ∷ [] }

abbrev pub negative : ℕ → Term
negative x = record { coefficient = 2 ^ 32 - 1; vars = x ∷ [] }

abbrev pub term_of_signed : SignedVar → Term
term_of_signed (Plus x) = positive x
term_of_signed (Minus x) = negative x

abbrev pub between : ℕ → Bool → ℕ → ℕ → Difference
between c equal from to = record { from = from; to = to; plus = c; equal = equal }

-- the forms of a plain sum
pub data Shape (c : ℕ) (equal : Bool) (ts : List Term) (d : Difference) : Type 0 where
  constant : ts ≡ [] → d ≡ between c equal 0 0 → Shape c equal ts d
  plus : (x : ℕ) → ts ≡ positive x ∷ [] → d ≡ between c equal (x + 1) 0 → Shape c equal ts d
  minus : (x : ℕ) → ts ≡ negative x ∷ [] → d ≡ between c equal 0 (x + 1) → Shape c equal ts d
  plus_minus : (x y : ℕ) → ts ≡ positive x ∷ negative y ∷ [] → d ≡ between c equal (x + 1) (y + 1) → Shape c equal ts d
  minus_plus : (x y : ℕ) → ts ≡ negative y ∷ positive x ∷ [] → d ≡ between c equal (x + 1) (y + 1) → Shape c equal ts d

-- ---- from the reading to the form

among_is : (k x : ℕ) (u : SignedVar) → signed_among k (x ∷ []) ≡ Some u → record { coefficient = k; vars = x ∷ [] } ≡ term_of_signed u
among_is k x u e = elim (cases_eq k 1) [
  | inl o ↦
      let f : signed_among k (x ∷ []) ≡ Some (Plus x) = rw (eq-eqb k 1 o) in
      let s = same_Some (Plus x) u (sym f ∙ e) in
      ap (λ (n : ℕ). record { coefficient = n; vars = x ∷ [] }) o ∙ ap term_of_signed s
  | inr n ↦ elim (cases_eq k (2 ^ 32 - 1)) [
    | inl o ↦
        let f : signed_among k (x ∷ []) ≡ Some (Minus x) = rw (ne_eqb k 1 n) (rw (eq-eqb k (2 ^ 32 - 1) o)) in
        let s = same_Some (Minus x) u (sym f ∙ e) in
        ap (λ (n : ℕ). record { coefficient = n; vars = x ∷ [] }) o ∙ ap term_of_signed s
    | inr m ↦
        let f : signed_among k (x ∷ []) ≡ None = rw (ne_eqb k 1 n) (rw (ne_eqb k (2 ^ 32 - 1) m)) in
        absurd (none-some u (sym f ∙ e))
  ]
]

among_term : (k : ℕ) (xs : List ℕ) (u : SignedVar) → signed_among k xs ≡ Some u → record { coefficient = k; vars = xs } ≡ term_of_signed u
among_term k [] u e = absurd (none-some u e)
among_term k (x ∷ []) u e = among_is k x u e
among_term k (x ∷ y ∷ ys) u e = absurd (none-some u e)

signed_term : (t : Term) (u : SignedVar) → signed_of t ≡ Some u → t ≡ term_of_signed u
signed_term t u e = among_term t.coefficient t.vars u e

one_shape : (c : ℕ) (equal : Bool) (t : Term) (d : Difference) (u : SignedVar) → t ≡ term_of_signed u → of_one c equal u ≡ Some d → Shape c equal (t ∷ []) d
one_shape c equal t d (Plus x) e f = plus x (ap (λ z. z ∷ []) e) (sym (same_Some (between c equal (x + 1) 0) d f))
one_shape c equal t d (Minus x) e f = minus x (ap (λ z. z ∷ []) e) (sym (same_Some (between c equal 0 (x + 1)) d f))

with_one_shape : (c : ℕ) (equal : Bool) (t : Term) (d : Difference) (o : Option SignedVar) → signed_of t ≡ o → with_one c equal o ≡ Some d → Shape c equal (t ∷ []) d
with_one_shape c equal t d None e f = absurd (none-some d f)
with_one_shape c equal t d (Some u) e f = one_shape c equal t d u (signed_term t u e) f

two_shape : (c : ℕ) (equal : Bool) (s t : Term) (d : Difference) (u w : SignedVar) → s ≡ term_of_signed u → t ≡ term_of_signed w → of_two c equal u w ≡ Some d → Shape c equal (s ∷ t ∷ []) d
two_shape c equal s t d (Plus x) (Plus y) e g f = absurd (none-some d f)
two_shape c equal s t d (Plus x) (Minus y) e g f = plus_minus x y (ap (λ z. z ∷ t ∷ []) e ∙ ap (λ z. positive x ∷ z ∷ []) g) (sym (same_Some (between c equal (x + 1) (y + 1)) d f))
two_shape c equal s t d (Minus y) (Plus x) e g f = minus_plus x y (ap (λ z. z ∷ t ∷ []) e ∙ ap (λ z. negative y ∷ z ∷ []) g) (sym (same_Some (between c equal (x + 1) (y + 1)) d f))
two_shape c equal s t d (Minus x) (Minus y) e g f = absurd (none-some d f)

with_two_shape : (c : ℕ) (equal : Bool) (s t : Term) (d : Difference) (o p : Option SignedVar) → signed_of s ≡ o → signed_of t ≡ p → with_two c equal o p ≡ Some d → Shape c equal (s ∷ t ∷ []) d
with_two_shape c equal s t d None p e g f = absurd (none-some d f)
with_two_shape c equal s t d (Some u) None e g f = absurd (none-some d f)
with_two_shape c equal s t d (Some u) (Some w) e g f = two_shape c equal s t d u w (signed_term s u e) (signed_term t w g) f

pub shape_of : (c : ℕ) (equal : Bool) (ts : List Term) (d : Difference) → of_sum c equal ts ≡ Some d → Shape c equal ts d
shape_of c equal [] d f = constant refl (sym (same_Some (between c equal 0 0) d f))
shape_of c equal (s ∷ []) d f = with_one_shape c equal s d (signed_of s) refl f
shape_of c equal (s ∷ t ∷ []) d f = with_two_shape c equal s t d (signed_of s) (signed_of t) refl refl f
shape_of c equal (s ∷ t ∷ u ∷ us) d f = absurd (none-some d f)

pub shape_plain : (c : ℕ) (equal : Bool) (ts : List Term) (d : Difference) → Shape c equal ts d → IsPlainSum ts
shape_plain c equal ts d (constant e f) = subst IsPlainSum (sym e) tt
shape_plain c equal ts d (plus x e f) = subst IsPlainSum (sym e) (refl, inl refl)
shape_plain c equal ts d (minus x e f) = subst IsPlainSum (sym e) (refl, inr refl)
shape_plain c equal ts d (plus_minus x y e f) = subst IsPlainSum (sym e) (refl, refl, inl (refl, refl))
shape_plain c equal ts d (minus_plus x y e f) = subst IsPlainSum (sym e) (refl, refl, inr (refl, refl))

-- ---- from a plain sum to its reading

among_one : (k : ℕ) (xs : List ℕ) → length xs ≡ 1 → k ≡ 1 → (x : ℕ) × (signed_among k xs ≡ Some (Plus x))
among_one k [] e f = absurd (omega arith)
among_one k (x ∷ []) e f = (x, rw (eq-eqb k 1 f))
among_one k (x ∷ y ∷ ys) e f = absurd (omega arith)

among_other : (k : ℕ) (xs : List ℕ) → length xs ≡ 1 → k ≡ 2 ^ 32 - 1 → (x : ℕ) × (signed_among k xs ≡ Some (Minus x))
among_other k [] e f = absurd (omega arith)
among_other k (x ∷ []) e f = (x, rw (ne_eqb k 1 (omega arith)) (rw (eq-eqb k (2 ^ 32 - 1) f)))
among_other k (x ∷ y ∷ ys) e f = absurd (omega arith)

pub plain_read : (c : ℕ) (equal : Bool) (ts : List Term) → IsPlainSum ts → (d : Difference) × (of_sum c equal ts ≡ Some d)
plain_read c equal [] h = (between c equal 0 0, refl)
plain_read c equal (s ∷ []) (e, inl u) = let r = among_one s.coefficient s.vars e u in (between c equal (r.0 + 1) 0, ap (with_one c equal) r.1)
plain_read c equal (s ∷ []) (e, inr u) = let r = among_other s.coefficient s.vars e u in (between c equal 0 (r.0 + 1), ap (with_one c equal) r.1)
plain_read c equal (s ∷ t ∷ []) (e, f, inl (u, w)) =
    let r = among_one s.coefficient s.vars e u in
    let q = among_other t.coefficient t.vars f w in
    (between c equal (r.0 + 1) (q.0 + 1), ap (λ z. with_two c equal z (signed_of t)) r.1 ∙ ap (with_two c equal (Some (Plus r.0))) q.1)
plain_read c equal (s ∷ t ∷ []) (e, f, inr (u, w)) =
    let r = among_other s.coefficient s.vars e u in
    let q = among_one t.coefficient t.vars f w in
    (between c equal (q.0 + 1) (r.0 + 1), ap (λ z. with_two c equal z (signed_of t)) r.1 ∙ ap (with_two c equal (Some (Minus r.0))) q.1)
plain_read c equal (s ∷ t ∷ u ∷ us) h = absurd h
