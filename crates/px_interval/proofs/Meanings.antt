-- The bound of a conjunct is what the conjunct says of its variable.
use Rattle.std.proofs.Common.{◌≡◌, ◌⊎◌, inl, inr, ℕ, ◌+◌, ◌-◌, ◌*◌, ◌%◌, ◌^◌, ◌<◌, ◌≤◌, [], ◌∷◌, refl, sym, ap, ◌∙◌, arith}
use Rattle.std.specs.Prelude.{ℤ, FitsSigned, Bool, true, false, Option, Some, None}
use Rattle.std.specs.Int.{w32}
use Rattle.std.proofs.lemmas.Bool.{cases_eq, cases_lt, eq-eqb, ne_eqb}
use Rattle.px_terms.specs.Words.{word}
use Rattle.px_terms.specs.Terms.{value_at}
use Rattle.px_terms.specs.Polynomials.{Polynomial, value_of}
use Rattle.px_terms.specs.Valuations.{Valuation, numbers_of}
use Rattle.px_terms.specs.Conjuncts.{IsTrueUnder, HasWords}
use Rattle.px_terms.specs.Rules.{IsConstant, IsVariable, IsUnitSum, BoundsVariable}
use Rattle.px_terms.specs.declared.types.Value.TheVariants as value
use Rattle.px_terms.specs.declared.conjuncts.Conj.{Conj}
use Rattle.px_terms.specs.declared.conjuncts.Conj.TheVariants.{Equal, Unequal, Less, AtMost, SamePlace, OtherPlace, Written, Unwritten, Quotient}
use Rattle.px_terms.proofs.WordLaws.{words_are_signed}
use Rattle.px_interval.specs.declared.bounds.Form.{Form}
use Rattle.px_interval.specs.declared.bounds.Form.TheVariants as form
use Rattle.px_interval.specs.declared.bounds.Side.{Side}
use Rattle.px_interval.specs.declared.bounds.Side.TheVariants as side
use Rattle.px_interval.specs.declared.bounds.Bound.{Bound}
use Rattle.px_interval.specs.Bounds.{place, side_of, form_of, Allows, equal_bound, less_bound, at_most_bound, bound_of}
use Rattle.px_interval.proofs.Forms.{unit, Has, has_form, unit_variable, not_unit, signed_less, signed_at_most}

-- each variable has the word z
abbrev pub at : ℤ → Valuation
at z x = value.Word z

abbrev value_at_all : ℤ → Polynomial → ℕ
value_at_all z p = value_of (numbers_of (at z)) p

have_words : (z : ℤ) (p : Polynomial) → HasWords (at z) p
have_words z p k d l = tt

-- the bound is that of the conjunct
pub record Means (c : Conj) (b : Bound) : Type 0 where
  pub bounded : BoundsVariable b.variable c
  pub alone : (x : ℕ) → BoundsVariable x c → b.variable ≡ x
  pub allowed : (z : ℤ) → FitsSigned w32 z → IsTrueUnder (at z) c → Allows b (place (word z))
  pub true_there : (z : ℤ) → FitsSigned w32 z → Allows b (place (word z)) → IsTrueUnder (at z) c

abbrev pub MeansIf : Conj → Option Bound → Type 0
MeansIf c None = (x : ℕ) → ¬ BoundsVariable x c
MeansIf c (Some b) = Means c b

-- ---- equalities

plus_zero : (c n : ℕ) → n < 2 ^ 32 → (c + (1 * (n * 1) + 0)) % 2 ^ 32 ≡ 0 → place n ≡ place ((2 ^ 32 - c % 2 ^ 32) % 2 ^ 32)
plus_zero c n l e = omega arith

zero_plus : (c n : ℕ) → n < 2 ^ 32 → place n ≡ place ((2 ^ 32 - c % 2 ^ 32) % 2 ^ 32) → (c + (1 * (n * 1) + 0)) % 2 ^ 32 ≡ 0
zero_plus c n l e = omega arith

minus_zero : (c n : ℕ) → n < 2 ^ 32 → (c + ((2 ^ 32 - 1) * (n * 1) + 0)) % 2 ^ 32 ≡ 0 → place n ≡ place c
minus_zero c n l e = omega arith

zero_minus : (c n : ℕ) → n < 2 ^ 32 → place n ≡ place c → (c + ((2 ^ 32 - 1) * (n * 1) + 0)) % 2 ^ 32 ≡ 0
zero_minus c n l e = omega arith

below : (z : ℤ) → FitsSigned w32 z → word z < 2 ^ 32
below z f = words_are_signed.word_fits z f

module _ (p : Polynomial) (a x at_place : ℕ) (u : (a ≡ 1) ⊎ (a ≡ 2 ^ 32 - 1)) (e : p.monomials ≡ unit a x ∷ [])
    (zero_at : (n : ℕ) → n < 2 ^ 32 → (p.constant + (a * (n * 1) + 0)) % 2 ^ 32 ≡ 0 → place n ≡ at_place)
    (at_zero : (n : ℕ) → n < 2 ^ 32 → place n ≡ at_place → (p.constant + (a * (n * 1) + 0)) % 2 ^ 32 ≡ 0) where
  same : (z : ℤ) → value_at_all z p ≡ (p.constant + (a * (word z * 1) + 0)) % 2 ^ 32
  same z = ap (λ ts. (p.constant + value_at (numbers_of (at z)) ts) % 2 ^ 32) e

  abbrev the_bound : Bool → Bound
  the_bound inside = record { variable = x; inside = inside; low = at_place; end = at_place + 1 }

  only : (y : ℕ) → IsUnitSum y p → x ≡ y
  only y (b, w, g) = unit_variable a x b y (sym e ∙ g)

  inside_means : Means (Equal p) (the_bound true)
  inside_means = record {
    bounded = (a, u, e);
    alone = only;
    allowed = λ z f h. let k = zero_at (word z) (below z f) (sym (same z) ∙ h.1) in (omega arith, omega arith);
    true_there = λ z f h. (have_words z p, same z ∙ at_zero (word z) (below z f) (omega arith));
  }

  outside_means : Means (Unequal p) (the_bound false)
  outside_means = record {
    bounded = (a, u, e);
    alone = only;
    allowed = λ z f h k. h.1 (same z ∙ at_zero (word z) (below z f) (omega arith));
    true_there = λ z f h. (have_words z p, λ k. let t = zero_at (word z) (below z f) (sym (same z) ∙ k) in h (omega arith, omega arith));
  }

no_unit : (p : Polynomial) (f : Form) → Has p.monomials f → equal_bound 0 true f ≡ None → (x : ℕ) → ¬ IsUnitSum x p
no_unit p form.Constant e g x (a, u, h) = cc
no_unit p (form.Plus y) e g x h = absurd cc
no_unit p (form.Minus y) e g x h = absurd cc
no_unit p form.Other e g x (a, inl u, h) = e.1 x (h ∙ ap (λ k. unit k x ∷ []) u)
no_unit p form.Other e g x (a, inr u, h) = e.2 x (h ∙ ap (λ k. unit k x ∷ []) u)

equal_means : (p : Polynomial) (f : Form) → Has p.monomials f → MeansIf (Equal p) (equal_bound p.constant true f)
equal_means p form.Constant e = no_unit p form.Constant e refl
equal_means p (form.Plus x) e = inside_means p 1 x (place ((2 ^ 32 - p.constant % 2 ^ 32) % 2 ^ 32)) (inl refl) e (plus_zero p.constant) (zero_plus p.constant)
equal_means p (form.Minus x) e = inside_means p (2 ^ 32 - 1) x (place p.constant) (inr refl) e (minus_zero p.constant) (zero_minus p.constant)
equal_means p form.Other e = no_unit p form.Other e refl

unequal_means : (p : Polynomial) (f : Form) → Has p.monomials f → MeansIf (Unequal p) (equal_bound p.constant false f)
unequal_means p form.Constant e = no_unit p form.Constant e refl
unequal_means p (form.Plus x) e = outside_means p 1 x (place ((2 ^ 32 - p.constant % 2 ^ 32) % 2 ^ 32)) (inl refl) e (plus_zero p.constant) (zero_plus p.constant)
unequal_means p (form.Minus x) e = outside_means p (2 ^ 32 - 1) x (place p.constant) (inr refl) e (minus_zero p.constant) (zero_minus p.constant)
unequal_means p form.Other e = no_unit p form.Other e refl

-- ---- orders

-- what a side of an order is
abbrev pub HasSide : Polynomial → Side → Type 0
HasSide p (side.Constant k) = IsConstant p × (k ≡ place p.constant)
HasSide p (side.Variable x) = IsVariable x p
HasSide p side.Other = (¬ IsConstant p) × ((x : ℕ) → ¬ IsVariable x p)

has_side : (p : Polynomial) (f : Form) → Has p.monomials f → HasSide p (side_of p.constant f)
has_side p form.Constant e = (e, refl)
has_side p (form.Plus x) e = elim (cases_eq p.constant 0) [
  | inl z ↦ rw (eq-eqb p.constant 0 z) (z, e)
  | inr d ↦ rw (ne_eqb p.constant 0 d) (λ g. cc, λ y h. d h.0)
]
has_side p (form.Minus x) e = (λ g. cc, λ y h. not_unit x y (sym e ∙ h.1))
has_side p form.Other e = (e.0, λ y h. e.1 y h.1)

pub side_here : (p : Polynomial) → HasSide p (side_of p.constant (form_of p.monomials))
side_here p = has_side p (form_of p.monomials) (has_form p.monomials)

value_below : (z : ℤ) (p : Polynomial) → value_at_all z p < 2 ^ 32
value_below z p = let n = p.constant + value_at (numbers_of (at z)) p.monomials in omega arith

constant_place : (z : ℤ) (p : Polynomial) (k : ℕ) → IsConstant p × (k ≡ place p.constant) → place (value_at_all z p) ≡ k
constant_place z p k (e, g) = ap (λ ts. place ((p.constant + value_at (numbers_of (at z)) ts) % 2 ^ 32)) e ∙ plain p.constant ∙ sym g
  where
    plain : (c : ℕ) → place ((c + 0) % 2 ^ 32) ≡ place c
    plain c = omega arith

variable_place : (z : ℤ) (p : Polynomial) (x : ℕ) → FitsSigned w32 z → IsVariable x p → place (value_at_all z p) ≡ place (word z)
variable_place z p x f (c, e) = ap (λ k. place ((k + value_at (numbers_of (at z)) p.monomials) % 2 ^ 32)) c ∙ ap (λ ts. place ((0 + value_at (numbers_of (at z)) ts) % 2 ^ 32)) e ∙ plain (word z)
  where
    plain : (n : ℕ) → place ((0 + (1 * (n * 1) + 0)) % 2 ^ 32) ≡ place n
    plain n = omega arith

-- two variables alone are one
same_variable : (x y : ℕ) (p : Polynomial) → IsVariable x p → IsVariable y p → x ≡ y
same_variable x y p h k = unit_variable 1 x 1 y (sym h.1 ∙ k.1)

-- a variable alone is no constant
never_both : (x : ℕ) (p : Polynomial) → IsVariable x p → ¬ IsConstant p
never_both x p h e = let g = sym h.1 ∙ e in cc

-- the two ways in which an order bounds x
abbrev Orders : ℕ → Polynomial → Polynomial → Type 0
Orders x p q = (IsVariable x p × IsConstant q) ⊎ (IsConstant p × IsVariable x q)

module _ (p q : Polynomial) where
  first_alone : (x y : ℕ) → IsVariable x p → Orders y p q → x ≡ y
  first_alone x y h (inl (a, b)) = same_variable x y p h a
  first_alone x y h (inr (a, b)) = absurd (never_both x p h a)

  second_alone : (x y : ℕ) → IsVariable x q → Orders y p q → x ≡ y
  second_alone x y h (inl (a, b)) = absurd (never_both x q h b)
  second_alone x y h (inr (a, b)) = same_variable x y q h b

  constants : IsConstant p → IsConstant q → (x : ℕ) → ¬ Orders x p q
  constants a b x (inl (h, k)) = never_both x p h a
  constants a b x (inr (h, k)) = never_both x q k b

  both_variables : (x y : ℕ) → IsVariable x p → IsVariable y q → (w : ℕ) → ¬ Orders w p q
  both_variables x y a b w (inl (h, k)) = never_both y q b k
  both_variables x y a b w (inr (h, k)) = never_both x p a h

  first_other : HasSide p side.Other → (x : ℕ) → ¬ Orders x p q
  first_other a x (inl (h, k)) = a.1 x h
  first_other a x (inr (h, k)) = a.0 h

  second_other : HasSide q side.Other → (x : ℕ) → ¬ Orders x p q
  second_other a x (inl (h, k)) = a.0 k
  second_other a x (inr (h, k)) = a.1 x k

  less_places : (z : ℤ) → IsTrueUnder (at z) (Less p q) → place (value_at_all z p) < place (value_at_all z q)
  less_places z h = (signed_less (value_at_all z p) (value_at_all z q) (value_below z p) (value_below z q)).0 h.2

  places_less : (z : ℤ) → place (value_at_all z p) < place (value_at_all z q) → IsTrueUnder (at z) (Less p q)
  places_less z h = (have_words z p, have_words z q, (signed_less (value_at_all z p) (value_at_all z q) (value_below z p) (value_below z q)).1 h)

  at_most_places : (z : ℤ) → IsTrueUnder (at z) (AtMost p q) → place (value_at_all z p) ≤ place (value_at_all z q)
  at_most_places z h = (signed_at_most (value_at_all z p) (value_at_all z q) (value_below z p) (value_below z q)).0 h.2

  places_at_most : (z : ℤ) → place (value_at_all z p) ≤ place (value_at_all z q) → IsTrueUnder (at z) (AtMost p q)
  places_at_most z h = (have_words z p, have_words z q, (signed_at_most (value_at_all z p) (value_at_all z q) (value_below z p) (value_below z q)).1 h)

  less_means : (a b : Side) → HasSide p a → HasSide q b → MeansIf (Less p q) (less_bound a b)
  less_means (side.Constant c) (side.Constant d) h k = constants h.0 k.0
  less_means (side.Constant c) (side.Variable x) h k = record {
    bounded = inr (h.0, k);
    alone = λ y o. second_alone x y k o;
    allowed = λ z f t g. let a = constant_place z p c h in let b = variable_place z q x f k in let l = less_places z t in let m = g.1 in omega arith;
    true_there = λ z f g. places_less z (elim (cases_lt c (place (word z))) [
      | inl l ↦ (let a = constant_place z p c h in let b = variable_place z q x f k in omega arith)
      | inr l ↦ absurd (g (omega arith, omega arith))
    ]);
  }
  less_means (side.Constant c) side.Other h k = second_other k
  less_means (side.Variable x) (side.Constant c) h k = record {
    bounded = inl (h, k.0);
    alone = λ y o. first_alone x y h o;
    allowed = λ z f t g. let a = constant_place z q c k in let b = variable_place z p x f h in let l = less_places z t in let m = g.0 in omega arith;
    true_there = λ z f g. places_less z (elim (cases_lt (place (word z)) c) [
      | inl l ↦ (let a = constant_place z q c k in let b = variable_place z p x f h in omega arith)
      | inr l ↦ absurd (g (l, omega arith))
    ]);
  }
  less_means (side.Variable x) (side.Variable y) h k = both_variables x y h k
  less_means (side.Variable x) side.Other h k = second_other k
  less_means side.Other b h k = first_other h

  at_most_means : (a b : Side) → HasSide p a → HasSide q b → MeansIf (AtMost p q) (at_most_bound a b)
  at_most_means (side.Constant c) (side.Constant d) h k = constants h.0 k.0
  at_most_means (side.Constant c) (side.Variable x) h k = record {
    bounded = inr (h.0, k);
    alone = λ y o. second_alone x y k o;
    allowed = λ z f t. let a = constant_place z p c h in let b = variable_place z q x f k in let l = at_most_places z t in (omega arith, omega arith);
    true_there = λ z f g. places_at_most z (let a = constant_place z p c h in let b = variable_place z q x f k in let m = g.0 in omega arith);
  }
  at_most_means (side.Constant c) side.Other h k = second_other k
  at_most_means (side.Variable x) (side.Constant c) h k = record {
    bounded = inl (h, k.0);
    alone = λ y o. first_alone x y h o;
    allowed = λ z f t. let a = constant_place z q c k in let b = variable_place z p x f h in let l = at_most_places z t in (omega arith, omega arith);
    true_there = λ z f g. places_at_most z (let a = constant_place z q c k in let b = variable_place z p x f h in let m = g.1 in omega arith);
  }
  at_most_means (side.Variable x) (side.Variable y) h k = both_variables x y h k
  at_most_means (side.Variable x) side.Other h k = second_other k
  at_most_means side.Other b h k = first_other h

-- ---- conjuncts

pub means : (c : Conj) → MeansIf c (bound_of c)
means (Equal p) = equal_means p (form_of p.monomials) (has_form p.monomials)
means (Unequal p) = unequal_means p (form_of p.monomials) (has_form p.monomials)
means (Less p q) = less_means p q (side_of p.constant (form_of p.monomials)) (side_of q.constant (form_of q.monomials)) (side_here p) (side_here q)
means (AtMost p q) = at_most_means p q (side_of p.constant (form_of p.monomials)) (side_of q.constant (form_of q.monomials)) (side_here p) (side_here q)
means (SamePlace a b) = λ x h. h
means (OtherPlace a b) = λ x h. h
means (Written y) = λ x h. h
means (Unwritten y) = λ x h. h
means (Quotient y p q) = λ x h. h
