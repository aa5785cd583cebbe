-- A plain sum is 0 where the difference that it is holds.
use Rattle.std.proofs.Common.{◌≡◌, ℕ, ◌+◌, ◌%◌, ◌^◌, List, [], ◌∷◌, refl, sym, ap, subst, arith}
use Rattle.std.specs.Prelude.{Bool, All, flat_map}
use Rattle.std.proofs.lemmas.List.Elements.{All-nil, All-cons, All-head, All-tail}
use Rattle.px_terms.specs.Terms.{Term, value_at}
use Rattle.px_plain.specs.declared.nodes.Difference.{Difference}
use Rattle.px_plain.specs.Forest.{IsAbove}
use Rattle.px_plain.proofs.Shapes.{Shape, constant, plus, minus, plus_minus, minus_plus, positive, negative, between}

-- the value of a plain sum is 0
abbrev IsZero : ℕ → (ℕ → ℕ) → List Term → Type 0
IsZero c w ts = (c + value_at w ts) % 2 ^ 32 ≡ 0

abbrev Above : (ℕ → ℕ) → Difference → Type 0
Above val d = IsAbove val d.to d.from d.plus

module _ (c : ℕ) (equal : Bool) (w val : ℕ → ℕ) (z : val 0 ≡ 0) (same : (x : ℕ) → val (x + 1) ≡ w x) where
  none_zero : IsZero c w [] → Above val (between c equal 0 0)
  none_zero h = omega arith

  zero_none : Above val (between c equal 0 0) → IsZero c w []
  zero_none h = omega arith

  plus_zero : (x : ℕ) → IsZero c w (positive x ∷ []) → Above val (between c equal (x + 1) 0)
  plus_zero x h = let e = same x in omega arith

  zero_plus : (x : ℕ) → Above val (between c equal (x + 1) 0) → IsZero c w (positive x ∷ [])
  zero_plus x h = let e = same x in omega arith

  minus_zero : (x : ℕ) → IsZero c w (negative x ∷ []) → Above val (between c equal 0 (x + 1))
  minus_zero x h = let e = same x in omega arith

  zero_minus : (x : ℕ) → Above val (between c equal 0 (x + 1)) → IsZero c w (negative x ∷ [])
  zero_minus x h = let e = same x in omega arith

  plus_minus_zero : (x y : ℕ) → IsZero c w (positive x ∷ negative y ∷ []) → Above val (between c equal (x + 1) (y + 1))
  plus_minus_zero x y h = let e = same x in let f = same y in omega arith

  zero_plus_minus : (x y : ℕ) → Above val (between c equal (x + 1) (y + 1)) → IsZero c w (positive x ∷ negative y ∷ [])
  zero_plus_minus x y h = let e = same x in let f = same y in omega arith

  minus_plus_zero : (x y : ℕ) → IsZero c w (negative y ∷ positive x ∷ []) → Above val (between c equal (x + 1) (y + 1))
  minus_plus_zero x y h = let e = same x in let f = same y in omega arith

  zero_minus_plus : (x y : ℕ) → Above val (between c equal (x + 1) (y + 1)) → IsZero c w (negative y ∷ positive x ∷ [])
  zero_minus_plus x y h = let e = same x in let f = same y in omega arith

  move : (ts us : List Term) (d e : Difference) → ts ≡ us → d ≡ e → (IsZero c w us → Above val e) → IsZero c w ts → Above val d
  move ts us d e p q h k = subst (Above val) (sym q) (h (subst (IsZero c w) p k))

  back : (ts us : List Term) (d e : Difference) → ts ≡ us → d ≡ e → (Above val e → IsZero c w us) → Above val d → IsZero c w ts
  back ts us d e p q h k = subst (IsZero c w) (sym p) (h (subst (Above val) q k))

  pub above_of_zero : (ts : List Term) (d : Difference) → Shape c equal ts d → (c + value_at w ts) % 2 ^ 32 ≡ 0 → IsAbove val d.to d.from d.plus
  above_of_zero ts d (constant e f) = move ts [] d (between c equal 0 0) e f none_zero
  above_of_zero ts d (plus x e f) = move ts (positive x ∷ []) d (between c equal (x + 1) 0) e f (plus_zero x)
  above_of_zero ts d (minus x e f) = move ts (negative x ∷ []) d (between c equal 0 (x + 1)) e f (minus_zero x)
  above_of_zero ts d (plus_minus x y e f) = move ts (positive x ∷ negative y ∷ []) d (between c equal (x + 1) (y + 1)) e f (plus_minus_zero x y)
  above_of_zero ts d (minus_plus x y e f) = move ts (negative y ∷ positive x ∷ []) d (between c equal (x + 1) (y + 1)) e f (minus_plus_zero x y)

  pub zero_of_above : (ts : List Term) (d : Difference) → Shape c equal ts d → IsAbove val d.to d.from d.plus → (c + value_at w ts) % 2 ^ 32 ≡ 0
  zero_of_above ts d (constant e f) = back ts [] d (between c equal 0 0) e f zero_none
  zero_of_above ts d (plus x e f) = back ts (positive x ∷ []) d (between c equal (x + 1) 0) e f (zero_plus x)
  zero_of_above ts d (minus x e f) = back ts (negative x ∷ []) d (between c equal 0 (x + 1)) e f (zero_minus x)
  zero_of_above ts d (plus_minus x y e f) = back ts (positive x ∷ negative y ∷ []) d (between c equal (x + 1) (y + 1)) e f (zero_plus_minus x y)
  zero_of_above ts d (minus_plus x y e f) = back ts (negative y ∷ positive x ∷ []) d (between c equal (x + 1) (y + 1)) e f (zero_minus_plus x y)

-- ---- the variables of a plain sum are those of the difference's ends

-- P holds of the variables at the ends
abbrev pub AtEnds : (ℕ → Type 0) → Difference → Type 0
AtEnds P d = ((x : ℕ) → d.from ≡ x + 1 → P x) × ((x : ℕ) → d.to ≡ x + 1 → P x)

abbrev OfAll : (ℕ → Type 0) → List Term → Type 0
OfAll P ts = All P (flat_map (λ (t : Term). t.vars) ts)

module _ (c : ℕ) (equal : Bool) (P : ℕ → Type 0) where
  at_node : (x y : ℕ) → P x → x + 1 ≡ y + 1 → P y
  at_node x y h e = let f : x ≡ y = omega arith in subst P f h

  at_null : (y : ℕ) → 0 ≡ y + 1 → P y
  at_null y e = absurd (omega arith)

  shift : (ts us : List Term) (d e : Difference) → ts ≡ us → d ≡ e → (OfAll P us → AtEnds P e) → OfAll P ts → AtEnds P d
  shift ts us d e p q h k = subst (AtEnds P) (sym q) (h (subst (OfAll P) p k))

  unshift : (ts us : List Term) (d e : Difference) → ts ≡ us → d ≡ e → (AtEnds P e → OfAll P us) → AtEnds P d → OfAll P ts
  unshift ts us d e p q h k = subst (OfAll P) (sym p) (h (subst (AtEnds P) q k))

  second : (x y : ℕ) → All P (x ∷ y ∷ []) → P y
  second x y h = All-head P y [] (All-tail P x (y ∷ []) h)

  one : (x : ℕ) → P x → All P (x ∷ [])
  one x h = All-cons P x [] h (All-nil P)

  two : (x y : ℕ) → P x → P y → All P (x ∷ y ∷ [])
  two x y h k = All-cons P x (y ∷ []) h (one y k)

  pub ends_of_all : (ts : List Term) (d : Difference) → Shape c equal ts d → All P (flat_map (λ (t : Term). t.vars) ts) → AtEnds P d
  ends_of_all ts d (constant e f) = shift ts [] d (between c equal 0 0) e f (λ h. (at_null, at_null))
  ends_of_all ts d (plus x e f) = shift ts (positive x ∷ []) d (between c equal (x + 1) 0) e f (λ h. (λ y. at_node x y (All-head P x [] h), at_null))
  ends_of_all ts d (minus x e f) = shift ts (negative x ∷ []) d (between c equal 0 (x + 1)) e f (λ h. (at_null, λ y. at_node x y (All-head P x [] h)))
  ends_of_all ts d (plus_minus x z e f) = shift ts (positive x ∷ negative z ∷ []) d (between c equal (x + 1) (z + 1)) e f (λ h. (λ y. at_node x y (All-head P x (z ∷ []) h), λ y. at_node z y (second x z h)))
  ends_of_all ts d (minus_plus x z e f) = shift ts (negative z ∷ positive x ∷ []) d (between c equal (x + 1) (z + 1)) e f (λ h. (λ y. at_node x y (second z x h), λ y. at_node z y (All-head P z (x ∷ []) h)))

  pub all_of_ends : (ts : List Term) (d : Difference) → Shape c equal ts d → AtEnds P d → All P (flat_map (λ (t : Term). t.vars) ts)
  all_of_ends ts d (constant e f) = unshift ts [] d (between c equal 0 0) e f (λ h. All-nil P)
  all_of_ends ts d (plus x e f) = unshift ts (positive x ∷ []) d (between c equal (x + 1) 0) e f (λ h. one x (h.0 x refl))
  all_of_ends ts d (minus x e f) = unshift ts (negative x ∷ []) d (between c equal 0 (x + 1)) e f (λ h. one x (h.1 x refl))
  all_of_ends ts d (plus_minus x z e f) = unshift ts (positive x ∷ negative z ∷ []) d (between c equal (x + 1) (z + 1)) e f (λ h. two x z (h.0 x refl) (h.1 z refl))
  all_of_ends ts d (minus_plus x z e f) = unshift ts (negative z ∷ positive x ∷ []) d (between c equal (x + 1) (z + 1)) e f (λ h. two z x (h.1 z refl) (h.0 x refl))

pub plus_of : (c : ℕ) (equal : Bool) (ts : List Term) (d : Difference) → Shape c equal ts d → (d.plus ≡ c) × (d.equal ≡ equal)
plus_of c equal ts d (constant e f) = (ap (λ (k : Difference). k.plus) f, ap (λ (k : Difference). k.equal) f)
plus_of c equal ts d (plus x e f) = (ap (λ (k : Difference). k.plus) f, ap (λ (k : Difference). k.equal) f)
plus_of c equal ts d (minus x e f) = (ap (λ (k : Difference). k.plus) f, ap (λ (k : Difference). k.equal) f)
plus_of c equal ts d (plus_minus x y e f) = (ap (λ (k : Difference). k.plus) f, ap (λ (k : Difference). k.equal) f)
plus_of c equal ts d (minus_plus x y e f) = (ap (λ (k : Difference). k.plus) f, ap (λ (k : Difference). k.equal) f)
