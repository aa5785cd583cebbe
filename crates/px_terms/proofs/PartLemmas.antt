-- Monomials in normal form, place by place.
use Rattle.std.proofs.Common.{◌≡◌, ℕ, zero, suc, ◌-◌, ◌^◌, ◌<◌, List, [], ◌∷◌, length, map, get_or, refl, sym, ap, ap₂, subst, ◌∙◌, arith}
use Rattle.std.specs.declared.cmp.Ordering.TheVariants.{Less}
use Rattle.px_terms.specs.Terms.{Term, key_cmp, Before, IsRising, IsNormal, HasOrderedVariables}
use Rattle.px_terms.specs.Parts.{term_at, IsNormalAt}
use Rattle.px_terms.proofs.KeyOrder.{before_later}

-- the term of the monomial at a place is the term at the place
pub at_map : {A : Type 0} (f : A → Term) (xs : List A) (i : ℕ) (d : A) → i < length xs → term_at (map f xs) i ≡ f (get_or xs i d)
at_map f [] i d h = absurd (omega arith)
at_map f (x ∷ xs) zero d h = refl
at_map f (x ∷ xs) (suc i) d h = at_map f xs i d (omega arith)

-- lists that are the same at each place are one
pub same_places : (ts us : List Term) → length ts ≡ length us → ((k : ℕ) → k < length ts → term_at ts k ≡ term_at us k) → ts ≡ us
same_places [] [] e h = refl
same_places [] (u ∷ us) e h = absurd (omega arith)
same_places (t ∷ ts) [] e h = absurd (omega arith)
same_places (t ∷ ts) (u ∷ us) e h = ap₂ ◌∷◌ (h 0 (omega arith)) (same_places ts us (omega arith) (λ k l. h (suc k) (omega arith)))

-- ---- from places

shifted : (t : Term) (ts : List Term) → ((i : ℕ) → i < suc (length ts) → IsNormalAt (t ∷ ts) i) → (i : ℕ) → i < length ts → IsNormalAt ts i
shifted t ts h zero l = let n = h 1 (omega arith) in record { some = n.some; word = n.word; variables = n.variables; behind = λ k. absurd (omega arith) }
shifted t ts h (suc i) l =
    let n = h (suc (suc i)) (omega arith) in
    let e : suc i - 1 ≡ i = omega arith in
    let f : suc (suc i) - 1 ≡ suc i = omega arith in
    record {
      some = n.some;
      word = n.word;
      variables = n.variables;
      behind = λ k. subst (λ j. key_cmp (term_at ts j).vars (term_at ts (suc i)).vars ≡ Less) (sym e)
          (subst (λ j. key_cmp (term_at (t ∷ ts) j).vars (term_at ts (suc i)).vars ≡ Less) f (n.behind (omega arith)));
    }

before_all : (t : Term) (ts : List Term) → ((i : ℕ) → i < suc (length ts) → IsNormalAt (t ∷ ts) i) → IsRising ts → Before t.vars ts
before_all t [] h r = tt
before_all t (u ∷ us) h r =
    let e = (h 1 (omega arith)).behind (omega arith) in
    (e, before_later t.vars u.vars us e r.2)

rising_places : (ts : List Term) → ((i : ℕ) → i < length ts → IsNormalAt ts i) → IsRising ts
rising_places [] h = tt
rising_places (t ∷ ts) h =
    let n = h 0 (omega arith) in
    let later = rising_places ts (shifted t ts h) in
    (n.some, n.word, before_all t ts h later, later)

any_default : (ts : List Term) (k : ℕ) (d : Term) → k < length ts → term_at ts k ≡ get_or ts k d
any_default [] k d h = absurd (omega arith)
any_default (t ∷ ts) zero d h = refl
any_default (t ∷ ts) (suc k) d h = any_default ts k d (omega arith)

pub normal_places : (ts : List Term) → ((i : ℕ) → i < length ts → IsNormalAt ts i) → IsNormal ts
normal_places ts h = record {
  rising = rising_places ts h;
  variables = λ k d l. subst HasOrderedVariables (any_default ts k d l) (h k l).variables;
}

-- ---- to places

rising_at : (ts : List Term) → IsRising ts → (i : ℕ) → i < length ts → (0 < (term_at ts i).coefficient) × ((term_at ts i).coefficient < 2 ^ 32)
rising_at [] r i l = absurd (omega arith)
rising_at (t ∷ ts) r zero l = (r.0, r.1)
rising_at (t ∷ ts) r (suc i) l = rising_at ts r.3 i (omega arith)

after_at : (ts : List Term) → IsRising ts → (i : ℕ) → suc i < length ts → key_cmp (term_at ts i).vars (term_at ts (suc i)).vars ≡ Less
after_at [] r i l = absurd (omega arith)
after_at (t ∷ []) r i l = absurd (omega arith)
after_at (t ∷ u ∷ us) r zero l = r.2.0
after_at (t ∷ u ∷ us) r (suc i) l = after_at (u ∷ us) r.3 i (omega arith)

after_before : (ts : List Term) → IsRising ts → (i : ℕ) → i < length ts → 0 < i → key_cmp (term_at ts (i - 1)).vars (term_at ts i).vars ≡ Less
after_before ts r zero l k = absurd (omega arith)
after_before ts r (suc i) l k =
    let e : suc i - 1 ≡ i = omega arith in
    subst (λ j. key_cmp (term_at ts j).vars (term_at ts (suc i)).vars ≡ Less) (sym e) (after_at ts r i l)

pub places_normal : (ts : List Term) → IsNormal ts → (i : ℕ) → i < length ts → IsNormalAt ts i
places_normal ts n i l =
    let r = rising_at ts n.rising i l in
    record { some = r.0; word = r.1; variables = n.variables i (record { coefficient = 0; vars = [] }) l; behind = after_before ts n.rising i l }

-- ---- of lists that are seen through a function

module _ {A : Type 0} (f : A → Term) where
  size : (xs : List A) → length (map f xs) ≡ length xs
  size [] = refl
  size (x ∷ xs) = ap suc (size xs)

  pub same_all : (xs ys : List A) → length xs ≡ length ys → ((k : ℕ) → k < length xs → term_at (map f xs) k ≡ term_at (map f ys) k) → map f xs ≡ map f ys
  same_all xs ys e h = same_places (map f xs) (map f ys) (size xs ∙ e ∙ sym (size ys)) (λ k l. h k (subst (λ n. k < n) (size xs) l))

  pub normal_all : (xs : List A) → ((i : ℕ) → i < length xs → IsNormalAt (map f xs) i) → IsNormal (map f xs)
  normal_all xs h = normal_places (map f xs) (λ k l. h k (subst (λ n. k < n) (size xs) l))

  pub normal_one : (xs : List A) → IsNormal (map f xs) → (i : ℕ) → i < length xs → IsNormalAt (map f xs) i
  normal_one xs n i l = places_normal (map f xs) n i (subst (λ m. i < m) (sym (size xs)) l)
