-- A variable gets a mark.
use Rattle.std.proofs.Common.{◌≡◌, ◌≢◌, ◌⊎◌, inl, inr, ℕ, ◌-◌, ◌<◌, ◌≤◌, List, [], ◌∷◌, ◌++◌, length, set, refl, sym, ap, subst, ◌∙◌, arith, length-set}
use Rattle.std.specs.Prelude.{ℤ, All, Bool, true, false}
use Rattle.std.proofs.lemmas.Bool.{cases_eq}
use Rattle.std.proofs.lemmas.Int.{ints}
use Rattle.std.proofs.lemmas.List.{get_or_append_left, get_or_push, length_push, get_or-set_same, get_or-set_other}
use Rattle.std.proofs.lemmas.List.Elements.{All-push}
use Rattle.std.proofs.lemmas.List.Sums.{sum_by-set}
use Rattle.px_order.specs.declared.comparisons.Comparison.{Comparison}
use Rattle.px_order.specs.declared.search.Mark.{Mark}
use Rattle.px_order.specs.declared.search.Mark.TheVariants.{New, AtLeast, Greater}
use Rattle.px_order.specs.Comparisons.{IsOrdered, Holds}
use Rattle.px_order.specs.Searches.{mark_at, strength, carried, IsAsMarked, AreWarranted, IsWaiting, AreReached, IsHandled, work, Raises, stays, rises}

-- ---- marks

strength_most : (m : Mark) → strength m ≤ 2
strength_most New = omega arith
strength_most AtLeast = omega arith
strength_most Greater = omega arith

pub strength_none : (m : Mark) → strength m ≡ 0 → m ≡ New
strength_none New e = refl
strength_none AtLeast e = absurd (omega arith)
strength_none Greater e = absurd (omega arith)

-- along a comparison values are as the marks say
pub as_carried : (m : Mark) (strict : Bool) (t a b : ℤ) → IsAsMarked m t a → IsOrdered strict a b → IsAsMarked (carried m strict) t b
as_carried New strict t a b h o = tt
as_carried AtLeast true t a b h o = omega (arith, ints)
as_carried AtLeast false t a b h o = omega (arith, ints)
as_carried Greater true t a b h o = omega (arith, ints)
as_carried Greater false t a b h o = omega (arith, ints)

-- ---- places that wait

waiting_more : (r : List ℕ) (x y from : ℕ) → IsWaiting r from y → IsWaiting (r ++ x ∷ []) from y
waiting_more r x y from (i, a, b, e) = let p = length_push r x in (i, a, omega arith, get_or_append_left r (x ∷ []) 0 i b ∙ e)

waiting_last : (r : List ℕ) (x from : ℕ) → from ≤ length r → IsWaiting (r ++ x ∷ []) from x
waiting_last r x from l = let p = length_push r x in (length r, l, omega arith, get_or_push r x 0 (length r) refl)

pub waiting_earlier : (r : List ℕ) (x from later : ℕ) → from ≤ later → IsWaiting r later x → IsWaiting r from x
waiting_earlier r x from later l (i, a, b, e) = (i, omega arith, b, e)

-- ---- what a mark changes

-- a variable has a mark that says as much as m, and what waits for that is among those reached
pub record IsRaised (x : ℕ) (m : Mark) (old new : List Mark) (r s : List ℕ) : Type 0 where
  pub size : length new ≡ length old
  pub longer : length r ≤ length s
  pub own : strength m ≤ strength (mark_at new x)
  pub grows : (y : ℕ) → strength (mark_at old y) ≤ strength (mark_at new y)
  -- no mark is another than before, but for that of x
  pub others : (y : ℕ) → (mark_at new y ≡ mark_at old y) ⊎ ((y ≡ x) × (mark_at new y ≡ m))
  -- a variable whose mark is another waits
  pub waits : (from y : ℕ) → from ≤ length r → (mark_at new y ≡ mark_at old y) ⊎ IsWaiting s from y
  pub still_waits : (from y : ℕ) → IsWaiting r from y → IsWaiting s from y
  pub reached : AreReached old r → AreReached new s
  pub less : work new s ≤ work old r

module _ (x : ℕ) (m : Mark) (old : List Mark) (r : List ℕ) (inside : x < length old) where
  unchanged : strength m ≤ strength (mark_at old x) → IsRaised x m old old r r
  unchanged l = record {
    size = refl;
    longer = omega arith;
    own = l;
    grows = λ y. omega arith;
    others = λ y. inl refl;
    waits = λ from y p. inl refl;
    still_waits = λ from y w. w;
    reached = λ h. h;
    less = omega arith;
  }

  module _ (less_known : strength (mark_at old x) < strength m) where
    abbrev New_marks : List Mark
    New_marks = set old x m

    abbrev Now : List ℕ
    Now = r ++ x ∷ []

    at_x : mark_at New_marks x ≡ m
    at_x = get_or-set_same old x m New inside

    elsewhere : (y : ℕ) → y ≢ x → mark_at New_marks y ≡ mark_at old y
    elsewhere y d = get_or-set_other old x y m New d

    still_reached : AreReached old r → AreReached New_marks Now
    still_reached h = record {
      inside = subst (λ n. All (λ y. y < n) Now) (sym (length-set old x m)) (All-push (λ y. y < length old) r x h.inside inside);
      listed = λ y p. elim (cases_eq y x) [
        | inl e ↦ subst (IsWaiting Now 0) (sym e) (waiting_last r x 0 (omega arith))
        | inr d ↦ (let k = ap strength (elsewhere y d) in waiting_more r x y 0 (h.listed y (omega arith)))
      ];
    }

    changed : IsRaised x m old New_marks r Now
    changed = record {
      size = length-set old x m;
      longer = let p = length_push r x in omega arith;
      own = let k = ap strength at_x in omega arith;
      grows = λ y. elim (cases_eq y x) [
        | inl e ↦ subst (λ z. strength (mark_at old z) ≤ strength (mark_at New_marks z)) (sym e) (let k = ap strength at_x in omega arith)
        | inr d ↦ (let k = ap strength (elsewhere y d) in omega arith)
      ];
      others = λ y. elim (cases_eq y x) [
        | inl e ↦ inr (e, ap (mark_at New_marks) e ∙ at_x)
        | inr d ↦ inl (elsewhere y d)
      ];
      waits = λ from y p. elim (cases_eq y x) [
        | inl e ↦ inr (subst (IsWaiting Now from) (sym e) (waiting_last r x from p))
        | inr d ↦ inl (elsewhere y d)
      ];
      still_waits = λ from y w. waiting_more r x y from w;
      reached = still_reached;
      less =
          let k = sum_by-set (λ q. 2 - strength q) old x m New inside in
          let p = length_push r x in
          let u = strength_most m in
          omega arith;
    }

pub raised : (x : ℕ) (m : Mark) (old new : List Mark) (r s : List ℕ) → x < length old → Raises x m old new r s → IsRaised x m old new r s
raised x m old new r s inside (stays l e f) = subst (λ ms. IsRaised x m old ms r s) (sym e) (subst (IsRaised x m old old r) (sym f) (unchanged x m old r inside l))
raised x m old new r s inside (rises l e f) = subst (λ ms. IsRaised x m old ms r s) (sym e) (subst (IsRaised x m old (set old x m) r) (sym f) (changed x m old r inside l))

module _ {x : ℕ} {m : Mark} {old new : List Mark} {r s : List ℕ} (h : IsRaised x m old new r s) where
  -- a comparison that was handled still is
  pub still_handled : (next : ℕ) (c : Comparison) → next ≤ length r → IsHandled old r next c → IsHandled new s next c
  still_handled next c l (inl d) = elim (h.waits next c.first l) [
    | inl e ↦ inl (let k = h.grows c.second in subst (λ q. strength (carried q c.strict) ≤ strength (mark_at new c.second)) (sym e) (omega arith))
    | inr w ↦ inr w
  ]
  still_handled next c l (inr w) = inr (h.still_waits next c.first w)

  -- all marks are warranted where the new one is
  pub still_warranted : (cs : List Comparison) (c : Comparison)
      → ((v : ℕ → ℤ) (t : ℤ) → All (Holds v) cs → IsOrdered c.strict t (v c.second) → IsAsMarked m t (v x)) → AreWarranted cs c old → AreWarranted cs c new
  still_warranted cs c own w = record {
    marked = λ v t all o y. elim (h.others y) [
      | inl e ↦ subst (λ q. IsAsMarked q t (v y)) (sym e) (w.marked v t all o y)
      | inr (e, f) ↦ subst (λ q. IsAsMarked q t (v y)) (sym f) (subst (λ z. IsAsMarked m t (v z)) (sym e) (own v t all o))
    ];
  }
