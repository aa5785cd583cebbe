-- A comparison beside others: they have no solution where its first variable follows to be greater than itself, and else one
-- is made of each solution of the others.
use Rattle.std.proofs.Common.{◌≡◌, ◌≢◌, ℕ, ◌+◌, ◌<◌, ◌≤◌, List, [], ◌∷◌, ◌++◌, length, get_or, refl, sym, ap, subst, ◌∙◌, arith}
use Rattle.std.specs.Prelude.{ℤ, pos, negsuc, ◌+ℤ◌, ◌-ℤ◌, ◌<ℤ◌, All, Bool, true, false, Some}
use Rattle.std.specs.Int.{int_max}
use Rattle.std.proofs.lemmas.Int.{ints, clamps}
use Rattle.std.proofs.lemmas.List.{get_or_default}
use Rattle.std.proofs.lemmas.List.Elements.{All-push, All-pop}
use Rattle.px_order.specs.declared.comparisons.Comparison.{Comparison}
use Rattle.px_order.specs.declared.search.Mark.{Mark}
use Rattle.px_order.specs.declared.search.Mark.TheVariants.{New, AtLeast, Greater}
use Rattle.px_order.specs.Comparisons.{IsOrdered, Holds, HaveNoSolution, comparison_at}
use Rattle.px_order.specs.Searches.{mark_at, strength, carried, IsAsMarked, AreWarranted, AreCarried}

-- ---- values

-- the value of a variable that is marked so, beside t: raised to t, or by k
abbrev lifted : Mark → ℕ → ℤ → ℤ → ℤ
lifted New k t n = n
lifted AtLeast k t n = int_max t n
lifted Greater k t n = n +ℤ pos k

-- some number takes b beyond a
beyond : (a b : ℤ) → (k : ℕ) × (a <ℤ (b +ℤ pos k))
beyond (pos m) (pos n) = (m + 1, omega (arith, ints))
beyond (pos m) (negsuc n) = (m + n + 2, omega (arith, ints))
beyond (negsuc m) (pos n) = (0, omega (arith, ints))
beyond (negsuc m) (negsuc n) = (n + 1, omega (arith, ints))

-- what a comparison carries on is known: where it held, it holds of the lifted values
still_ordered : (strict : Bool) (m n : Mark) (k : ℕ) (t p q : ℤ) → strength (carried m strict) ≤ strength n → (n ≡ Greater → t <ℤ (q +ℤ pos k))
    → IsOrdered strict p q → IsOrdered strict (lifted m k t p) (lifted n k t q)
still_ordered true New New k t p q l g o = o
still_ordered true New AtLeast k t p q l g o = omega (arith, ints, clamps)
still_ordered true New Greater k t p q l g o = omega (arith, ints)
still_ordered true AtLeast New k t p q l g o = absurd (omega arith)
still_ordered true AtLeast AtLeast k t p q l g o = absurd (omega arith)
still_ordered true AtLeast Greater k t p q l g o = let h = g refl in omega (arith, ints, clamps)
still_ordered true Greater New k t p q l g o = absurd (omega arith)
still_ordered true Greater AtLeast k t p q l g o = absurd (omega arith)
still_ordered true Greater Greater k t p q l g o = omega (arith, ints)
still_ordered false New New k t p q l g o = o
still_ordered false New AtLeast k t p q l g o = omega (arith, ints, clamps)
still_ordered false New Greater k t p q l g o = omega (arith, ints)
still_ordered false AtLeast New k t p q l g o = absurd (omega arith)
still_ordered false AtLeast AtLeast k t p q l g o = omega (arith, ints, clamps)
still_ordered false AtLeast Greater k t p q l g o = let h = g refl in omega (arith, ints, clamps)
still_ordered false Greater New k t p q l g o = absurd (omega arith)
still_ordered false Greater AtLeast k t p q l g o = absurd (omega arith)
still_ordered false Greater Greater k t p q l g o = omega (arith, ints)

-- the new comparison holds of the lifted values, the first of which is t
new_ordered : (strict : Bool) (m n : Mark) (k : ℕ) (t q : ℤ) → m ≢ Greater → strength (carried AtLeast strict) ≤ strength n → (n ≡ Greater → t <ℤ (q +ℤ pos k))
    → IsOrdered strict (lifted m k t t) (lifted n k t q)
new_ordered strict Greater n k t q d l g = absurd (d refl)
new_ordered true m New k t q d l g = absurd (omega arith)
new_ordered true m AtLeast k t q d l g = absurd (omega arith)
new_ordered true New Greater k t q d l g = g refl
new_ordered true AtLeast Greater k t q d l g = let h = g refl in omega (arith, ints, clamps)
new_ordered false m New k t q d l g = absurd (omega arith)
new_ordered false New AtLeast k t q d l g = omega (arith, ints, clamps)
new_ordered false AtLeast AtLeast k t q d l g = omega (arith, ints, clamps)
new_ordered false New Greater k t q d l g = let h = g refl in omega (arith, ints)
new_ordered false AtLeast Greater k t q d l g = let h = g refl in omega (arith, ints, clamps)

-- whether strict or not, one less is less
one_less : (strict : Bool) (n : ℤ) → IsOrdered strict (n -ℤ pos 1) n
one_less true n = omega (arith, ints)
one_less false n = omega (arith, ints)

greater_only : (m : Mark) → 2 ≤ strength m → m ≡ Greater
greater_only New l = absurd (omega arith)
greater_only AtLeast l = absurd (omega arith)
greater_only Greater l = refl

never_less : (n : ℤ) → ¬ (n <ℤ n)
never_less n h = omega (arith, ints)

-- ---- solutions

module _ (cs : List Comparison) (new : Comparison) (marks : List Mark) (warranted : AreWarranted cs new marks) where
  both : (v : ℕ → ℤ) → All (Holds v) (cs ++ new ∷ []) → All (Holds v) cs × Holds v new
  both v h = All-pop (Holds v) (cs ++ new ∷ []) cs (Some new) refl h

  pub none_solves : mark_at marks new.first ≡ Greater → HaveNoSolution (cs ++ new ∷ [])
  none_solves e v h =
      let (all, o) = both v h in
      never_less (v new.first) (subst (λ m. IsAsMarked m (v new.first) (v new.first)) e (warranted.marked v (v new.first) all o new.first))

  module _ (all_carried : AreCarried cs marks) (begun : strength (carried AtLeast new.strict) ≤ strength (mark_at marks new.second)) (free : mark_at marks new.first ≢ Greater)
      (v : ℕ → ℤ) (all : All (Holds v) cs) where
    -- what is greater is taken beyond the first variable
    above : (k : ℕ) → v new.first <ℤ (v new.second +ℤ pos k) → (z : ℕ) → mark_at marks z ≡ Greater → v new.first <ℤ (v z +ℤ pos k)
    above k l z e =
        let m : (v new.second -ℤ pos 1) <ℤ v z = subst (λ q. IsAsMarked q (v new.second -ℤ pos 1) (v z)) e
        (warranted.marked v (v new.second -ℤ pos 1) all (one_less new.strict (v new.second)) z) in
        omega (arith, ints)

    -- a solution of all
    abbrev values : ℕ → ℕ → ℤ
    values k z = lifted (mark_at marks z) k (v new.first) (v z)

    solves : (k : ℕ) → v new.first <ℤ (v new.second +ℤ pos k) → All (Holds (values k)) (cs ++ new ∷ [])
    solves k l =
        All-push (Holds (values k)) cs new
        (λ i d m. old (get_or cs i d) i m (get_or_default cs i d (record { first = 0; second = 0; strict = false }) m))
        (new_ordered new.strict (mark_at marks new.first) (mark_at marks new.second) k (v new.first) (v new.second) free begun (above k l new.second))
      where
        old : (c : Comparison) (i : ℕ) → i < length cs → c ≡ comparison_at cs i → Holds (values k) c
        old c i m e =
            let b = comparison_at cs i in
            subst (Holds (values k)) (sym e)
            (still_ordered b.strict (mark_at marks b.first) (mark_at marks b.second) k (v new.first) (v b.first) (v b.second) (all_carried i m) (above k l b.second)
            (all i (record { first = 0; second = 0; strict = false }) m))

    pub solved : ¬ HaveNoSolution (cs ++ new ∷ [])
    solved none = let (k, l) = beyond (v new.first) (v new.second) in none (values k) (solves k l)

-- by the mark of the first variable
pub answered : (cs : List Comparison) (new : Comparison) (marks : List Mark) (n : ℕ) → n ≡ strength (mark_at marks new.first) → AreWarranted cs new marks
    → n ≡ 2 → HaveNoSolution (cs ++ new ∷ [])
answered cs new marks n e warranted two = none_solves cs new marks warranted (greater_only (mark_at marks new.first) (omega arith))

pub unanswered : (cs : List Comparison) (new : Comparison) (marks : List Mark) (n : ℕ) → n ≡ strength (mark_at marks new.first) → AreWarranted cs new marks
    → AreCarried cs marks → strength (carried AtLeast new.strict) ≤ strength (mark_at marks new.second) → n ≢ 2 → HaveNoSolution (cs ++ new ∷ []) → HaveNoSolution cs
unanswered cs new marks n e warranted all_carried begun d none v all =
    solved cs new marks warranted all_carried begun (λ f. d (e ∙ ap strength f)) v all none
