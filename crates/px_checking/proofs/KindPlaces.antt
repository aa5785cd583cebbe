-- Domains that are put back stand where they stood.
use Rattle.std.proofs.Common.{◌≡◌, inl, inr, ℕ, zero, suc, ◌+◌, ◌≤◌, ◌<◌, Bool, false, not, cond, List, [], ◌∷◌, length, get_or, drop, map, refl, sym, ap, ap₂, ◌∙◌, subst, arith}
use Rattle.std.proofs.lemmas.Bool.{eq-eqb, ne_eqb, cases_lt}
use Rattle.std.proofs.lemmas.List.{get_or-map, get_or_default, length-map}
use Rattle.std.proofs.lemmas.List.Elements.{All-from_recursion, recursion_from_All}
use Rattle.std.proofs.lemmas.List.Sorted.{IsPermutation-map, IsPermutation-trans, All-permutation, sum_by-IsPermutation}
use Rattle.std.proofs.lemmas.List.Sums.{sum_by-cons, prefix_len-drop_yes, prefix_len-drop_no}
use Rattle.std.specs.Prelude.{nat_eq}
use Rattle.std.specs.List.{AllByRecursion, prefix_len, sum_by}
use Rattle.std.specs.List.Sorted.{IsPermutation, IsNonDecreasing, IsNonDecreasingBy}
use Rattle.px_checking.specs.declared.kinds.Places.{Places}
use Rattle.px_checking.proofs.KindLemmas.{kinds_rise}
use Rattle.px_loading.proofs.Loops.{all_of}
use Rattle.px_checking.specs.Kinds.{AreDifferent, AreOwnKinds, ArePlaces, place_of, rank_of}

-- ---- lists

all_by_place : {X : Type 0} (P : X → Type 0) (xs : List X) → ((i : ℕ) (d : X) → i < length xs → P (get_or xs i d)) → AllByRecursion P xs
all_by_place P [] h = tt
all_by_place P (x ∷ xs) h = (h 0 x (omega arith), all_by_place P xs (λ i d l. h (suc i) d (omega (arith, l))))

-- what is undone of each is undone of the list
undone : (f g : ℕ → ℕ) (xs : List ℕ) → AllByRecursion (λ x. g (f x) ≡ x) xs → map g (map f xs) ≡ xs
undone f g [] h = refl
undone f g (x ∷ xs) h = ap₂ (λ y ys. y ∷ ys) h.0 (undone f g xs h.1)

-- ---- rising lists of the same numbers are the same

abbrev counted : ℕ → List ℕ → ℕ
counted k xs = sum_by (λ x. cond (nat_eq x k) 1 0) xs

none_below : (k : ℕ) (xs : List ℕ) → AllByRecursion (λ x. k < x) xs → counted k xs ≡ 0
none_below k [] h = refl
none_below k (x ∷ xs) h =
    let other : nat_eq x k ≡ false = ne_eqb x k (λ e. let l = h.0 in omega (arith, e, l)) in
    let rest = none_below k xs h.1 in
    sum_by-cons (λ y. cond (nat_eq y k) 1 0) x xs ∙ ap₂ (λ b n. cond b 1 0 + n) other rest

one_more : (x : ℕ) (xs : List ℕ) → 0 < counted x (x ∷ xs)
one_more x xs =
    let e : counted x (x ∷ xs) ≡ 1 + counted x xs = sum_by-cons (λ y. cond (nat_eq y x) 1 0) x xs ∙ ap (λ b. cond b 1 0 + counted x xs) (eq-eqb x x refl) in
    omega (arith, e)

after_rises : (x : ℕ) (xs : List ℕ) → IsNonDecreasing (x ∷ xs) → IsNonDecreasing xs
after_rises x xs h i j d le lt = h (suc i) (suc j) d (omega (arith, le)) (omega (arith, lt))

-- a number below the first isn't there
too_low : (k x : ℕ) (xs : List ℕ) → IsNonDecreasing (x ∷ xs) → k < x → counted k (x ∷ xs) ≡ 0
too_low k x xs h low = none_below k (x ∷ xs) (low, all_by_place (λ y. k < y) xs (λ i d l. let least : x ≤ get_or xs i d = h 0 (suc i) d (omega arith) (omega (arith, l)) in omega (arith, low, least)))

rising_same : (xs ys : List ℕ) → IsNonDecreasing xs → IsNonDecreasing ys → ((k : ℕ) → counted k xs ≡ counted k ys) → xs ≡ ys
rising_same [] [] h k same = refl
rising_same [] (y ∷ ys) h k same = absurd (let e = same y in let some = one_more y ys in omega (arith, e, some))
rising_same (x ∷ xs) [] h k same = absurd (let e = same x in let some = one_more x xs in omega (arith, e, some))
rising_same (x ∷ xs) (y ∷ ys) h k same = ap₂ (λ z zs. z ∷ zs) first (rising_same xs ys (after_rises x xs h) (after_rises y ys k) rest)
  where
    first : x ≡ y
    first = elim (cases_lt x y) [
      | inl l ↦ absurd (let e = same x in let some = one_more x xs in let none = too_low x y ys k l in omega (arith, e, some, none))
      | inr m ↦ elim (cases_lt y x) [
        | inl l ↦ absurd (let e = same y in let some = one_more y ys in let none = too_low y x xs h l in omega (arith, e, some, none))
        | inr n ↦ omega (arith, m, n)
      ]
    ]

    rest : (n : ℕ) → counted n xs ≡ counted n ys
    rest n =
        let left = sum_by-cons (λ z. cond (nat_eq z n) 1 0) x xs in
        let right = sum_by-cons (λ z. cond (nat_eq z n) 1 0) y ys in
        let alike : ◌≡◌ {A = ℕ} (cond (nat_eq x n) 1 0) (cond (nat_eq y n) 1 0) = ap (λ z. cond (nat_eq z n) 1 0) first in
        let all = same n in
        omega (arith, left, right, alike, all)

-- ---- places and ranks

-- of different kinds each is the first of its own
place_is : (kinds : List ℕ) (i d : ℕ) → AreDifferent kinds → i < length kinds → place_of kinds (get_or kinds i d) ≡ i
place_is [] i d h l = absurd (omega (arith, l))
place_is (k ∷ kinds) zero d h l = ap (λ b. cond (not b) (1 + prefix_len (λ j. not (nat_eq j k)) kinds) 0) (eq-eqb k k refl)
place_is (k ∷ kinds) (suc i) d h l =
    let below : i < length kinds = omega (arith, l) in
    let here = get_or kinds i d in
    ap (λ b. cond (not b) (1 + prefix_len (λ j. not (nat_eq j here)) kinds) 0) (all_of (λ j. nat_eq k j ≡ false) kinds i d h.0 below)
    ∙ ap (λ n. 1 + n) (place_is kinds i d h.1 below) ∙ (let e : 1 + i ≡ suc i = omega arith in e)

rank_is : (kinds : List ℕ) (places : Places) (k : ℕ) → ArePlaces kinds places → (1 ≤ k) × (k ≤ 3) → rank_of places k ≡ place_of kinds k
rank_is kinds places zero h r = absurd (let low = r.0 in omega (arith, low))
rank_is kinds places (suc zero) h r = h.one
rank_is kinds places (suc (suc zero)) h r = h.two
rank_is kinds places (suc (suc (suc zero))) h r = h.three
rank_is kinds places (suc (suc (suc (suc k)))) h r = absurd (let high = r.1 in omega (arith, high))

module _ (kinds : List ℕ) (places : Places) (own : AreOwnKinds kinds) (are : ArePlaces kinds places) where
  rank_at : (i d : ℕ) → i < length kinds → rank_of places (get_or kinds i d) ≡ i
  rank_at i d l = rank_is kinds places (get_or kinds i d) are (all_of (λ k. (1 ≤ k) × (k ≤ 3)) kinds i d own.0 l) ∙ place_is kinds i d own.1 l

  -- what stood at the rank of a kind is that kind
  found : AllByRecursion (λ k. get_or kinds (rank_of places k) 0 ≡ k) kinds
  found = all_by_place (λ k. get_or kinds (rank_of places k) 0 ≡ k) kinds (λ i d l. ap (λ n. get_or kinds n 0) (rank_at i d l) ∙ get_or_default kinds i 0 d l)

  ranks_rise : IsNonDecreasing (map (rank_of places) kinds)
  ranks_rise i j d le lt =
      let many = length-map kinds (rank_of places) in
      let second : j < length kinds = omega (arith, many, lt) in
      let first : i < length kinds = omega (arith, second, le) in
      let a : get_or (map (rank_of places) kinds) i d ≡ i = get_or_default (map (rank_of places) kinds) i d (rank_of places 0) (omega (arith, many, first)) ∙ get_or-map (rank_of places) kinds i 0 (rank_of places 0) first ∙ rank_at i 0 first in
      let b : get_or (map (rank_of places) kinds) j d ≡ j = get_or_default (map (rank_of places) kinds) j d (rank_of places 0) (omega (arith, many, second)) ∙ get_or-map (rank_of places) kinds j 0 (rank_of places 0) second ∙ rank_at j 0 second in
      omega (arith, a, b, le)

  -- the same kinds in another order, whose ranks rise, stand as they stood
  stand_as_before : (others : List ℕ) → IsPermutation kinds others → IsNonDecreasing (map (rank_of places) others) → others ≡ kinds
  stand_as_before others same rising =
      let back = λ (n : ℕ). get_or kinds n 0 in
      let ranks = IsPermutation-map (rank_of places) kinds others same in
      let alike : map (rank_of places) others ≡ map (rank_of places) kinds = rising_same _ _ rising ranks_rise (λ k. sum_by-IsPermutation (λ x. cond (nat_eq x k) 1 0) _ _ ranks) in
      let each : AllByRecursion (λ k. back (rank_of places k) ≡ k) others = recursion_from_All _ others (All-permutation (λ k. back (rank_of places k) ≡ k) kinds others same (All-from_recursion _ kinds found)) in
      sym (undone (rank_of places) back others each) ∙ ap (map back) alike ∙ undone (rank_of places) back kinds found

-- what rises by the rank of its number has numbers whose ranks rise
rise_twice : {X : Type 0} (number : X → ℕ) (rank : ℕ → ℕ) (xs : List X) → IsNonDecreasingBy (λ x. rank (number x)) xs → IsNonDecreasing (map rank (map number xs))
rise_twice {X = X} number rank xs h = subst IsNonDecreasing (sym (twice xs)) (kinds_rise (λ x. rank (number x)) xs h)
  where
    twice : (ys : List X) → map rank (map number ys) ≡ map (λ x. rank (number x)) ys
    twice [] = refl
    twice (y ∷ ys) = ap (λ zs. rank (number y) ∷ zs) (twice ys)

-- domains that were sorted by the places of their kinds
pub stand_back : {X : Type 0} (number : X → ℕ) (kinds : List ℕ) (places : Places) → AreOwnKinds kinds → ArePlaces kinds places → (xs ys : List X) → IsPermutation kinds (map number xs) → IsPermutation xs ys →
    IsNonDecreasingBy (λ x. rank_of places (number x)) ys → map number ys ≡ kinds
stand_back number kinds places own are xs ys same moved rising =
    stand_as_before kinds places own are (map number ys) (IsPermutation-trans kinds (map number xs) (map number ys) same (IsPermutation-map number xs ys moved)) (rise_twice number (rank_of places) ys rising)

-- ---- the search for a place

abbrev pub differs : ℕ → ℕ → Bool
differs kind k = not (nat_eq k kind)

module _ {X : Type 0} (number : X → ℕ) (kind : ℕ) (xs : List X) (i : ℕ) (x : X) (below : i < length xs) (is : x ≡ get_or xs i x) where
  within : i < length (map number xs)
  within = let many = length-map xs number in omega (arith, many, below)

  here : get_or (map number xs) i (number x) ≡ number x
  here = get_or-map number xs i x (number x) below ∙ ap number (sym is)

  pub stands : number x ≡ kind → place_of (map number xs) kind ≡ i + prefix_len (differs kind) (drop i (map number xs)) → place_of (map number xs) kind ≡ i
  stands e h =
      let none = prefix_len-drop_no (differs kind) (map number xs) i (number x) within (ap (differs kind) here ∙ ap not (eq-eqb (number x) kind e)) in
      omega (arith, h, none)

  pub goes_on : (number x ≡ kind → ⊥) → place_of (map number xs) kind ≡ i + prefix_len (differs kind) (drop i (map number xs)) →
      place_of (map number xs) kind ≡ i + 1 + prefix_len (differs kind) (drop (i + 1) (map number xs))
  goes_on other h =
      let more = prefix_len-drop_yes (differs kind) (map number xs) i (number x) within (ap (differs kind) here ∙ ap not (ne_eqb (number x) kind other)) in
      omega (arith, h, more)
