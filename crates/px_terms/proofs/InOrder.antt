-- Variables put in order.
use Rattle.std.proofs.Common.{◌≡◌, ℕ, ◌<◌, ◌≤◌, ◌+◌, ◌*◌, ◌++◌, zero, suc, List, [], ◌∷◌, length, get_or, take, drop, refl, ap, ap₂, sym, subst, ◌∙◌, arith, append_assoc, append-nil, add-one, drop-cons, inl, inr, get_or-take, length-take}
use Rattle.std.specs.Prelude.{min, max, fold}
use Rattle.std.specs.List.Sorted.{IsNonDecreasing}
use Rattle.std.specs.Ordering.{nat_cmp, ordering_then}
use Rattle.std.specs.Cmp.Lexicographic.{slice_cmp}
use Rattle.std.specs.declared.cmp.Ordering.{Ordering}
use Rattle.std.specs.declared.cmp.Ordering.TheVariants.{Less, Equal, Greater}
use Rattle.std.proofs.lemmas.Bool.{cases_lt}
use Rattle.std.proofs.lemmas.Bool.Decides.{nat_tests}
use Rattle.std.proofs.lemmas.Cmp.{nat_cmp_total, ranked, tied_itself}
use Rattle.std.proofs.Math.ListN.{set}
use Rattle.std.proofs.Math.Seq.{take-suc-set}
use Rattle.px_terms.specs.Terms.{put_among, in_order, key_cmp, product_at}

dropped_set : (xs : List ℕ) (i n a : ℕ) → drop (suc i) (take n (set xs i a)) ≡ drop (suc i) (take n xs)
dropped_set [] i n a = refl
dropped_set (x ∷ xs) i zero a = refl
dropped_set (x ∷ xs) zero (suc n) a = refl
dropped_set (x ∷ xs) (suc i) (suc n) a = dropped_set xs i n a

begins : (xs : List ℕ) (i n : ℕ) → i < n → n ≤ length xs → drop i (take n xs) ≡ get_or xs i 0 ∷ drop (suc i) (take n xs)
begins xs i n h k = drop-cons (take n xs) i 0 (rw length-take (omega arith)) ∙ ap (λ z. z ∷ drop (suc i) (take n xs)) (rw get_or-take)

-- the lesser of two is put down, and the greater is carried on
pub carried : (xs : List ℕ) (i n x a b : ℕ) → i < n → n ≤ length xs → a ≡ min (get_or xs i 0) x → b ≡ max (get_or xs i 0) x
    → take (i + 1) (set xs i a) ++ put_among (drop (i + 1) (take n (set xs i a))) b ≡ take i xs ++ put_among (drop i (take n xs)) x
carried xs i n x a b h k e f =
    ap (λ j. take j (set xs i a) ++ put_among (drop j (take n (set xs i a))) b) (add-one i)
    ∙ ap₂ (λ s r. s ++ put_among r b) (take-suc-set xs i a (omega arith)) (dropped_set xs i n a)
    ∙ append_assoc (take i xs) (a ∷ []) (put_among (drop (suc i) (take n xs)) b)
    ∙ ap₂ (λ s r. take i xs ++ (s ∷ put_among (drop (suc i) (take n xs)) r)) e f
    ∙ ap (λ z. take i xs ++ put_among z x) (sym (begins xs i n h k))

-- ---- variables in order, one after another

-- none is below x
abbrev pub AtLeast : ℕ → List ℕ → Type 0
AtLeast x [] = Unit {0}
AtLeast x (y ∷ ys) = (x ≤ y) × AtLeast x ys

abbrev pub Ordered : List ℕ → Type 0
Ordered [] = Unit {0}
Ordered (x ∷ xs) = AtLeast x xs × Ordered xs

at_least_lower : (x y : ℕ) (ys : List ℕ) → x ≤ y → AtLeast y ys → AtLeast x ys
at_least_lower x y [] h a = tt
at_least_lower x y (z ∷ zs) h a = (let k = a.0 in omega arith, at_least_lower x y zs h a.1)

at_least_put : (m x : ℕ) (ys : List ℕ) → m ≤ x → AtLeast m ys → AtLeast m (put_among ys x)
at_least_put m x [] h a = (h, tt)
at_least_put m x (y ∷ ys) h a =
    let p = a.0 in
    (omega arith, at_least_put m (max y x) ys (omega arith) a.1)

pub put_ordered : (ys : List ℕ) (x : ℕ) → Ordered ys → Ordered (put_among ys x)
put_ordered [] x o = (tt, tt)
put_ordered (y ∷ ys) x o =
    (at_least_put (min y x) (max y x) ys (omega arith) (at_least_lower (min y x) y ys (omega arith) o.0), put_ordered ys (max y x) o.1)

pub fold_ordered : (xs ys : List ℕ) → Ordered ys → Ordered (fold put_among ys xs)
fold_ordered [] ys o = o
fold_ordered (x ∷ xs) ys o = fold_ordered xs (put_among ys x) (put_ordered ys x o)

pub length-put_among : (ys : List ℕ) (x : ℕ) → length (put_among ys x) ≡ length ys + 1
length-put_among [] x = refl
length-put_among (y ∷ ys) x = let e = length-put_among ys (max y x) in omega arith

pub length-fold_put : (xs ys : List ℕ) → length (fold put_among ys xs) ≡ length ys + length xs
length-fold_put [] ys = omega arith
length-fold_put (x ∷ xs) ys = let e = length-fold_put xs (put_among ys x) in let f = length-put_among ys x in omega arith

-- a variable below all others stands first
put_first : (x : ℕ) (ys : List ℕ) → AtLeast x ys → Ordered ys → put_among ys x ≡ x ∷ ys
put_first x [] a o = refl
put_first x (y ∷ ys) a o =
    let h = a.0 in
    let e : min y x ≡ x = omega arith in
    let f : max y x ≡ y = omega arith in
    ap₂ (λ (m : ℕ) (n : ℕ). m ∷ put_among ys n) e f ∙ ap (λ z. x ∷ z) (put_first y ys o.0 o.1)

-- the same by their places
pub ordered_from : (xs : List ℕ) → IsNonDecreasing xs → Ordered xs
ordered_from [] h = tt
ordered_from (x ∷ xs) h = (above x xs (λ j l. h 0 (suc j) 0 (omega arith) (omega arith)), ordered_from xs (λ i j d l k. h (suc i) (suc j) d (omega arith) (omega arith)))
  where
    above : (x : ℕ) (xs : List ℕ) → ((j : ℕ) → j < length xs → x ≤ get_or xs j 0) → AtLeast x xs
    above x [] h = tt
    above x (y ∷ ys) h = (h 0 (omega arith), above x ys (λ j l. h (suc j) (omega arith)))

at_place : (x : ℕ) (xs : List ℕ) (j d : ℕ) → AtLeast x xs → j < length xs → x ≤ get_or xs j d
at_place x [] j d a h = absurd (omega arith)
at_place x (y ∷ ys) zero d a h = a.0
at_place x (y ∷ ys) (suc j) d a h = at_place x ys j d a.1 (omega arith)

pub non_decreasing_from : (xs : List ℕ) → Ordered xs → IsNonDecreasing xs
non_decreasing_from [] o i j d l h = absurd (omega arith)
non_decreasing_from (x ∷ xs) o zero zero d l h = omega arith
non_decreasing_from (x ∷ xs) o zero (suc j) d l h = at_place x xs j d o.0 (omega arith)
non_decreasing_from (x ∷ xs) o (suc i) zero d l h = absurd (omega arith)
non_decreasing_from (x ∷ xs) o (suc i) (suc j) d l h = non_decreasing_from xs o.1 i j d (omega arith) (omega arith)

-- ---- the order is kept where the same variable is put among both

pub nat_less : (x y : ℕ) → x < y → nat_cmp x y ≡ Less
nat_less x y h = grind (arith, nat_tests)

nat_same : (x : ℕ) → nat_cmp x x ≡ Equal
nat_same x = tied_itself nat_cmp_total x

less_after : (y z : ℕ) (ys zs : List ℕ) → y ≡ z → slice_cmp nat_cmp ys zs ≡ Less → slice_cmp nat_cmp (y ∷ ys) (z ∷ zs) ≡ Less
less_after y z ys zs e h = rw (ap (λ w. nat_cmp w z) e ∙ nat_same z) h

less_first : (y z : ℕ) (ys zs : List ℕ) → y < z → slice_cmp nat_cmp (y ∷ ys) (z ∷ zs) ≡ Less
less_first y z ys zs h = rw (nat_less y z h) refl

-- two lists of one length, the first of which stands before the second
first_decides : (o : Ordering) (x y z : ℕ) (ys zs : List ℕ) → o ≡ nat_cmp y z → AtLeast y ys → Ordered ys → AtLeast z zs → Ordered zs
    → ordering_then o (slice_cmp nat_cmp ys zs) ≡ Less
    → (slice_cmp nat_cmp ys zs ≡ Less → slice_cmp nat_cmp (put_among ys (max y x)) (put_among zs (max y x)) ≡ Less)
    → slice_cmp nat_cmp (put_among (y ∷ ys) x) (put_among (z ∷ zs) x) ≡ Less
first_decides Less x y z ys zs e ay oy az oz h g =
    let less : y < z = ranked y z Less e in
    elim (cases_lt y x) [
      | inl below ↦ less_first (min y x) (min z x) (put_among ys (max y x)) (put_among zs (max z x)) (omega arith)
      | inr above ↦
          let a : min y x ≡ min z x = omega arith in
          let b : max y x ≡ y = omega arith in
          let c : max z x ≡ z = omega arith in
          less_after (min y x) (min z x) (put_among ys (max y x)) (put_among zs (max z x)) a
          (ap₂ (λ (m : ℕ) (n : ℕ). slice_cmp nat_cmp (put_among ys m) (put_among zs n)) b c
          ∙ ap₂ (slice_cmp nat_cmp) (put_first y ys ay oy) (put_first z zs az oz)
          ∙ less_first y z ys zs less)
    ]
first_decides Equal x y z ys zs e ay oy az oz h g =
    let same : y ≡ z = ranked y z Equal e in
    less_after (min y x) (min z x) (put_among ys (max y x)) (put_among zs (max z x)) (ap (λ w. min w x) same)
    (ap (λ (w : ℕ). slice_cmp nat_cmp (put_among ys (max y x)) (put_among zs (max w x))) (sym same) ∙ g h)
first_decides Greater x y z ys zs e ay oy az oz h g = cc

put_slices : (x : ℕ) (ys zs : List ℕ) → length ys ≡ length zs → Ordered ys → Ordered zs → slice_cmp nat_cmp ys zs ≡ Less
    → slice_cmp nat_cmp (put_among ys x) (put_among zs x) ≡ Less
put_slices x [] [] l oy oz h = cc
put_slices x [] (z ∷ zs) l oy oz h = absurd (omega arith)
put_slices x (y ∷ ys) [] l oy oz h = absurd (omega arith)
put_slices x (y ∷ ys) (z ∷ zs) l oy oz h =
    first_decides (nat_cmp y z) x y z ys zs refl oy.0 oy.1 oz.0 oz.1 h (λ k. put_slices (max y x) ys zs (omega arith) oy.1 oz.1 k)

by_length : (o : Ordering) (x : ℕ) (ys zs : List ℕ) → o ≡ nat_cmp (length ys) (length zs) → Ordered ys → Ordered zs
    → ordering_then o (slice_cmp nat_cmp ys zs) ≡ Less → key_cmp (put_among ys x) (put_among zs x) ≡ Less
by_length Less x ys zs e oy oz h =
    let less : length ys < length zs = ranked (length ys) (length zs) Less e in
    let a = length-put_among ys x in
    let b = length-put_among zs x in
    rw (nat_less (length (put_among ys x)) (length (put_among zs x)) (omega arith)) refl
by_length Equal x ys zs e oy oz h =
    let same : length ys ≡ length zs = ranked (length ys) (length zs) Equal e in
    let a = length-put_among ys x in
    let b = length-put_among zs x in
    let k : length (put_among ys x) ≡ length (put_among zs x) = omega arith in
    rw (ap (λ w. nat_cmp w (length (put_among zs x))) k ∙ nat_same (length (put_among zs x))) (put_slices x ys zs same oy oz h)
by_length Greater x ys zs e oy oz h = cc

put_less : (x : ℕ) (ys zs : List ℕ) → Ordered ys → Ordered zs → key_cmp ys zs ≡ Less → key_cmp (put_among ys x) (put_among zs x) ≡ Less
put_less x ys zs oy oz h = by_length (nat_cmp (length ys) (length zs)) x ys zs refl oy oz h

-- the products of one monomial with two others stand as these do
pub fold_less : (xs ys zs : List ℕ) → Ordered ys → Ordered zs → key_cmp ys zs ≡ Less → key_cmp (fold put_among ys xs) (fold put_among zs xs) ≡ Less
fold_less [] ys zs oy oz h = h
fold_less (x ∷ xs) ys zs oy oz h =
    fold_less xs (put_among ys x) (put_among zs x) (put_ordered ys x oy) (put_ordered zs x oz) (put_less x ys zs oy oz h)

-- ---- products

least_first : (v : ℕ → ℕ) (x y p : ℕ) → v (min y x) * (v (max y x) * p) ≡ v x * (v y * p)
least_first v x y p = elim (cases_lt y x) [
  | inl h ↦ let e : min y x ≡ y = omega arith in let f : max y x ≡ x = omega arith in ap₂ (λ (a : ℕ) (b : ℕ). v a * (v b * p)) e f ∙ turned (v x) (v y) p
  | inr h ↦ let e : min y x ≡ x = omega arith in let f : max y x ≡ y = omega arith in ap₂ (λ (a : ℕ) (b : ℕ). v a * (v b * p)) e f
]
  where
    turned : (a b c : ℕ) → b * (a * c) ≡ a * (b * c)
    turned a b c = grind arith

product-put_among : (v : ℕ → ℕ) (ys : List ℕ) (x : ℕ) → product_at v (put_among ys x) ≡ v x * product_at v ys
product-put_among v [] x = refl
product-put_among v (y ∷ ys) x = ap (λ z. v (min y x) * z) (product-put_among v ys (max y x)) ∙ least_first v x y (product_at v ys)

pub product-fold_put : (v : ℕ → ℕ) (xs ys : List ℕ) → product_at v (fold put_among ys xs) ≡ product_at v ys * product_at v xs
product-fold_put v [] ys = grind arith
product-fold_put v (x ∷ xs) ys =
    product-fold_put v xs (put_among ys x) ∙ ap (λ z. z * product_at v xs) (product-put_among v ys x) ∙ grouped (v x) (product_at v ys) (product_at v xs)
  where
    grouped : (a b c : ℕ) → (a * b) * c ≡ b * (a * c)
    grouped a b c = grind arith

-- ---- what is in order stays

put_last : (ys : List ℕ) (x : ℕ) (xs : List ℕ) → Ordered (ys ++ x ∷ xs) → put_among ys x ≡ ys ++ x ∷ []
put_last [] x xs o = refl
put_last (y ∷ ys) x xs o =
    let h = below y ys o.0 in
    let e : min y x ≡ y = omega arith in
    let f : max y x ≡ x = omega arith in
    ap₂ (λ (m : ℕ) (n : ℕ). m ∷ put_among ys n) e f ∙ ap (λ z. y ∷ z) (put_last ys x xs o.1)
  where
    below : (y : ℕ) (ys : List ℕ) → AtLeast y (ys ++ x ∷ xs) → y ≤ x
    below y [] a = a.0
    below y (z ∷ zs) a = below y zs a.1

pub in_order_same : (xs : List ℕ) → Ordered xs → in_order xs ≡ xs
in_order_same xs o = onto [] xs o
  where
    onto : (ys xs : List ℕ) → Ordered (ys ++ xs) → fold put_among ys xs ≡ ys ++ xs
    onto ys [] o = sym (append-nil ys)
    onto ys (x ∷ xs) o =
        ap (λ z. fold put_among z xs) (put_last ys x xs o)
        ∙ onto (ys ++ x ∷ []) xs (subst Ordered (sym (append_assoc ys (x ∷ []) xs)) o)
        ∙ append_assoc ys (x ∷ []) xs
