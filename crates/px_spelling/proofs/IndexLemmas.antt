-- The first place of a polynomial, as it is found among places in their order.
use Rattle.std.proofs.Common.{◌≡◌, ℕ, zero, suc, ◌+◌, ◌<◌, ◌≤◌, List, [], ◌∷◌, ◌++◌, length, Bool, true, false, cond, Option, Some, None, refl, sym, ap, subst, ◌∙◌, ⊎_elim, arith}
use Rattle.std.specs.Prelude.{slice_get, slice_index_or}
use Rattle.std.specs.List.{AllByRecursion, Contains}
use Rattle.std.specs.List.Sorted.{IsPartitionedBy, IsPartitionPoint}
use Rattle.std.specs.declared.cmp.Ordering.{Ordering}
use Rattle.std.specs.declared.cmp.Ordering.TheVariants.{Less, Equal, Greater}
use Rattle.std.specs.Ordering.{ordering_reverse, ordering_then, nat_cmp, is_lt, is_eq, MatchOrdering}
use Rattle.std.specs.Option.{option_cmp, option_map}
use Rattle.std.specs.Cmp.{IsTotalOrder, IsStrictWeakOrder}
use Rattle.std.specs.Cmp.Lexicographic.{options_total}
use Rattle.std.proofs.lemmas.Option.{same_Some, slice_get_within}
use Rattle.std.proofs.lemmas.Bool.{cases_lt, cases_Bool}
use Rattle.std.proofs.lemmas.Cmp.{nat_cmp_total, on_total, then_total, tied_itself, ranked}
use Rattle.std.proofs.lemmas.List.{get_or_default}
use Rattle.std.proofs.lemmas.List.Elements.{Contains-append_left, Contains-push}
use Rattle.std.proofs.lemmas.List.Sorted.{ranks_by, sorted_far}
use Rattle.px_terms.specs.Polynomials.{Polynomial}
use Rattle.px_spelling.specs.ByPlace.{polynomial_cmp, is_same, Differ, place_in, order_at, place_cmp, IsIndex}
use Rattle.px_spelling.proofs.PlaceLemmas.{polynomial_total, only_same, same_itself, found}

-- ---- places in a list

all_get : (P : Polynomial → Type 0) (ps : List Polynomial) (n : ℕ) (p : Polynomial) → AllByRecursion P ps → slice_get ps n ≡ Some p → P p
all_get P [] n p all e = cc
all_get P (q ∷ qs) zero p all e = subst P (same_Some q p e) all.0
all_get P (q ∷ qs) (suc n) p all e = all_get P qs n p all.1 e

-- what stands at a place has that place, where no two are the same
pub own_place : (ps : List Polynomial) (n : ℕ) (p : Polynomial) → Differ ps → slice_get ps n ≡ Some p → place_in ps p ≡ Some n
own_place [] n p h e = cc
own_place (q ∷ qs) zero p h e = subst (λ x. place_in (q ∷ qs) x ≡ Some 0) (same_Some q p e) (rw (same_itself q) refl)
own_place (q ∷ qs) (suc n) p h e = rw (all_get (λ r. is_same q r ≡ false) qs n p h.0 e, own_place qs n p h.1 e) refl

at_most : (b : Bool) (r : Option ℕ) (n : ℕ) → (m : ℕ) × (r ≡ Some m) × (m ≤ n) → (k : ℕ) × (cond b (Some 0) (option_map suc r) ≡ Some k) × (k ≤ suc n)
at_most true r n w = (0, refl, omega arith)
at_most false r n w = (suc w.0, ap (option_map suc) w.1, omega (arith, w.2))

at_front : (b : Bool) (r : Option ℕ) → b ≡ true → (k : ℕ) × (cond b (Some 0) (option_map suc r) ≡ Some k) × (k ≤ 0)
at_front true r e = (0, refl, omega arith)
at_front false r e = absurd cc

-- what stands at a place has no later one
pub place_at_most : (ps : List Polynomial) (n : ℕ) (p : Polynomial) → slice_get ps n ≡ Some p → (m : ℕ) × (place_in ps p ≡ Some m) × (m ≤ n)
place_at_most [] n p e = absurd cc
place_at_most (q ∷ qs) zero p e = at_front (is_same q p) (place_in qs p) (subst (λ x. is_same q x ≡ true) (same_Some q p e) (same_itself q))
place_at_most (q ∷ qs) (suc n) p e = at_most (is_same q p) (place_in qs p) n (place_at_most qs n p e)

-- each number below is there, and one more is added
pub one_more_there : (ks more : List ℕ) (i : ℕ) → more ≡ ks ++ i ∷ [] → ((n : ℕ) → n < i → Contains ks n) → (n : ℕ) → n < i + 1 → Contains more n
one_more_there ks more i e h n lt =
    ⊎_elim (λ (l : n < i). subst (λ xs. Contains xs n) (sym e) (Contains-append_left ks (i ∷ []) n (h n l)))
    (λ (l : i ≤ n).
    let same : i ≡ n = omega arith in
    subst (λ xs. Contains xs n) (sym e) (subst (λ m. Contains (ks ++ i ∷ []) m) same (Contains-push ks i)))
    (cases_lt n i)

-- ---- places in their order

index_default : (ks : List ℕ) (i d e : ℕ) → i < length ks → slice_index_or ks i d ≡ slice_index_or ks i e
index_default ks i d e lt = get_or_default ks i d e lt

-- the order of what stands at two places
abbrev pub stand_cmp : List Polynomial → ℕ → ℕ → Ordering
stand_cmp ts i j = option_cmp polynomial_cmp (slice_get ts i) (slice_get ts j)

pub stand_total : (ts : List Polynomial) → IsTotalOrder (stand_cmp ts)
stand_total ts = on_total (slice_get ts) (options_total polynomial_total)

pub place_total : (ts : List Polynomial) → IsTotalOrder (place_cmp ts)
place_total ts = then_total {R = stand_cmp ts} {S = nat_cmp} (stand_total ts) nat_cmp_total

pub place_weak : (ts : List Polynomial) → IsStrictWeakOrder (λ i j. is_lt (place_cmp ts i j))
place_weak ts = ranks_by (place_total ts) (λ (i : ℕ). i)

-- a later place is not before an earlier one
pub later_place : (ts : List Polynomial) (ks : List ℕ) → IsIndex ts ks → (i j d : ℕ) → i ≤ j → j < length ks
    → is_lt (place_cmp ts (slice_index_or ks j d) (slice_index_or ks i d)) ≡ false
later_place ts ks h i j d le lt = sorted_far (λ i j. is_lt (place_cmp ts i j)) (place_weak ts) ks h.sorted i j d le lt

less_first : (o : Ordering) (p : Ordering) → is_lt o ≡ true → is_lt (ordering_then o p) ≡ true
less_first Less p e = refl
less_first Equal p e = cc
less_first Greater p e = cc

not_less : (o : Ordering) (p : Ordering) → is_lt (ordering_then o p) ≡ false → is_lt o ≡ false
not_less Less p e = cc
not_less Equal p e = refl
not_less Greater p e = refl

-- what stands at it isn't before, either
pub later_stands : (ts : List Polynomial) (ks : List ℕ) → IsIndex ts ks → (i j d : ℕ) → i ≤ j → j < length ks
    → is_lt (stand_cmp ts (slice_index_or ks j d) (slice_index_or ks i d)) ≡ false
later_stands ts ks h i j d le lt =
    not_less (stand_cmp ts (slice_index_or ks j d) (slice_index_or ks i d)) (nat_cmp (slice_index_or ks j d) (slice_index_or ks i d)) (later_place ts ks h i j d le lt)

-- ---- against one polynomial

is_less : (o : Ordering) → is_lt o ≡ true → o ≡ Less
is_less Less e = refl
is_less Equal e = cc
is_less Greater e = cc

weak : IsStrictWeakOrder (λ (a b : Option Polynomial). is_lt (option_cmp polynomial_cmp a b))
weak = ranks_by (options_total polynomial_total) (λ (a : Option Polynomial). a)

-- no place that is before a polynomial comes after one that isn't
pub parted : (ts : List Polynomial) (ks : List ℕ) (p : Polynomial) → IsIndex ts ks → IsPartitionedBy (λ k. is_lt (order_at ts p k)) ks
parted ts ks p h i j d le lt less =
    ⊎_elim (λ e. e)
    (λ (e : is_lt (order_at ts p (slice_index_or ks i d)) ≡ false).
    let chained : is_lt (order_at ts p (slice_index_or ks j d)) ≡ false =
    weak.chain (slice_get ts (slice_index_or ks j d)) (slice_get ts (slice_index_or ks i d)) (Some p) (later_stands ts ks h i j d le lt) e in
    cc)
    (cases_Bool (is_lt (order_at ts p (slice_index_or ks i d))))

-- where the places that are before it end
abbrev pub IsEndOf : List Polynomial → List ℕ → Polynomial → ℕ → Type 0
IsEndOf ts ks p i = IsPartitionPoint (λ k. is_lt (order_at ts p k) ≡ true) (λ k. is_lt (order_at ts p k) ≡ false) ks i

equal_stands : (p : Polynomial) (a : Option Polynomial) → is_eq (option_cmp polynomial_cmp a (Some p)) ≡ true → a ≡ Some p
equal_stands p None h = cc
equal_stands p (Some q) h = ap Some (only_same q p (is_equal (polynomial_cmp q p) h))
  where
    is_equal : (o : Ordering) → is_eq o ≡ true → o ≡ Equal
    is_equal Less e = cc
    is_equal Equal e = refl
    is_equal Greater e = cc

stands_equal : (p : Polynomial) (a : Option Polynomial) → a ≡ Some p → option_cmp polynomial_cmp a (Some p) ≡ Equal
stands_equal p a h = rw h (tied_itself polynomial_total p)

-- A place of a polynomial is among the places from that end on.
record Behind (ts : List Polynomial) (ks : List ℕ) (p : Polynomial) (i m : ℕ) : Type 0 where
  at : ℕ
  below : at < length ks
  from : i ≤ at
  is : slice_index_or ks at m ≡ m

behind : (ts : List Polynomial) (ks : List ℕ) (p : Polynomial) (i m : ℕ) → IsIndex ts ks → IsEndOf ts ks p i → slice_get ts m ≡ Some p → Behind ts ks p i m
behind ts ks p i m h end stands =
    let k = h.all m (slice_get_within ts m p stands) in
    let equal : order_at ts p (slice_index_or ks k.0 m) ≡ Equal = rw k.2 (stands_equal p (slice_get ts m) stands) in
    record {
      at = k.0;
      below = k.1;
      from = ⊎_elim
          (λ (l : k.0 < i).
          let less = end.0 k.0 m (omega arith) l in
          let both : true ≡ false = sym less ∙ ap is_lt equal in
          absurd cc)
          (λ (l : i ≤ k.0). l)
          (cases_lt k.0 i);
      is = k.2;
    }

-- where each place is before it, it is nowhere
pub past_all : (ts : List Polynomial) (ks : List ℕ) (p : Polynomial) (i : ℕ) → IsIndex ts ks → IsEndOf ts ks p i → length ks ≤ i → place_in ts p ≡ None
past_all ts ks p i h end far = by_place (place_in ts p) refl
  where
    by_place : (r : Option ℕ) → place_in ts p ≡ r → r ≡ None
    by_place None e = refl
    by_place (Some m) e =
        let b = behind ts ks p i m h end (found ts p m e) in
        absurd (omega (arith, b.below, b.from, far))

-- where another one stands at that end, it is nowhere
pub other_there : (ts : List Polynomial) (ks : List ℕ) (p : Polynomial) (i d : ℕ) → IsIndex ts ks → IsEndOf ts ks p i → i < length ks
    → is_eq (order_at ts p (slice_index_or ks i d)) ≡ false → place_in ts p ≡ None
other_there ts ks p i d h end lt other = by_place (place_in ts p) refl
  where
    -- neither before nor the same: after
    after : (q : Option Polynomial) → is_lt (option_cmp polynomial_cmp q (Some p)) ≡ false → is_eq (option_cmp polynomial_cmp q (Some p)) ≡ false
        → is_lt (option_cmp polynomial_cmp (Some p) q) ≡ true
    after q not_before not_same =
        ap is_lt ((options_total polynomial_total).antisymm (Some p) q) ∙ turned (option_cmp polynomial_cmp q (Some p)) not_before not_same
      where
        turned : (o : Ordering) → is_lt o ≡ false → is_eq o ≡ false → is_lt (ordering_reverse o) ≡ true
        turned Less a b = cc
        turned Equal a b = cc
        turned Greater a b = refl

    by_place : (r : Option ℕ) → place_in ts p ≡ r → r ≡ None
    by_place None e = refl
    by_place (Some m) e =
        let stands : slice_get ts m ≡ Some p = found ts p m e in
        let b = behind ts ks p i m h end stands in
        let before = after (slice_get ts (slice_index_or ks i d)) (end.1 i d (omega arith) lt) other in
        let later = later_stands ts ks h i b.at d b.from b.below in
        let is_m : slice_index_or ks b.at d ≡ m = index_default ks b.at d m b.below ∙ b.is in
        let same : is_lt (option_cmp polynomial_cmp (Some p) (slice_get ts (slice_index_or ks i d))) ≡ false = subst (λ a. is_lt (option_cmp polynomial_cmp a (slice_get ts (slice_index_or ks i d))) ≡ false) (ap (slice_get ts) is_m ∙ stands) later in
        cc

-- where it stands at that end, that is its first place
pub first_there : (ts : List Polynomial) (ks : List ℕ) (p : Polynomial) (i d : ℕ) → IsIndex ts ks → IsEndOf ts ks p i → i < length ks
    → is_eq (order_at ts p (slice_index_or ks i d)) ≡ true → place_in ts p ≡ Some (slice_index_or ks i d)
first_there ts ks p i d h end lt here = by_place (place_in ts p) refl
  where
    not_less_number : (x y : ℕ) → is_lt (nat_cmp x y) ≡ false → y ≤ x
    not_less_number x y e = by_order (nat_cmp x y) (ranked x y (nat_cmp x y) refl) e
      where
        by_order : (o : Ordering) → MatchOrdering o (x < y) (x ≡ y) (y < x) → is_lt o ≡ false → y ≤ x
        by_order Less a e = cc
        by_order Equal a e = omega (arith, a)
        by_order Greater a e = omega (arith, a)

    stands : slice_get ts (slice_index_or ks i d) ≡ Some p
    stands = equal_stands p (slice_get ts (slice_index_or ks i d)) here

    by_place : (r : Option ℕ) → place_in ts p ≡ r → r ≡ Some (slice_index_or ks i d)
    by_place None e =
        let w = place_at_most ts (slice_index_or ks i d) p stands in
        let both : None ≡ Some w.0 = sym e ∙ w.1 in
        cc
    by_place (Some m) e =
        let w = place_at_most ts (slice_index_or ks i d) p stands in
        let first : m ≡ w.0 = same_Some m w.0 (sym e ∙ w.1) in
        let there : slice_get ts m ≡ Some p = found ts p m e in
        let b = behind ts ks p i m h end there in
        let is_m : slice_index_or ks b.at d ≡ m = index_default ks b.at d m b.below ∙ b.is in
        let later : is_lt (place_cmp ts m (slice_index_or ks i d)) ≡ false = subst (λ k. is_lt (place_cmp ts k (slice_index_or ks i d)) ≡ false) is_m (later_place ts ks h i b.at d b.from b.below) in
        let tied : stand_cmp ts m (slice_index_or ks i d) ≡ Equal = rw (there, stands) (tied_itself polynomial_total p) in
        let numbers : is_lt (nat_cmp m (slice_index_or ks i d)) ≡ false = subst (λ o. is_lt (ordering_then o (nat_cmp m (slice_index_or ks i d))) ≡ false) tied later in
        let low = not_less_number m (slice_index_or ks i d) numbers in
        let same : m ≡ slice_index_or ks i d = omega (arith, low, first, w.2) in
        ap Some same
