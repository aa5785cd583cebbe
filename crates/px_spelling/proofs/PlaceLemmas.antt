-- Polynomials that are spelled by their places are read again.
use Rattle.std.proofs.Common.{◌≡◌, ℕ, zero, suc, List, [], ◌∷◌, Bool, true, false, cond, Option, Some, None, ◌≤◌, length, map, refl, sym, subst, ap, ap₂, ◌∙◌, arith}
use Rattle.std.specs.Prelude.{slice_get, filter, not, ◌≢◌}
use Rattle.std.specs.List.{AllByRecursion, flat_map}
use Rattle.std.specs.Option.{option_map}
use Rattle.std.specs.declared.cmp.Ordering.{Ordering}
use Rattle.std.specs.declared.cmp.Ordering.TheVariants.{Less, Equal, Greater}
use Rattle.std.specs.Ordering.{nat_cmp, is_eq, on}
use Rattle.std.specs.Cmp.{IsTotalOrder}
use Rattle.std.specs.Cmp.Lexicographic.{slice_cmp}
use Rattle.std.proofs.lemmas.Cmp.{nat_cmp_total, nat_list_cmp_total, lists_total, then_total, on_total, ranked, tied_itself}
use Rattle.px_terms.specs.Terms.{Term}
use Rattle.px_terms.specs.Polynomials.{Polynomial}
use Rattle.px_terms.proofs.KeyOrder.{equal_parts}
use Rattle.px_terms.specs.declared.conjuncts.Conj.TheVariants as J
use Rattle.px_spelling.specs.Conjuncts.{conj_bytes}
use Rattle.px_spelling.specs.Laws.{SharesOne}
use Rattle.px_spelling.specs.ByPlace.{term_cmp, polynomial_cmp, is_same, distinct, Differ, place_in, IsFound, by_place}
use Rattle.px_spelling.proofs.RoundTrip.{ReadsAs, RoundTrip, u32_round_trip}

-- ---- the order

term_total : IsTotalOrder term_cmp
term_total = then_total {R = on (λ (t : Term). t.coefficient) nat_cmp} {S = on (λ (t : Term). t.vars) (slice_cmp nat_cmp)} (on_total (λ (t : Term). t.coefficient) nat_cmp_total) (on_total (λ (t : Term). t.vars) nat_list_cmp_total)

pub polynomial_total : IsTotalOrder polynomial_cmp
polynomial_total = then_total {R = on (λ (p : Polynomial). p.constant) nat_cmp} {S = on (λ (p : Polynomial). p.monomials) (slice_cmp term_cmp)} (on_total (λ (p : Polynomial). p.constant) nat_cmp_total) (on_total (λ (p : Polynomial). p.monomials) (lists_total term_total))

-- where only the same items are equal, so are only the same lists
same_lists : {A : Type 0} (R : A → A → Ordering) → ((x y : A) → R x y ≡ Equal → x ≡ y) → (xs ys : List A) → slice_cmp R xs ys ≡ Equal → xs ≡ ys
same_lists R same [] [] h = refl
same_lists R same [] (y ∷ ys) h = cc
same_lists R same (x ∷ xs) [] h = cc
same_lists R same (x ∷ xs) (y ∷ ys) h =
    let parts = equal_parts (R x y) (slice_cmp R xs ys) h in
    ap₂ ◌∷◌ (same x y parts.0) (same_lists R same xs ys parts.1)

-- some items are after none
pub after_nothing : {A : Type 0} (f : A → Term) (xs ys : List A) → 1 ≤ length xs → length ys ≡ 0 → Greater ≡ slice_cmp term_cmp (map f xs) (map f ys)
after_nothing f [] ys l e = absurd (omega (arith, l))
after_nothing f (x ∷ xs) [] l e = refl
after_nothing f (x ∷ xs) (y ∷ ys) l e = absurd (omega (arith, e))

same_numbers : (x y : ℕ) → nat_cmp x y ≡ Equal → x ≡ y
same_numbers x y h = ranked x y Equal (sym h)

same_terms : (s t : Term) → term_cmp s t ≡ Equal → s ≡ t
same_terms s t h =
    let parts = equal_parts (nat_cmp s.coefficient t.coefficient) (slice_cmp nat_cmp s.vars t.vars) h in
    ap₂ (λ (c : ℕ) (vs : List ℕ). record { coefficient = c; vars = vs }) (same_numbers s.coefficient t.coefficient parts.0) (same_lists nat_cmp same_numbers s.vars t.vars parts.1)

pub only_same : (p q : Polynomial) → polynomial_cmp p q ≡ Equal → p ≡ q
only_same p q h =
    let parts = equal_parts (nat_cmp p.constant q.constant) (slice_cmp term_cmp p.monomials q.monomials) h in
    ap₂ (λ (c : ℕ) (ts : List Term). record { constant = c; monomials = ts }) (same_numbers p.constant q.constant parts.0) (same_lists term_cmp same_terms p.monomials q.monomials parts.1)

pub same_itself : (p : Polynomial) → is_same p p ≡ true
same_itself p = ap is_eq (tied_itself polynomial_total p)

pub same_decides : (p q : Polynomial) → (is_same p q ≡ true → p ≡ q) × (p ≡ q → is_same p q ≡ true)
same_decides p q = (by_order (polynomial_cmp p q) refl, λ e. subst (λ x. is_same p x ≡ true) e (same_itself p))
  where
    by_order : (o : Ordering) → polynomial_cmp p q ≡ o → is_eq o ≡ true → p ≡ q
    by_order Less e h = cc
    by_order Equal e h = only_same p q e
    by_order Greater e h = cc

-- ---- places

found_first : (o : Ordering) (q p : Polynomial) (qs : List Polynomial) (r : Option ℕ) (n : ℕ) → polynomial_cmp q p ≡ o → place_in qs p ≡ r
    → ((m : ℕ) → place_in qs p ≡ Some m → slice_get qs m ≡ Some p)
    → cond (is_eq o) (Some 0) (option_map suc r) ≡ Some n → slice_get (q ∷ qs) n ≡ Some p
found_first Equal q p qs r zero e f later h = ap Some (only_same q p e)
found_first Equal q p qs r (suc n) e f later h = cc
found_first Less q p qs None n e f later h = cc
found_first Less q p qs (Some m) zero e f later h = cc
found_first Less q p qs (Some m) (suc n) e f later h = later n (f ∙ cc)
found_first Greater q p qs None n e f later h = cc
found_first Greater q p qs (Some m) zero e f later h = cc
found_first Greater q p qs (Some m) (suc n) e f later h = later n (f ∙ cc)

-- what stands where it is found
pub found : (ps : List Polynomial) (p : Polynomial) (n : ℕ) → place_in ps p ≡ Some n → slice_get ps n ≡ Some p
found [] p n h = cc
found (q ∷ qs) p n h = found_first (polynomial_cmp q p) q p qs (place_in qs p) n refl refl (found qs p) h

read_at : (terms : List Polynomial) (p : Polynomial) (r : Option ℕ) → place_in terms p ≡ r → (by_place terms).fits p → ReadsAs (by_place terms).at ((by_place terms).bytes_of p) p
read_at terms p None e fits = absurd (subst IsFound e fits)
read_at terms p (Some n) e fits = record {
  reads = λ rest.
      rw (e, (u32_round_trip n (subst IsFound e fits)).reads rest, found terms p n e) refl;
}

pub place_round_trip : (terms : List Polynomial) → RoundTrip (by_place terms).bytes_of (by_place terms).fits (by_place terms).at
place_round_trip terms p fits = read_at terms p (place_in terms p) refl fits

-- ---- each once

pub all_kept : (P : Polynomial → Type 0) (f : Polynomial → Bool) (ps : List Polynomial) → AllByRecursion P ps → AllByRecursion P (filter f ps)
all_kept P f [] all = tt
all_kept P f (p ∷ ps) all = kept_first (f p) (all_kept P f ps all.1)
  where
    kept_first : (b : Bool) → AllByRecursion P (filter f ps) → AllByRecursion P (cond b (p ∷ filter f ps) (filter f ps))
    kept_first true rest = (all.0, rest)
    kept_first false rest = rest

differ_kept : (f : Polynomial → Bool) (ps : List Polynomial) → Differ ps → Differ (filter f ps)
differ_kept f [] h = tt
differ_kept f (p ∷ ps) h = kept_first (f p) (differ_kept f ps h.1)
  where
    kept_first : (b : Bool) → Differ (filter f ps) → Differ (cond b (p ∷ filter f ps) (filter f ps))
    kept_first true rest = (all_kept (λ q. is_same p q ≡ false) f ps h.0, rest)
    kept_first false rest = rest

others : (p : Polynomial) (ps : List Polynomial) → AllByRecursion (λ q. is_same p q ≡ false) (filter (λ q. not (is_same p q)) ps)
others p [] = tt
others p (q ∷ qs) = kept_first (is_same p q) refl (others p qs)
  where
    kept_first : (b : Bool) → is_same p q ≡ b → AllByRecursion (λ r. is_same p r ≡ false) (filter (λ r. not (is_same p r)) qs)
        → AllByRecursion (λ r. is_same p r ≡ false) (cond (not b) (q ∷ filter (λ r. not (is_same p r)) qs) (filter (λ r. not (is_same p r)) qs))
    kept_first true e rest = rest
    kept_first false e rest = (e, rest)

pub all_differ : (ps : List Polynomial) → Differ (distinct ps)
all_differ [] = tt
all_differ (p ∷ ps) = (others p (distinct ps), differ_kept (λ q. not (is_same p q)) (distinct ps) (all_differ ps))

pub other : (p q : Polynomial) → p ≢ q → is_same p q ≡ false
other p q n = by_order (polynomial_cmp p q) refl
  where
    by_order : (o : Ordering) → polynomial_cmp p q ≡ o → is_eq o ≡ false
    by_order Less e = refl
    by_order Equal e = absurd (n (only_same p q e))
    by_order Greater e = refl

-- ---- two conjuncts that share a polynomial

listed : (p q : Polynomial) → p ≢ q → distinct (p ∷ p ∷ q ∷ []) ≡ p ∷ q ∷ []
listed p q n = rw (other p q n, same_itself p, other p q n) refl

pub shares_one : (p q : Polynomial) → p ≢ q → SharesOne p q
shares_one p q n =
    let conjuncts = J.Equal p ∷ J.Less p q ∷ [] in
    let spelled : flat_map (conj_bytes (by_place (p ∷ q ∷ []))) conjuncts ≡ 0 ∷ 0 ∷ 0 ∷ 0 ∷ 0 ∷ 2 ∷ 0 ∷ 0 ∷ 0 ∷ 0 ∷ 0 ∷ 0 ∷ 0 ∷ 1 ∷ [] = rw (same_itself p, other p q n, same_itself q) refl in
    (listed p q n, subst (λ terms. flat_map (conj_bytes (by_place terms)) conjuncts ≡ 0 ∷ 0 ∷ 0 ∷ 0 ∷ 0 ∷ 2 ∷ 0 ∷ 0 ∷ 0 ∷ 0 ∷ 0 ∷ 0 ∷ 0 ∷ 1 ∷ []) (sym (listed p q n)) spelled)
