-- What is mentioned is in the list that has each once, and fits there where that list can be counted.
use Rattle.std.proofs.Common.{◌≡◌, ℕ, suc, ◌<◌, ◌^◌, List, [], ◌∷◌, length, Bool, true, false, cond, Option, Some, None, refl, subst, arith}
use Rattle.std.specs.Prelude.{filter, not}
use Rattle.std.specs.List.{AllByRecursion}
use Rattle.std.specs.Option.{option_map}
use Rattle.std.specs.declared.cmp.Ordering.{Ordering}
use Rattle.std.specs.declared.cmp.Ordering.TheVariants.{Less, Equal, Greater}
use Rattle.std.specs.Ordering.{is_eq}
use Rattle.px_terms.specs.Polynomials.{Polynomial}
use Rattle.px_spelling.specs.Numbers.{IsU32}
use Rattle.px_spelling.specs.ByPlace.{polynomial_cmp, is_same, distinct, place_in, IsFound}
use Rattle.px_spelling.proofs.PlaceLemmas.{only_same, same_itself, all_kept}

-- ---- of all that are mentioned, or of each once

pub all_once : (P : Polynomial → Type 0) (ps : List Polynomial) → AllByRecursion P ps → AllByRecursion P (distinct ps)
all_once P [] all = tt
all_once P (p ∷ ps) all = (all.0, all_kept P (λ q. not (is_same p q)) (distinct ps) (all_once P ps all.1))

-- what was left out is the same as the first
first_back : (P : Polynomial → Type 0) (p q : Polynomial) (rest kept : List Polynomial) (o : Ordering) → polynomial_cmp p q ≡ o → P p
    → (AllByRecursion P kept → AllByRecursion P rest) → AllByRecursion P (cond (not (is_eq o)) (q ∷ kept) kept) → AllByRecursion P (q ∷ rest)
first_back P p q rest kept Less e fits later all = (all.0, later all.1)
first_back P p q rest kept Equal e fits later all = (subst P (only_same p q e) fits, later all)
first_back P p q rest kept Greater e fits later all = (all.0, later all.1)

all_back : (P : Polynomial → Type 0) (p : Polynomial) (ps : List Polynomial) → P p → AllByRecursion P (filter (λ q. not (is_same p q)) ps) → AllByRecursion P ps
all_back P p [] fits all = tt
all_back P p (q ∷ qs) fits all =
    first_back P p q qs (filter (λ r. not (is_same p r)) qs) (polynomial_cmp p q) refl fits (all_back P p qs fits) all

pub all_mentioned : (P : Polynomial → Type 0) (ps : List Polynomial) → AllByRecursion P (distinct ps) → AllByRecursion P ps
all_mentioned P [] all = tt
all_mentioned P (p ∷ ps) all = (all.0, all_mentioned P ps (all_back P p (distinct ps) all.0 all.1))

-- ---- places

all_mapped : (P Q : Polynomial → Type 0) → ((p : Polynomial) → P p → Q p) → (ps : List Polynomial) → AllByRecursion P ps → AllByRecursion Q ps
all_mapped P Q f [] all = tt
all_mapped P Q f (p ∷ ps) all = (f p all.0, all_mapped P Q f ps all.1)

-- there is a place, below a number
abbrev pub IsBelow : ℕ → Option ℕ → Type 0
IsBelow n None = ⊥
IsBelow n (Some k) = k < n

one_more : (n : ℕ) (b : Bool) (r : Option ℕ) → IsBelow n r → IsBelow (suc n) (cond b (Some 0) (option_map suc r))
one_more n true r below = omega arith
one_more n false None below = below
one_more n false (Some k) below = omega (arith, below)

itself_first : (b : Bool) (n : ℕ) (r : Option ℕ) → b ≡ true → IsBelow (suc n) (cond b (Some 0) (option_map suc r))
itself_first true n r e = omega arith
itself_first false n r e = cc

pub each_has_place : (ps : List Polynomial) → AllByRecursion (λ p. IsBelow (length ps) (place_in ps p)) ps
each_has_place [] = tt
each_has_place (q ∷ qs) = (
  itself_first (is_same q q) (length qs) (place_in qs q) (same_itself q),
  all_mapped (λ p. IsBelow (length qs) (place_in qs p)) (λ p. IsBelow (length (q ∷ qs)) (place_in (q ∷ qs) p)) (λ p below. one_more (length qs) (is_same q p) (place_in qs p) below) qs (each_has_place qs),
)

few_fit : (n : ℕ) (r : Option ℕ) → n < 2 ^ 32 → IsBelow n r → IsFound r
few_fit n None few below = below
few_fit n (Some k) few below = omega (arith, below, few)

-- what is mentioned fits by its place
pub mentioned_fit : (ps : List Polynomial) → IsU32 (length (distinct ps)) → AllByRecursion (λ p. IsFound (place_in (distinct ps) p)) ps
mentioned_fit ps few =
    all_mentioned (λ p. IsFound (place_in (distinct ps) p)) ps
    (all_mapped (λ p. IsBelow (length (distinct ps)) (place_in (distinct ps) p)) (λ p. IsFound (place_in (distinct ps) p)) (λ p below. few_fit (length (distinct ps)) (place_in (distinct ps) p) few below) (distinct ps) (each_has_place (distinct ps)))
