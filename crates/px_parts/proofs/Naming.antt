-- The terms that are named behind what was mentioned.
use Rattle.std.proofs.Common.{◌≡◌, ℕ, zero, suc, ◌+◌, ◌<◌, ◌≤◌, List, [], ◌∷◌, ◌++◌, length, take, drop, get_or, Bool, true, false, cond, Option, Some, None, is_some, refl, sym, ap, subst, ◌∙◌, append_assoc, append-nil, arith}
use Rattle.std.specs.Prelude.{filter, not, slice_get, nat_lt, min, ⊤}
use Rattle.std.specs.List.{AllByRecursion}
use Rattle.std.proofs.lemmas.Option.{same_Some, slice_get_within, slice_get-get_or}
use Rattle.std.proofs.lemmas.Bool.Decides.{nat_tests}
use Rattle.std.proofs.lemmas.List.{take_more, take_all, take_min, take-append-drop, length-take-le}
use Rattle.std.proofs.Math.Seq.{take-append_seam}
use Rattle.px_terms.specs.Polynomials.{Polynomial}
use Rattle.px_spelling.specs.ByPlace.{is_same, distinct, Differ, place_in}
use Rattle.px_spelling.proofs.PlaceLemmas.{all_differ, found}
use Rattle.px_spelling.proofs.IndexLemmas.{own_place}
use Rattle.px_spelling.proofs.Growing.{grown, distinct_more, same_there, is_below, in_front}
use Rattle.px_parts.specs.Places.{Naming, full, listed, spelling, named_with, AreInOrder, behind, AllNamed}
use Rattle.px_parts.specs.Kept.{spelling_by}

-- ---- each once

-- of the same, and more
same_distinct : (ys xs zs : List Polynomial) → distinct xs ≡ distinct zs → distinct (xs ++ ys) ≡ distinct (zs ++ ys)
same_distinct [] xs zs same = ap distinct (append-nil xs) ∙ same ∙ ap distinct (sym (append-nil zs))
same_distinct (y ∷ ys) xs zs same =
    let there : is_some (place_in xs y) ≡ is_some (place_in zs y) = sym (same_there xs y) ∙ ap (λ ds. is_some (place_in ds y)) same ∙ same_there zs y in
    let one : distinct (xs ++ y ∷ []) ≡ distinct (zs ++ y ∷ []) =
    distinct_more xs y ∙ ap (λ b. grown b (distinct xs) y) there ∙ ap (λ ds. grown (is_some (place_in zs y)) ds y) same ∙ sym (distinct_more zs y) in
    ap distinct (sym (append_assoc xs (y ∷ []) ys)) ∙ same_distinct ys (xs ++ y ∷ []) (zs ++ y ∷ []) one ∙ ap distinct (append_assoc zs (y ∷ []) ys)

-- where no two are the same, each is kept
all_others : (p : Polynomial) (ps : List Polynomial) → AllByRecursion (λ q. is_same p q ≡ false) ps → filter (λ q. not (is_same p q)) ps ≡ ps
all_others p [] differ = refl
all_others p (q ∷ qs) differ = rw (differ.0, all_others p qs differ.1) refl

differ_once : (ps : List Polynomial) → Differ ps → distinct ps ≡ ps
differ_once [] differ = refl
differ_once (p ∷ ps) differ = ap (λ ds. p ∷ filter (λ q. not (is_same p q)) ds) (differ_once ps differ.1) ∙ ap (λ ds. p ∷ ds) (all_others p ps differ.0)

once_again : (xs ys : List Polynomial) → distinct (distinct xs ++ ys) ≡ distinct (xs ++ ys)
once_again xs ys = same_distinct ys (distinct xs) xs (differ_once (distinct xs) (all_differ xs))

-- one more, where it isn't there
abbrev more_of : Bool → Polynomial → List Polynomial
more_of there p = cond there [] (p ∷ [])

grown_front : (there : Bool) (ps : List Polynomial) (p : Polynomial) → grown there ps p ≡ ps ++ more_of there p
grown_front true ps p = sym (append-nil ps)
grown_front false ps p = refl

-- as more are mentioned, the first stay
stay_first : (ys xs : List Polynomial) → (more : List Polynomial) × (distinct (xs ++ ys) ≡ distinct xs ++ more)
stay_first [] xs = ([], ap distinct (append-nil xs) ∙ sym (append-nil (distinct xs)))
stay_first (y ∷ ys) xs =
    let next = stay_first ys (xs ++ y ∷ []) in
    let there = is_some (place_in xs y) in
    let one : distinct (xs ++ y ∷ []) ≡ distinct xs ++ more_of there y = distinct_more xs y ∙ grown_front there (distinct xs) y in
    (more_of there y ++ next.0, ap distinct (sym (append_assoc xs (y ∷ []) ys)) ∙ next.1 ∙ ap (λ l. l ++ next.0) one ∙ append_assoc (distinct xs) (more_of there y) next.0)

-- ---- the first terms

-- the first of a front are a front
front_of : (xs more ts : List Polynomial) (n : ℕ) → take n ts ≡ xs ++ more → take (length xs) ts ≡ xs
front_of xs more ts n is =
    let all : ts ≡ xs ++ (more ++ drop n ts) = sym (take-append-drop n ts) ∙ ap (λ l. l ++ drop n ts) is ∙ append_assoc xs more (drop n ts) in
    ap (λ l. take (length xs) l) all ∙ take-append_seam xs (more ++ drop n ts)

-- of these mentions, each once, are the first terms
abbrev pub AreFirst : List Polynomial → List Polynomial → Type 0
AreFirst ts ms = take (length (distinct ms)) ts ≡ distinct ms

first_before : (ts ms ps : List Polynomial) → AreFirst ts (ms ++ ps) → AreFirst ts ms
first_before ts ms ps first =
    let e = stay_first ps ms in front_of (distinct ms) e.0 ts (length (distinct (ms ++ ps))) (first ∙ e.1)

-- behind these, those that are mentioned too
with_these : (ts ms ps : List Polynomial) → AreFirst ts ms → named_with ts (length (distinct ms)) ps ≡ distinct (ms ++ ps)
with_these ts ms ps first = ap (λ l. distinct (l ++ ps)) first ∙ once_again ms ps

-- ---- behind these mentions, where there is a list or none

abbrev pub after : Option (List Polynomial) → List Polynomial → Naming
after None ms = full
after (Some ts) ms = listed ts (length (distinct ms))

abbrev pub IsFront : Option (List Polynomial) → List Polynomial → Type 0
IsFront None ms = ⊤
IsFront (Some ts) ms = AreFirst ts ms

pub spelled_after : (o : Option (List Polynomial)) (ms : List Polynomial) → spelling (after o ms) ≡ spelling_by o
spelled_after None ms = refl
spelled_after (Some ts) ms = refl

pub front_before : (o : Option (List Polynomial)) (ms ps : List Polynomial) → IsFront o (ms ++ ps) → IsFront o ms
front_before None ms ps first = tt
front_before (Some ts) ms ps first = first_before ts ms ps first

pub behind_after : (o : Option (List Polynomial)) (ms ps : List Polynomial) → IsFront o ms → behind (after o ms) ps ≡ after o (ms ++ ps)
behind_after None ms ps first = refl
behind_after (Some ts) ms ps first = ap (λ ds. listed ts (length ds)) (with_these ts ms ps first)

-- in order, where these and the others are a front
pub in_order : (o : Option (List Polynomial)) (ms ps : List Polynomial) → IsFront o ms → IsFront o (ms ++ ps) → AreInOrder (after o ms) ps
in_order None ms ps first all = tt
in_order (Some ts) ms ps first all = subst (λ ds. take (length ds) ts ≡ ds) (sym (with_these ts ms ps first)) all

pub front_on : (o : Option (List Polynomial)) (ms ps : List Polynomial) → IsFront o ms → AreInOrder (after o ms) ps → IsFront o (ms ++ ps)
front_on None ms ps first order = tt
front_on (Some ts) ms ps first order = subst (λ ds. take (length ds) ts ≡ ds) (with_these ts ms ps first) order

pub none_first : (o : Option (List Polynomial)) → IsFront o []
none_first None = tt
none_first (Some ts) = refl

-- all were named, where these are all terms
pub all_first : (ts ms : List Polynomial) → distinct ms ≡ ts → IsFront (Some ts) ms
all_first ts ms is = ap (λ ds. take (length ds) ts) is ∙ take_all (length ts) ts (omega arith) ∙ sym is

pub all_named : (ts ms : List Polynomial) → IsFront (Some ts) ms → AllNamed (after (Some ts) ms) → distinct ms ≡ ts
all_named ts ms first all = sym first ∙ take_all (length (distinct ms)) ts (omega (arith, all))

-- ---- one mention more

-- these were mentioned, and the terms that were named are the first so many
one_grown : (ts xs : List Polynomial) (p : Polynomial) (n : ℕ) → distinct xs ≡ take n ts → distinct (xs ++ p ∷ []) ≡ grown (is_below n (place_in ts p)) (take n ts) p
one_grown ts xs p n so_far =
    let here : is_some (place_in xs p) ≡ is_below n (place_in ts p) = sym (same_there xs p) ∙ ap (λ ds. is_some (place_in ds p)) so_far ∙ in_front ts n p in
    distinct_more xs p ∙ ap (λ b. grown b (distinct xs) p) here ∙ ap (λ ds. grown (is_below n (place_in ts p)) ds p) so_far

-- one that was named
pub names_old : (ts xs : List Polynomial) (p : Polynomial) (n k : ℕ) → distinct xs ≡ take n ts → place_in ts p ≡ Some k → k < n → distinct (xs ++ p ∷ []) ≡ take n ts
names_old ts xs p n k so_far at less =
    let below : nat_lt k n ≡ true = grind (arith, nat_tests) in one_grown ts xs p n so_far ∙ rw (at, below) refl

-- the next
pub names_next : (ts xs : List Polynomial) (p : Polynomial) (n : ℕ) → distinct xs ≡ take n ts → place_in ts p ≡ Some n → (n < length ts) × (distinct (xs ++ p ∷ []) ≡ take (n + 1) ts)
names_next ts xs p n so_far at =
    let stands : slice_get ts n ≡ Some p = found ts p n at in
    let few : n < length ts = slice_get_within ts n p stands in
    let same : get_or ts n p ≡ p = same_Some (get_or ts n p) p (sym (slice_get-get_or ts n p few) ∙ stands) in
    let below : nat_lt n n ≡ false = grind (arith, nat_tests) in
    let longer : distinct (xs ++ p ∷ []) ≡ take n ts ++ p ∷ [] = one_grown ts xs p n so_far ∙ rw (at, below) refl in
    (few, longer ∙ ap (λ x. take n ts ++ x ∷ []) (sym same) ∙ sym (take_more ts n p few))

-- neither
abbrev pub IsOther : ℕ → Option ℕ → Type 0
IsOther n None = ⊤
IsOther n (Some k) = n < k

-- what stands behind a front
stands_at : (n : ℕ) (ts xs more : List Polynomial) (p : Polynomial) (l : ℕ) → length xs ≡ n → take l ts ≡ xs ++ p ∷ more → slice_get ts n ≡ Some p
stands_at n ts [] more p zero many is = absurd cc
stands_at n [] [] more p (suc l) many is = absurd cc
stands_at n (t ∷ ts) [] more p (suc l) many is = subst (λ k. slice_get (t ∷ ts) k ≡ Some p) many (ap Some (ap (λ l. get_or l 0 p) is))
stands_at n ts (x ∷ xs) more p zero many is = absurd cc
stands_at n [] (x ∷ xs) more p (suc l) many is = absurd cc
stands_at n (t ∷ ts) (x ∷ xs) more p (suc l) many is =
    subst (λ k. slice_get (t ∷ ts) k ≡ Some p) many (stands_at (length xs) ts xs more p l refl (ap (λ l. drop 1 l) is))

pub names_other : (ts xs more : List Polynomial) (p : Polynomial) (n : ℕ) (r : Option ℕ) → Differ ts → n ≤ length ts → distinct xs ≡ take n ts → place_in ts p ≡ r → IsOther n r →
    ¬ AreFirst ts ((xs ++ p ∷ []) ++ more)
names_other ts xs more p n r differ few so_far at other first =
    let longer : distinct (xs ++ p ∷ []) ≡ take n ts ++ p ∷ [] = one_grown ts xs p n so_far ∙ ap (λ b. grown b (take n ts) p) (ap (is_below n) at ∙ not_below r other) in
    let e = stay_first more (xs ++ p ∷ []) in
    let is : take (length (distinct ((xs ++ p ∷ []) ++ more))) ts ≡ take n ts ++ p ∷ e.0 = first ∙ e.1 ∙ ap (λ l. l ++ e.0) longer ∙ append_assoc (take n ts) (p ∷ []) e.0 in
    let stands : slice_get ts n ≡ Some p = stands_at n ts (take n ts) e.0 p (length (distinct ((xs ++ p ∷ []) ++ more))) (length-take-le n ts few) is in
    not_next r other (sym at ∙ own_place ts n p differ stands)
  where
    not_below : (r : Option ℕ) → IsOther n r → is_below n r ≡ false
    not_below None w = refl
    not_below (Some k) w = grind (arith, nat_tests)

    not_next : (r : Option ℕ) → IsOther n r → r ≡ Some n → ⊥
    not_next None w e = cc
    not_next (Some k) w e = omega (arith, w, same_Some k n e)

-- ---- in the code, from mention to mention

-- as many terms as there are, at most
pub at_first : (ts ms : List Polynomial) (named n : ℕ) → Differ ts → n ≡ min named (length ts) → (n ≤ length ts) × (distinct (take named ts ++ take 0 ms) ≡ take n ts)
at_first ts ms named n differ is =
    let same : take n ts ≡ take named ts = ap (λ k. take k ts) is ∙ take_min named ts in
    (omega (arith, is), ap distinct (append-nil (take named ts)) ∙ ap distinct (sym same) ∙ differ_once (take n ts) (first_differ ts n differ))
  where
    all_first_differ : (p : Polynomial) (qs : List Polynomial) (k : ℕ) → AllByRecursion (λ q. is_same p q ≡ false) qs → AllByRecursion (λ q. is_same p q ≡ false) (take k qs)
    all_first_differ p qs zero all = tt
    all_first_differ p [] (suc k) all = tt
    all_first_differ p (q ∷ qs) (suc k) all = (all.0, all_first_differ p qs k all.1)

    first_differ : (qs : List Polynomial) (k : ℕ) → Differ qs → Differ (take k qs)
    first_differ qs zero differ = tt
    first_differ [] (suc k) differ = tt
    first_differ (q ∷ qs) (suc k) differ = (all_first_differ q qs k differ.0, first_differ qs k differ.1)

-- the mentions so far and one more, and the others
one_mention : (xs ms : List Polynomial) (i : ℕ) (d : Polynomial) → i < length ms → xs ++ take (i + 1) ms ≡ (xs ++ take i ms) ++ get_or ms i d ∷ []
one_mention xs ms i d lt = ap (λ l. xs ++ l) (take_more ms i d lt) ∙ sym (append_assoc xs (take i ms) (get_or ms i d ∷ []))

pub old_mention : (ts ms : List Polynomial) (named i n k : ℕ) (d : Polynomial) → i < length ms → distinct (take named ts ++ take i ms) ≡ take n ts → place_in ts (get_or ms i d) ≡ Some k → k < n →
    distinct (take named ts ++ take (i + 1) ms) ≡ take n ts
old_mention ts ms named i n k d lt so_far at less =
    ap distinct (one_mention (take named ts) ms i d lt) ∙ names_old ts (take named ts ++ take i ms) (get_or ms i d) n k so_far at less

pub next_mention : (ts ms : List Polynomial) (named i n : ℕ) (d : Polynomial) → i < length ms → distinct (take named ts ++ take i ms) ≡ take n ts → place_in ts (get_or ms i d) ≡ Some n →
    (n < length ts) × (distinct (take named ts ++ take (i + 1) ms) ≡ take (n + 1) ts)
next_mention ts ms named i n d lt so_far at =
    let o = names_next ts (take named ts ++ take i ms) (get_or ms i d) n so_far at in (o.0, ap distinct (one_mention (take named ts) ms i d lt) ∙ o.1)

pub other_mention : (ts ms : List Polynomial) (named i n : ℕ) (d : Polynomial) (r : Option ℕ) → Differ ts → n ≤ length ts → i < length ms → distinct (take named ts ++ take i ms) ≡ take n ts →
    place_in ts (get_or ms i d) ≡ r → IsOther n r → ¬ AreInOrder (listed ts named) ms
other_mention ts ms named i n d r differ few lt so_far at other order =
    let xs = take named ts ++ take i ms in
    let p = get_or ms i d in
    let all : take named ts ++ ms ≡ (xs ++ p ∷ []) ++ drop (i + 1) ms =
    ap (λ l. take named ts ++ l) (sym (take-append-drop (i + 1) ms)) ∙ sym (append_assoc (take named ts) (take (i + 1) ms) (drop (i + 1) ms)) ∙ ap (λ l. l ++ drop (i + 1) ms) (one_mention (take named ts) ms i d lt) in
    names_other ts xs (drop (i + 1) ms) p n r differ few so_far at other (subst (λ l. AreFirst ts l) all order)
