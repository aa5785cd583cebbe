-- The list that has each once, as one more is mentioned.
use Rattle.std.proofs.Common.{◌≡◌, ℕ, zero, suc, ◌+◌, ◌<◌, ◌≤◌, List, [], ◌∷◌, ◌++◌, length, take, drop, get_or, Bool, true, false, cond, ◌||◌, Option, Some, None, is_some, refl, sym, ap, subst, ◌∙◌, append_assoc, arith}
use Rattle.std.specs.Prelude.{filter, not, slice_get, nat_eq, nat_lt, ◌≢◌, ⊤}
use Rattle.std.specs.Option.{option_map, option_eq}
use Rattle.std.proofs.lemmas.Option.{same_Some, slice_get_within, slice_get-get_or}
use Rattle.std.proofs.lemmas.Bool.Decides.{nat_tests}
use Rattle.std.proofs.lemmas.List.{append-nil, take_more, take_all, take-append-drop, length-take-le}
use Rattle.std.proofs.lemmas.List.Elements.{filter-append}
use Rattle.px_terms.specs.Polynomials.{Polynomial}
use Rattle.px_spelling.specs.ByPlace.{is_same, distinct, Differ, place_in, is_first_at}
use Rattle.px_spelling.proofs.PlaceLemmas.{same_decides, same_itself, all_differ, found}
use Rattle.px_spelling.proofs.IndexLemmas.{own_place}

-- some polynomial
pub nought : Polynomial
nought = record { constant = 0; monomials = [] }

-- ---- one more is mentioned

-- one more, unless it is there
abbrev pub grown : Bool → List Polynomial → Polynomial → List Polynomial
grown there ps p = cond there ps (ps ++ p ∷ [])

-- without what is the same as q
abbrev pub others : Polynomial → List Polynomial → List Polynomial
others q ps = filter (λ r. not (is_same q r)) ps

pub distinct_more : (ps : List Polynomial) (p : Polynomial) → distinct (ps ++ p ∷ []) ≡ grown (is_some (place_in ps p)) (distinct ps) p
distinct_more [] p = refl
distinct_more (q ∷ qs) p = ap (λ ds. q ∷ others q ds) (distinct_more qs p) ∙ behind_first (is_same q p) (place_in qs p) refl
  where
    behind_first : (b : Bool) (r : Option ℕ) → is_same q p ≡ b → q ∷ others q (grown (is_some r) (distinct qs) p) ≡ grown (is_some (cond b (Some 0) (option_map suc r))) (q ∷ others q (distinct qs)) p
    behind_first true (Some m) e = refl
    behind_first false (Some m) e = refl
    behind_first true None e =
        let kept : others q (distinct qs ++ p ∷ []) ≡ others q (distinct qs) = filter-append (λ r. not (is_same q r)) (distinct qs) (p ∷ []) ∙ rw e (append-nil (others q (distinct qs))) in
        ap (λ ds. q ∷ ds) kept
    behind_first false None e =
        let kept : others q (distinct qs ++ p ∷ []) ≡ others q (distinct qs) ++ p ∷ [] = filter-append (λ r. not (is_same q r)) (distinct qs) (p ∷ []) ∙ rw e refl in
        ap (λ ds. q ∷ ds) kept

-- ---- the same are there

pub there : (b : Bool) (r : Option ℕ) → is_some (cond b (Some 0) (option_map suc r)) ≡ (b || is_some r)
there true r = refl
there false None = refl
there false (Some m) = refl

-- another one is there without what is the same as q, if it was there
kept_there : (q p : Polynomial) (ps : List Polynomial) → is_same q p ≡ false → is_some (place_in (others q ps) p) ≡ is_some (place_in ps p)
kept_there q p [] e = refl
kept_there q p (r ∷ rs) e = by_same (is_same q r) refl (kept_there q p rs e)
  where
    by_same : (b : Bool) → is_same q r ≡ b → is_some (place_in (others q rs) p) ≡ is_some (place_in rs p) → is_some (place_in (cond (not b) (r ∷ others q rs) (others q rs)) p) ≡ is_some (place_in (r ∷ rs) p)
    by_same true same kept =
        let other : is_same r p ≡ false = subst (λ x. is_same x p ≡ false) ((same_decides q r).0 same) e in
        let left : is_some (place_in (r ∷ rs) p) ≡ is_some (place_in rs p) = there (is_same r p) (place_in rs p) ∙ rw other refl in
        kept ∙ sym left
    by_same false same kept =
        there (is_same r p) (place_in (others q rs) p) ∙ ap (λ b. is_same r p || b) kept ∙ sym (there (is_same r p) (place_in rs p))

pub same_there : (ps : List Polynomial) (p : Polynomial) → is_some (place_in (distinct ps) p) ≡ is_some (place_in ps p)
same_there [] p = refl
same_there (q ∷ qs) p = there (is_same q p) (place_in (others q (distinct qs)) p) ∙ by_same (is_same q p) refl (same_there qs p) ∙ sym (there (is_same q p) (place_in qs p))
  where
    by_same : (b : Bool) → is_same q p ≡ b → is_some (place_in (distinct qs) p) ≡ is_some (place_in qs p) → (b || is_some (place_in (others q (distinct qs)) p)) ≡ (b || is_some (place_in qs p))
    by_same true e same = refl
    by_same false e same = kept_there q p (distinct qs) e ∙ same

-- ---- what is there first

eq_suc : (m i : ℕ) → nat_eq (suc m) (suc i) ≡ nat_eq m i
eq_suc m i = grind (arith, nat_tests)

lt_suc : (m i : ℕ) → nat_lt (suc m) (suc i) ≡ nat_lt m i
lt_suc m i = grind (arith, nat_tests)

first_by : (b : Bool) (r s : Option ℕ) (i : ℕ) → is_some r ≡ not (option_eq nat_eq s (Some i))
    → is_some (cond b (Some 0) (option_map suc r)) ≡ not (option_eq nat_eq (cond b (Some 0) (option_map suc s)) (Some (suc i)))
first_by true r s i e = let other : nat_eq 0 (suc i) ≡ false = grind (arith, nat_tests) in rw other refl
first_by false r None i e = there false r ∙ e
first_by false r (Some m) i e = there false r ∙ e ∙ ap not (sym (eq_suc m i))

not_before : (ps : List Polynomial) (i : ℕ) (p : Polynomial) → slice_get ps i ≡ Some p → is_some (place_in (take i ps) p) ≡ not (option_eq nat_eq (place_in ps p) (Some i))
not_before [] i p e = absurd cc
not_before (q ∷ qs) zero p e = subst (λ x. false ≡ not (option_eq nat_eq (place_in (q ∷ qs) x) (Some 0))) (same_Some q p e) (rw (same_itself q) refl)
not_before (q ∷ qs) (suc i) p e = first_by (is_same q p) (place_in (take i qs) p) (place_in qs p) i (not_before qs i p e)

-- the list that has each once, at the next place
pub first_more : (ps : List Polynomial) (i : ℕ) (d : Polynomial) → i < length ps → distinct (take (i + 1) ps) ≡ grown (not (is_first_at ps i)) (distinct (take i ps)) (get_or ps i d)
first_more ps i d lt =
    let stands = slice_get-get_or ps i d lt in
    let first : is_some (place_in (take i ps) (get_or ps i d)) ≡ not (is_first_at ps i) = rw stands (not_before ps i (get_or ps i d) stands) in
    ap distinct (take_more ps i d lt) ∙ distinct_more (take i ps) (get_or ps i d) ∙ ap (λ b. grown b (distinct (take i ps)) (get_or ps i d)) first

-- what is there first is added
pub added : (ps old new : List Polynomial) (i : ℕ) (p : Polynomial) → i < length ps → is_first_at ps i ≡ true → get_or ps i nought ≡ p → old ≡ distinct (take i ps) → new ≡ old ++ p ∷ [] → new ≡ distinct (take (i + 1) ps)
added ps old new i p lt first own so_far is =
    let more : distinct (take (i + 1) ps) ≡ distinct (take i ps) ++ get_or ps i nought ∷ [] = first_more ps i nought lt ∙ ap (λ b. grown (not b) (distinct (take i ps)) (get_or ps i nought)) first in
    is ∙ ap (λ xs. xs ++ p ∷ []) so_far ∙ ap (λ x. distinct (take i ps) ++ x ∷ []) (sym own) ∙ sym more

pub not_added : (ps old new : List Polynomial) (i : ℕ) → i < length ps → is_first_at ps i ≡ false → old ≡ distinct (take i ps) → new ≡ old → new ≡ distinct (take (i + 1) ps)
not_added ps old new i lt later so_far is =
    let same : distinct (take (i + 1) ps) ≡ distinct (take i ps) = first_more ps i nought lt ∙ ap (λ b. grown (not b) (distinct (take i ps)) (get_or ps i nought)) later in
    is ∙ so_far ∙ sym same

-- where no two are the same, each is there first
pub differ_first : (ps : List Polynomial) (i : ℕ) (d : Polynomial) → Differ ps → i < length ps → is_first_at ps i ≡ true
differ_first ps i d h lt = rw (slice_get-get_or ps i d lt, own_place ps i (get_or ps i d) h (slice_get-get_or ps i d lt)) (itself i)
  where
    itself : (i : ℕ) → nat_eq i i ≡ true
    itself i = grind (arith, nat_tests)

-- each once, as far as each is there first
pub firsts_differ : (ps : List Polynomial) (i : ℕ) (d : Polynomial) → i < length ps → is_first_at ps i ≡ true → distinct (take i ps) ≡ take i ps → distinct (take (i + 1) ps) ≡ take (i + 1) ps
firsts_differ ps i d lt first so_far = first_more ps i d lt ∙ rw (first, so_far) (sym (take_more ps i d lt))

pub all_first : (ps : List Polynomial) (i : ℕ) → length ps ≤ i → distinct (take i ps) ≡ take i ps → Differ ps
all_first ps i le h = subst Differ (ap distinct (sym (take_all i ps le)) ∙ h ∙ take_all i ps le) (all_differ ps)

-- ---- whether these are they

-- there is a place below another
abbrev pub is_below : ℕ → Option ℕ → Bool
is_below c None = false
is_below c (Some k) = nat_lt k c

below_none : (r : Option ℕ) → false ≡ is_below 0 r
below_none None = refl
below_none (Some k) = let not_less : nat_lt k 0 ≡ false = grind (arith, nat_tests) in sym not_less

below_by : (b : Bool) (r s : Option ℕ) (c : ℕ) → is_some r ≡ is_below c s → is_some (cond b (Some 0) (option_map suc r)) ≡ is_below (suc c) (cond b (Some 0) (option_map suc s))
below_by true r s c e = let less : nat_lt 0 (suc c) ≡ true = grind (arith, nat_tests) in sym less
below_by false r None c e = there false r ∙ e
below_by false r (Some k) c e = there false r ∙ e ∙ sym (lt_suc k c)

pub in_front : (ts : List Polynomial) (c : ℕ) (p : Polynomial) → is_some (place_in (take c ts) p) ≡ is_below c (place_in ts p)
in_front ts zero p = below_none (place_in ts p)
in_front [] (suc c) p = refl
in_front (q ∷ qs) (suc c) p = below_by (is_same q p) (place_in (take c qs) p) (place_in qs p) c (in_front qs c p)

-- so far they are the first c, and one more is mentioned
listed_more : (ms ts : List Polynomial) (i c : ℕ) (d : Polynomial) → i < length ms → distinct (take i ms) ≡ take c ts
    → distinct (take (i + 1) ms) ≡ grown (is_below c (place_in ts (get_or ms i d))) (take c ts) (get_or ms i d)
listed_more ms ts i c d lt so_far =
    let p = get_or ms i d in
    let here : is_some (place_in (take i ms) p) ≡ is_below c (place_in ts p) = sym (same_there (take i ms) p) ∙ ap (λ ds. is_some (place_in ds p)) so_far ∙ in_front ts c p in
    ap distinct (take_more ms i d lt) ∙ distinct_more (take i ms) p ∙ rw (here, so_far) refl

-- one of the first c
pub lists_old : (ms ts : List Polynomial) (i c k : ℕ) (d : Polynomial) → i < length ms → distinct (take i ms) ≡ take c ts → place_in ts (get_or ms i d) ≡ Some k → k < c
    → distinct (take (i + 1) ms) ≡ take c ts
lists_old ms ts i c k d lt so_far at less =
    let below : nat_lt k c ≡ true = grind (arith, nat_tests) in
    listed_more ms ts i c d lt so_far ∙ rw (at, below) refl

-- the next
pub lists_new : (ms ts : List Polynomial) (i c : ℕ) (d : Polynomial) → i < length ms → distinct (take i ms) ≡ take c ts → place_in ts (get_or ms i d) ≡ Some c
    → (c < length ts) × (distinct (take (i + 1) ms) ≡ take (c + 1) ts)
lists_new ms ts i c d lt so_far at =
    let p = get_or ms i d in
    let stands : slice_get ts c ≡ Some p = found ts p c at in
    let few : c < length ts = slice_get_within ts c p stands in
    let same : get_or ts c d ≡ p = same_Some (get_or ts c d) p (sym (slice_get-get_or ts c d few) ∙ stands) in
    let below : nat_lt c c ≡ false = grind (arith, nat_tests) in
    let longer : distinct (take (i + 1) ms) ≡ take c ts ++ p ∷ [] = listed_more ms ts i c d lt so_far ∙ rw (at, below) refl in
    (few, longer ∙ ap (λ x. take c ts ++ x ∷ []) (sym same) ∙ sym (take_more ts c d few))

-- what stands somewhere stays there as more is mentioned
stays : (more ps : List Polynomial) (n : ℕ) (p : Polynomial) → slice_get (distinct ps) n ≡ Some p → slice_get (distinct (ps ++ more)) n ≡ Some p
stays [] ps n p e = rw append-nil e
stays (q ∷ qs) ps n p e =
    let joined : ps ++ q ∷ qs ≡ (ps ++ q ∷ []) ++ qs = sym (append_assoc ps (q ∷ []) qs) in
    rw joined (stays qs (ps ++ q ∷ []) n p (rw (distinct_more ps q) (in_grown (is_some (place_in ps q)) (distinct ps) n e)))
  where
    in_longer : (xs : List Polynomial) (n : ℕ) → slice_get xs n ≡ Some p → slice_get (xs ++ q ∷ []) n ≡ Some p
    in_longer [] n e = absurd cc
    in_longer (x ∷ xs) zero e = e
    in_longer (x ∷ xs) (suc n) e = in_longer xs n e

    in_grown : (b : Bool) (xs : List Polynomial) (n : ℕ) → slice_get xs n ≡ Some p → slice_get (grown b xs q) n ≡ Some p
    in_grown true xs n e = e
    in_grown false xs n e = in_longer xs n e

at_end : (xs : List Polynomial) (p : Polynomial) → slice_get (xs ++ p ∷ []) (length xs) ≡ Some p
at_end [] p = refl
at_end (x ∷ xs) p = at_end xs p

-- neither one of the first c nor the next
abbrev pub IsWrong : ℕ → Option ℕ → Type 0
IsWrong c None = ⊤
IsWrong c (Some k) = c < k

pub lists_other : (ms ts : List Polynomial) (i c : ℕ) (d : Polynomial) (r : Option ℕ) → Differ ts → c ≤ length ts → i < length ms → distinct (take i ms) ≡ take c ts
    → place_in ts (get_or ms i d) ≡ r → IsWrong c r → distinct ms ≢ ts
lists_other ms ts i c d r h few lt so_far at wrong are =
    let p = get_or ms i d in
    let longer : distinct (take (i + 1) ms) ≡ take c ts ++ p ∷ [] = listed_more ms ts i c d lt so_far ∙ ap (λ b. grown b (take c ts) p) (ap (is_below c) at ∙ not_below r wrong) in
    let end : slice_get (take c ts ++ p ∷ []) c ≡ Some p = subst (λ n. slice_get (take c ts ++ p ∷ []) n ≡ Some p) (length-take-le c ts few) (at_end (take c ts) p) in
    let there : slice_get (distinct (take (i + 1) ms ++ drop (i + 1) ms)) c ≡ Some p = stays (drop (i + 1) ms) (take (i + 1) ms) c p (rw longer end) in
    let stands : slice_get ts c ≡ Some p = subst (λ ds. slice_get ds c ≡ Some p) (ap distinct (take-append-drop (i + 1) ms) ∙ are) there in
    not_next r wrong (sym at ∙ own_place ts c p h stands)
  where
    not_below : (r : Option ℕ) → IsWrong c r → is_below c r ≡ false
    not_below None w = refl
    not_below (Some k) w = grind (arith, nat_tests)

    not_next : (r : Option ℕ) → IsWrong c r → r ≡ Some c → ⊥
    not_next None w e = cc
    not_next (Some k) w e = omega (arith, w, same_Some k c e)

-- at the end they are all of them, or one is missing
pub lists_all : (ms ts : List Polynomial) (i c : ℕ) → length ms ≤ i → c ≤ length ts → distinct (take i ms) ≡ take c ts → (c ≡ length ts → distinct ms ≡ ts) × (distinct ms ≡ ts → c ≡ length ts)
lists_all ms ts i c done few so_far =
    let all : distinct ms ≡ take c ts = ap distinct (sym (take_all i ms done)) ∙ so_far in (
      λ e. all ∙ take_all c ts (omega (arith, e)),
      λ e. sym (length-take-le c ts few) ∙ ap length (sym all ∙ e),
    )
