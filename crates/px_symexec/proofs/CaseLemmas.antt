-- The prefixes are those of all lists of choices that are prefixes, in lexicographic order.
use Rattle.std.proofs.Common.{◌≡◌, ℕ, zero, suc, ◌+◌, ◌<◌, List, [], ◌∷◌, ◌++◌, length, map, refl, sym, ◌∙◌, ap, subst, arith, inl, inr, append_assoc, Option, Some, None, length-append}
use Rattle.std.specs.Prelude.{flat_map, slice_get, slice_index_or, AllPairs}
use Rattle.std.proofs.lemmas.List.{map-append}
use Rattle.px_callgraph.specs.declared.states.State.{State}
use Rattle.px_callgraph.specs.declared.states.Way.{Way}
use Rattle.px_callgraph.specs.JobTree.{JobTree}
use Rattle.px_callgraph.specs.declared.outcomes.StepOutcome.TheVariants.{Next, Ends, Cut, «Past» as IsPast}
use Rattle.px_callgraph.specs.Alternatives.{Leads, ways, act, start}
use Rattle.px_callgraph.specs.ActsLeft.{acts_left_of}
use Rattle.px_symexec.specs.Prefixes.{Prefix, Dead, Choice, Ended, Dropped, Past, from_listed, prefixes_within, prefixes}
use Rattle.px_symexec.specs.Cases.{at_stop, go_on, by_choice, case_within, case_of, IsEarlier}
use Rattle.px_symexec.specs.Laws.{PrefixesAreCases}
use Rattle.px_symexec.proofs.Lists.{IsIn, in_contains, in_left, in_right}

abbrev Choices : Type 0
Choices = List (List ℕ)

-- with its number before each choice of a way
abbrev branches : ℕ → (Way → Choices) → List Way → Choices
branches i f [] = []
branches i f (w ∷ ws) = map (λ c. i ∷ c) (f w) ++ branches (suc i) f ws

abbrev listed_choices : List Way → (Way → Choices) → Choices
listed_choices [] f = [] ∷ []
listed_choices (w ∷ []) f = f w
listed_choices (w ∷ more ∷ ws) f = [] ∷ branches 0 f (w ∷ more ∷ ws)

abbrev choices_within : ℕ → JobTree → Leads → Choices
choices_within n j (Ends s exit result) = [] ∷ []
choices_within n j (Cut s gap) = [] ∷ []
choices_within n j (IsPast s) = [] ∷ []
choices_within zero j (Next w) = [] ∷ []
choices_within (suc n) j (Next w) = listed_choices (ways j w) (λ name. choices_within n j (act j w name))

-- ---- they are the cases

map_map : {A B C : Type 0} (f : B → C) (g : A → B) (xs : List A) → map f (map g xs) ≡ map (λ x. f (g x)) xs
map_map f g [] = refl
map_map f g (x ∷ xs) = ap (λ z. f (g x) ∷ z) (map_map f g xs)

get_after : (pre : List Way) (w : Way) (ws : List Way) → slice_get (pre ++ w ∷ ws) (length pre) ≡ Some w
get_after [] w ws = refl
get_after (x ∷ pre) w ws = get_after pre w ws

abbrev Pick : Type 0
Pick = List ℕ → Way → Option Prefix

abbrev pick_at : List Way → Pick → List ℕ → Option Prefix
pick_at all f [] = None
pick_at all f (c ∷ cs) = go_on (slice_get all c) (f cs)

branch_cases : (pre ws all : List Way) (i : ℕ) (pick : Pick) (ch : Way → Choices) (pf : Way → List Prefix) → all ≡ pre ++ ws → i ≡ length pre →
    ((w : Way) → map (λ c. pick c w) (ch w) ≡ map Some (pf w)) →
    map (pick_at all pick) (branches i ch ws) ≡ map Some (flat_map pf ws)
branch_cases pre [] all i pick ch pf e l h = refl
branch_cases pre (w ∷ ws) all i pick ch pf e l h =
    let at : slice_get all i ≡ Some w = ap (λ z. slice_get z i) e ∙ ap (slice_get (pre ++ w ∷ ws)) l ∙ get_after pre w ws in
    let more : suc i ≡ length (pre ++ w ∷ []) = (let n : length (pre ++ w ∷ []) ≡ length pre + 1 = length-append pre (w ∷ []) in omega (arith, n, l)) in
    map-append (pick_at all pick) (map (λ c. i ∷ c) (ch w)) (branches (suc i) ch ws)
    ∙ ap (λ z. z ++ map (pick_at all pick) (branches (suc i) ch ws)) (map_map (pick_at all pick) (λ c. i ∷ c) (ch w) ∙ ap (λ z. map (λ c. go_on z (pick c)) (ch w)) at ∙ h w)
    ∙ ap (λ z. map Some (pf w) ++ z) (branch_cases (pre ++ w ∷ []) ws all (suc i) pick ch pf (e ∙ sym (append_assoc pre (w ∷ []) ws)) more h)
    ∙ sym (map-append Some (pf w) (flat_map pf ws))

same_on_branches : (s : State) (w more : Way) (ws : List Way) (pick : Pick) (i : ℕ) (ch : Way → Choices) (xs : List Way) →
    map (λ c. by_choice s (w ∷ more ∷ ws) c pick) (branches i ch xs) ≡ map (pick_at (w ∷ more ∷ ws) pick) (branches i ch xs)
same_on_branches s w more ws pick i ch [] = refl
same_on_branches s w more ws pick i ch (x ∷ xs) =
    map-append (λ c. by_choice s (w ∷ more ∷ ws) c pick) (map (λ c. i ∷ c) (ch x)) (branches (suc i) ch xs)
    ∙ ap (λ z. z ++ map (λ c. by_choice s (w ∷ more ∷ ws) c pick) (branches (suc i) ch xs))
    (map_map (λ c. by_choice s (w ∷ more ∷ ws) c pick) (λ c. i ∷ c) (ch x) ∙ sym (map_map (pick_at (w ∷ more ∷ ws) pick) (λ c. i ∷ c) (ch x)))
    ∙ ap (λ z. map (pick_at (w ∷ more ∷ ws) pick) (map (λ c. i ∷ c) (ch x)) ++ z) (same_on_branches s w more ws pick (suc i) ch xs)
    ∙ sym (map-append (pick_at (w ∷ more ∷ ws) pick) (map (λ c. i ∷ c) (ch x)) (branches (suc i) ch xs))

listed_cases : (s : State) (ws : List Way) (pick : Pick) (ch : Way → Choices) (pf : Way → List Prefix) → ((w : Way) → map (λ c. pick c w) (ch w) ≡ map Some (pf w)) →
    map (λ c. by_choice s ws c pick) (listed_choices ws ch) ≡ map Some (from_listed s ws pf)
listed_cases s [] pick ch pf h = refl
listed_cases s (w ∷ []) pick ch pf h = h w
listed_cases s (w ∷ more ∷ ws) pick ch pf h =
    ap (λ z. Some (Choice s) ∷ z) (same_on_branches s w more ws pick 0 ch (w ∷ more ∷ ws) ∙ branch_cases [] (w ∷ more ∷ ws) (w ∷ more ∷ ws) 0 pick ch pf refl refl h)

are_cases : (n : ℕ) (j : JobTree) (a : Leads) → map (λ c. case_within n j c a) (choices_within n j a) ≡ map Some (prefixes_within n j a)
are_cases n j (Ends s exit result) = refl
are_cases n j (Cut s gap) = refl
are_cases n j (IsPast s) = refl
are_cases zero j (Next w) = refl
are_cases (suc n) j (Next w) =
    listed_cases w.state (ways j w) (λ cs name. case_within n j cs (act j w name)) (λ name. choices_within n j (act j w name)) (λ name. prefixes_within n j (act j w name))
    (λ name. are_cases n j (act j w name))

-- ---- all of them

in_map : (i : ℕ) (c : List ℕ) (cs : Choices) → IsIn c cs → IsIn (i ∷ c) (map (λ x. i ∷ x) cs)
in_map i c [] h = absurd h
in_map i c (d ∷ cs) (inl e) = inl (ap (λ z. i ∷ z) e)
in_map i c (d ∷ cs) (inr h) = inr (in_map i c cs h)

none_is : {A : Type 0} (p : Prefix) → None ≡ Some p → A
none_is p e = cc

in_branches : (ws : List Way) (i k : ℕ) (c : List ℕ) (pick : Way → Option Prefix) (ch : Way → Choices) (p : Prefix) → go_on (slice_get ws k) pick ≡ Some p →
    ((w : Way) → pick w ≡ Some p → IsIn c (ch w)) → IsIn ((i + k) ∷ c) (branches i ch ws)
in_branches [] i k c pick ch p e h = none_is p e
in_branches (w ∷ ws) i zero c pick ch p e h =
    let z : i + 0 ≡ i = omega arith in
    subst (λ (m : ℕ). IsIn (m ∷ c) (branches i ch (w ∷ ws))) (sym z) (in_left (i ∷ c) (map (λ x. i ∷ x) (ch w)) (branches (suc i) ch ws) (in_map i c (ch w) (h w e)))
in_branches (w ∷ ws) i (suc k) c pick ch p e h =
    let z : suc i + k ≡ i + suc k = omega arith in
    in_right ((i + suc k) ∷ c) (map (λ x. i ∷ x) (ch w)) (branches (suc i) ch ws) (subst (λ (m : ℕ). IsIn (m ∷ c) (branches (suc i) ch ws)) z (in_branches ws (suc i) k c pick ch p e h))

in_end : (c : List ℕ) (q p : Prefix) → at_stop c q ≡ Some p → IsIn c ([] ∷ [])
in_end [] q p e = inl refl
in_end (x ∷ c) q p e = none_is p e

in_listed : (s : State) (ws : List Way) (c : List ℕ) (pick : Pick) (ch : Way → Choices) (p : Prefix) → by_choice s ws c pick ≡ Some p →
    ((w : Way) (d : List ℕ) → pick d w ≡ Some p → IsIn d (ch w)) → IsIn c (listed_choices ws ch)
in_listed s [] c pick ch p e h = in_end c (Dead s) p e
in_listed s (w ∷ []) c pick ch p e h = h w c e
in_listed s (w ∷ more ∷ ws) [] pick ch p e h = inl refl
in_listed s (w ∷ more ∷ ws) (k ∷ c) pick ch p e h =
    let z : 0 + k ≡ k = omega arith in
    inr (subst (λ (m : ℕ). IsIn (m ∷ c) (branches 0 ch (w ∷ more ∷ ws))) z (in_branches (w ∷ more ∷ ws) 0 k c (pick c) ch p e (λ x q. h x c q)))

all_in : (n : ℕ) (j : JobTree) (a : Leads) (c : List ℕ) (p : Prefix) → case_within n j c a ≡ Some p → IsIn c (choices_within n j a)
all_in n j (Ends s exit result) c p e = in_end c (Ended s exit result) p e
all_in n j (Cut s gap) c p e = in_end c (Dropped s gap) p e
all_in n j (IsPast s) c p e = in_end c (Past s) p e
all_in zero j (Next w) c p e = in_end c (Dead w.state) p e
all_in (suc n) j (Next w) c p e =
    in_listed w.state (ways j w) c (λ cs name. case_within n j cs (act j w name)) (λ name. choices_within n j (act j w name)) p e (λ name d q. all_in n j (act j w name) d p q)

-- ---- they rise

abbrev IsEarlierAll : List ℕ → Choices → Type 0
IsEarlierAll p [] = Unit {0}
IsEarlierAll p (q ∷ qs) = IsEarlier p q × IsEarlierAll p qs

abbrev Rises : Choices → Type 0
Rises [] = Unit {0}
Rises (p ∷ ps) = IsEarlierAll p ps × Rises ps

earlier_append : (p : List ℕ) (xs ys : Choices) → IsEarlierAll p xs → IsEarlierAll p ys → IsEarlierAll p (xs ++ ys)
earlier_append p [] ys h k = k
earlier_append p (x ∷ xs) ys h k = (h.0, earlier_append p xs ys h.1 k)

earlier_map : (i : ℕ) (p : List ℕ) (xs : Choices) → IsEarlierAll p xs → IsEarlierAll (i ∷ p) (map (λ x. i ∷ x) xs)
earlier_map i p [] h = tt
earlier_map i p (x ∷ xs) h = (inr (refl, h.0), earlier_map i p xs h.1)

less_map : (i k : ℕ) (p : List ℕ) (xs : Choices) → i < k → IsEarlierAll (i ∷ p) (map (λ x. k ∷ x) xs)
less_map i k p [] h = tt
less_map i k p (x ∷ xs) h = (inl h, less_map i k p xs h)

less_branches : (i k : ℕ) (p : List ℕ) (ch : Way → Choices) (ws : List Way) → i < k → IsEarlierAll (i ∷ p) (branches k ch ws)
less_branches i k p ch [] h = tt
less_branches i k p ch (w ∷ ws) h = earlier_append (i ∷ p) (map (λ x. k ∷ x) (ch w)) (branches (suc k) ch ws) (less_map i k p (ch w) h) (less_branches i (suc k) p ch ws (omega arith))

rise_append : (xs : Choices) (i : ℕ) (ys : Choices) → Rises xs → Rises ys → ((p : List ℕ) → IsEarlierAll (i ∷ p) ys) → Rises (map (λ x. i ∷ x) xs ++ ys)
rise_append [] i ys r q h = q
rise_append (x ∷ xs) i ys r q h = (earlier_append (i ∷ x) (map (λ z. i ∷ z) xs) ys (earlier_map i x xs r.0) (h x), rise_append xs i ys r.1 q h)

rise_branches : (i : ℕ) (ch : Way → Choices) (ws : List Way) → ((w : Way) → Rises (ch w)) → Rises (branches i ch ws)
rise_branches i ch [] h = tt
rise_branches i ch (w ∷ ws) h = rise_append (ch w) i (branches (suc i) ch ws) (h w) (rise_branches (suc i) ch ws h) (λ p. less_branches i (suc i) p ch ws (omega arith))

first_map : (i : ℕ) (xs : Choices) → IsEarlierAll [] (map (λ x. i ∷ x) xs)
first_map i [] = tt
first_map i (x ∷ xs) = (tt, first_map i xs)

empty_first : (i : ℕ) (ch : Way → Choices) (ws : List Way) → IsEarlierAll [] (branches i ch ws)
empty_first i ch [] = tt
empty_first i ch (w ∷ ws) = earlier_append [] (map (λ x. i ∷ x) (ch w)) (branches (suc i) ch ws) (first_map i (ch w)) (empty_first (suc i) ch ws)

rise_listed : (ws : List Way) (ch : Way → Choices) → ((w : Way) → Rises (ch w)) → Rises (listed_choices ws ch)
rise_listed [] ch h = (tt, tt)
rise_listed (w ∷ []) ch h = h w
rise_listed (w ∷ more ∷ ws) ch h = (empty_first 0 ch (w ∷ more ∷ ws), rise_branches 0 ch (w ∷ more ∷ ws) h)

rise : (n : ℕ) (j : JobTree) (a : Leads) → Rises (choices_within n j a)
rise n j (Ends s exit result) = (tt, tt)
rise n j (Cut s gap) = (tt, tt)
rise n j (IsPast s) = (tt, tt)
rise zero j (Next w) = (tt, tt)
rise (suc n) j (Next w) = rise_listed (ways j w) (λ name. choices_within n j (act j w name)) (λ name. rise n j (act j w name))

earlier_at : (p : List ℕ) (qs : Choices) (k : ℕ) (d : List ℕ) → IsEarlierAll p qs → k < length qs → IsEarlier p (slice_index_or qs k d)
earlier_at p [] k d h l = let n : ⊥ = omega arith in absurd n
earlier_at p (q ∷ qs) zero d h l = h.0
earlier_at p (q ∷ qs) (suc k) d h l = earlier_at p qs k d h.1 (omega arith)

all_pairs : (ps : Choices) → Rises ps → AllPairs IsEarlier ps
all_pairs [] r i k d l m = let n : ⊥ = omega arith in absurd n
all_pairs (p ∷ ps) r i zero d l m = let n : ⊥ = omega arith in absurd n
all_pairs (p ∷ ps) r zero (suc k) d l m = earlier_at p ps k d r.0 (omega arith)
all_pairs (p ∷ ps) r (suc i) (suc k) d l m = all_pairs ps r.1 i k d (omega arith) (omega arith)

pub prefixes_are_cases : PrefixesAreCases
unfolding prefixes case_of
prefixes_are_cases j =
    let n = acts_left_of j (Next (start j)) in
    let cs = choices_within n j (Next (start j)) in
    (cs, all_pairs cs (rise n j (Next (start j))), are_cases n j (Next (start j)), λ c p e. in_contains c cs (all_in n j (Next (start j)) c p e))
