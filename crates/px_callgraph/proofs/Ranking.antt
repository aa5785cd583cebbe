-- Ranks by the numbers of components.
use Rattle.std.proofs.Common.{◌≡◌, ◌≢◌, inl, inr, ℕ, ◌+◌, ◌<◌, ◌≤◌, List, [], ◌∷◌, ◌++◌, length, get_or, set, replicate, take, drop, max, refl, sym, subst, ap, ◌∙◌, arith, get_or-set_other, get_or-set_same}
use Rattle.std.specs.Prelude.{◌↔◌, All, Contains, Bool, true, false}
use Rattle.std.proofs.lemmas.Bool.{cases_eq, cases_lt}
use Rattle.std.proofs.lemmas.Grind.{get_or_default_zero}
use Rattle.std.proofs.lemmas.List.{take_all, drop_all, append-nil, get_or_past, get_or_push, get_or_append_left, length-replicate, get_or-replicate}
use Rattle.std.proofs.lemmas.List.Elements.{Contains-get_or, Contains-append_left, Contains-push, Contains-push_cases}
use Rattle.px_components.specs.Graphs.{IsEdge, AreComponents}
use Rattle.px_callgraph.specs.Working.{IsOutside, IsAboveOf, IsAbove, IsRanked, AreLow}

module _ (numbers : List ℕ) (kept : ℕ) where
  -- no targets
  pub above_none : (ranks : List ℕ) (x : ℕ) → IsAboveOf numbers kept ranks x [] 0
  above_none ranks x = record { above = λ y o. absurd (none y o.target); least = λ m h. omega arith }
    where
      none : (y : ℕ) → Contains [] y → ⊥
      none y (k, l, e) = omega arith

  -- one target more, which counts
  pub above_more : (ranks : List ℕ) (x : ℕ) (ys : List ℕ) (y n m : ℕ) → IsAboveOf numbers kept ranks x ys n → y < kept → get_or numbers y 0 ≢ get_or numbers x 0 → m ≡ max n (get_or ranks y 0 + 1) → IsAboveOf numbers kept ranks x (ys ++ y ∷ []) m
  above_more ranks x ys y n m h is_kept apart e = record {
    above = λ z o. elim (Contains-push_cases ys y z o.target) [
      | inl c ↦ (let l = h.above z (record { target = c; is_kept = o.is_kept; apart = o.apart }) in grind arith)
      | inr s ↦ (let f : get_or ranks y 0 ≡ get_or ranks z 0 = ap (λ w. get_or ranks w 0) s in grind arith)
    ];
    least = λ k below.
        let a = h.least k (λ z o. below z (record { target = Contains-append_left ys (y ∷ []) z o.target; is_kept = o.is_kept; apart = o.apart })) in
        let b = below y (record { target = Contains-push ys y; is_kept = is_kept; apart = apart }) in
        grind arith;
  }

  -- one target more, which doesn't count
  pub above_same : (ranks : List ℕ) (x : ℕ) (ys : List ℕ) (y n : ℕ) → IsAboveOf numbers kept ranks x ys n → ¬ ((y < kept) × (get_or numbers y 0 ≢ get_or numbers x 0)) → IsAboveOf numbers kept ranks x (ys ++ y ∷ []) n
  above_same ranks x ys y n h not = record {
    above = λ z o. elim (Contains-push_cases ys y z o.target) [
      | inl c ↦ h.above z (record { target = c; is_kept = o.is_kept; apart = o.apart })
      | inr s ↦ absurd (not (subst (λ w. (w < kept) × (get_or numbers w 0 ≢ get_or numbers x 0)) (sym s) (o.is_kept, o.apart)))
    ];
    least = λ k below. h.least k (λ z o. below z (record { target = Contains-append_left ys (y ∷ []) z o.target; is_kept = o.is_kept; apart = o.apart }));
  }

  pub above_beyond : (ranks : List ℕ) (x : ℕ) (ys : List ℕ) (y n : ℕ) → kept ≤ y → IsAboveOf numbers kept ranks x ys n → IsAboveOf numbers kept ranks x (ys ++ y ∷ []) n
  above_beyond ranks x ys y n l h = above_same ranks x ys y n h (λ (k, d). omega arith)

  pub above_within : (ranks : List ℕ) (x : ℕ) (ys : List ℕ) (y n : ℕ) → get_or numbers y 0 ≡ get_or numbers x 0 → IsAboveOf numbers kept ranks x ys n → IsAboveOf numbers kept ranks x (ys ++ y ∷ []) n
  above_within ranks x ys y n e h = above_same ranks x ys y n h (λ (k, d). d e)

  module _ (graph : List (List ℕ)) (falls : (x y : ℕ) → IsEdge graph x y → get_or numbers y 0 ≤ get_or numbers x 0) where
    -- ranks that are the same in lower components give the same rank
    above_as : (old new : List ℕ) (x n : ℕ) → ((y : ℕ) → get_or numbers y 0 < get_or numbers x 0 → get_or new y 0 ≡ get_or old y 0) → IsAbove graph numbers kept old x n → IsAbove graph numbers kept new x n
    above_as old new x n same h = record {
      above = λ y o. subst (λ z. z < n) (sym (at y o)) (h.above y o);
      least = λ m below. h.least m (λ y o. subst (λ z. z < m) (at y o) (below y o));
    }
      where
        at : (y : ℕ) → IsOutside numbers kept x (get_or graph x []) y → get_or new y 0 ≡ get_or old y 0
        at y o = same y (let l = falls x y o.target in let d = o.apart in omega arith)

    module _ (ranks : List ℕ) (node n : ℕ) (inside : node < length ranks) (is : IsAbove graph numbers kept ranks node n) where
      abbrev new : List ℕ
      new = set ranks node n

      other : (y : ℕ) → y ≢ node → get_or new y 0 ≡ get_or ranks y 0
      other y d = get_or-set_other ranks node y n 0 d

      lower : (x : ℕ) → get_or numbers x 0 ≤ get_or numbers node 0 → (y : ℕ) → get_or numbers y 0 < get_or numbers x 0 → get_or new y 0 ≡ get_or ranks y 0
      lower x l y m = other y (λ e. let f : get_or numbers y 0 ≡ get_or numbers node 0 = ap (λ z. get_or numbers z 0) e in omega arith)

      -- the node has its rank now
      pub node_ranked : IsRanked graph numbers kept new node
      node_ranked = subst (IsAbove graph numbers kept new node) (sym (get_or-set_same ranks node n 0 inside)) (above_as ranks new node n (lower node (omega arith)) is)

      -- and others keep theirs, where they aren't in a higher component
      pub others_ranked : (x : ℕ) → get_or numbers x 0 ≤ get_or numbers node 0 → IsRanked graph numbers kept ranks x → IsRanked graph numbers kept new x
      others_ranked x l h = elim (cases_eq x node) [
        | inl e ↦ subst (IsRanked graph numbers kept new) (sym e) node_ranked
        | inr d ↦ subst (IsAbove graph numbers kept new x) (sym (other x d)) (above_as ranks new x (get_or ranks x 0) (lower x l) h)
      ]

      -- the nodes of a list, one more
      pub more_ranked : (nodes : List ℕ) (i : ℕ) → get_or nodes i 0 ≡ node → ((k : ℕ) → k < i → get_or numbers (get_or nodes k 0) 0 ≡ get_or numbers node 0) →
          ((k : ℕ) → k < i → IsRanked graph numbers kept ranks (get_or nodes k 0)) → (k : ℕ) → k < i + 1 → IsRanked graph numbers kept new (get_or nodes k 0)
      more_ranked nodes i at here h k l = elim (cases_eq k i) [
        | inl e ↦ subst (IsRanked graph numbers kept new) (sym (ap (λ z. get_or nodes z 0) e ∙ at)) node_ranked
        | inr d ↦ (let m : k < i = omega arith in let e = here k m in others_ranked (get_or nodes k 0) (omega arith) (h k m))
      ]

      pub stay_low : n ≤ get_or numbers node 0 → AreLow numbers ranks → AreLow numbers new
      stay_low l h x = elim (cases_eq x node) [
        | inl e ↦ (let a : get_or new x 0 ≡ n = ap (λ z. get_or new z 0) e ∙ get_or-set_same ranks node n 0 inside in
            let b : get_or numbers x 0 ≡ get_or numbers node 0 = ap (λ z. get_or numbers z 0) e in omega arith)
        | inr d ↦ (let a = other x d in let b = h x in omega arith)
      ]

-- one answer more
pub pushed_each : (P : ℕ → Type 0) (bs : List Bool) (b : Bool) (n : ℕ) → length bs ≡ n → ((x : ℕ) → x < n → (get_or bs x false ≡ true) ↔ P x) → ((b ≡ true) ↔ P n) →
    (x : ℕ) → x < n + 1 → (get_or (bs ++ b ∷ []) x false ≡ true) ↔ P x
pushed_each P bs b n size h k x l = elim (cases_eq x n) [
  | inl e ↦ (let f : get_or (bs ++ b ∷ []) x false ≡ b = get_or_push bs b false x (size ∙ sym e) in (λ t. subst P (sym e) (k.0 (sym f ∙ t)), λ p. f ∙ k.1 (subst P e p)))
  | inr d ↦ (let m : x < n = omega arith in let f : get_or (bs ++ b ∷ []) x false ≡ get_or bs x false = get_or_append_left bs (b ∷ []) false x (omega arith) in (λ t. (h x m).0 (sym f ∙ t), λ p. f ∙ (h x m).1 p))
]

-- ranks at the start
pub zeros_low : (numbers : List ℕ) (n : ℕ) → AreLow numbers (replicate n 0)
zeros_low numbers n x = let e = zero_at x in omega arith
  where
    zero_at : (x : ℕ) → ◌≡◌ {A = ℕ} (get_or (replicate n 0) x 0) 0
    zero_at x = elim (cases_lt x n) [
      | inl l ↦ get_or-replicate n x 0 0 l
      | inr l ↦ get_or_past (replicate n 0) x 0 (omega (arith, length-replicate {A = ℕ} n 0))
    ]

-- the components before this one, and this one
pub component_ranked : (graph : List (List ℕ)) (numbers : List ℕ) (kept number : ℕ) (old new nodes : List ℕ) →
    ((x : ℕ) → x < length numbers → get_or numbers x 0 ≡ number → Contains nodes x) →
    ((x : ℕ) → x < length numbers → get_or numbers x 0 < number → IsRanked graph numbers kept old x) →
    ((x : ℕ) → get_or numbers x 0 < number → IsRanked graph numbers kept old x → IsRanked graph numbers kept new x) →
    ((x : ℕ) → Contains nodes x → IsRanked graph numbers kept new x) →
    (x : ℕ) → x < length numbers → get_or numbers x 0 < number + 1 → IsRanked graph numbers kept new x
component_ranked graph numbers kept number old new nodes all ranked before here x l m = elim (cases_eq (get_or numbers x 0) number) [
  | inl e ↦ here x (all x l e)
  | inr d ↦ (let n : get_or numbers x 0 < number = omega arith in before x n (ranked x l n))
]

-- each number is one of a component
pub number_below : (graph : List (List ℕ)) (numbers : List ℕ) (count x : ℕ) → AreComponents graph numbers count → x < length numbers → get_or numbers x 0 < count
number_below graph numbers count x h l = (h.dense (get_or numbers x 0)).1 (x, (let s = h.numbered in omega arith), refl)

pub numbers_below : (graph : List (List ℕ)) (numbers : List ℕ) (count : ℕ) → AreComponents graph numbers count → All (λ n. n < count) numbers
numbers_below graph numbers count h k d l = subst (λ z. z < count) (sym (get_or_default_zero numbers k d l)) (number_below graph numbers count k h l)

-- the nodes under a number
pub group_inside : (graph groups : List (List ℕ)) (numbers : List ℕ) (number : ℕ) (nodes : List ℕ) → length numbers ≡ length graph → nodes ≡ get_or groups number [] →
    ((n x : ℕ) → IsEdge groups n x ↔ ((x < length numbers) × (get_or numbers x 0 ≡ n))) → All (λ x. x < length graph) nodes
group_inside graph groups numbers number nodes size is edges k d l =
    let p = (edges number (get_or nodes k d)).0 (subst (λ (ys : List ℕ). Contains ys (get_or nodes k d)) is (Contains-get_or nodes k d l)) in
    let q = p.0 in omega arith

pub group_here : (groups : List (List ℕ)) (numbers : List ℕ) (number : ℕ) (nodes : List ℕ) → nodes ≡ get_or groups number [] →
    ((n x : ℕ) → IsEdge groups n x ↔ ((x < length numbers) × (get_or numbers x 0 ≡ n))) → All (λ x. get_or numbers x 0 ≡ number) nodes
group_here groups numbers number nodes is edges k d l =
    ((edges number (get_or nodes k d)).0 (subst (λ (ys : List ℕ). Contains ys (get_or nodes k d)) is (Contains-get_or nodes k d l))).1

pub contained_ranked : (P : ℕ → Type 0) (nodes : List ℕ) → ((k : ℕ) → k < length nodes → P (get_or nodes k 0)) → (x : ℕ) → Contains nodes x → P x
contained_ranked P nodes h x (k, l, e) = subst P (sym (get_or_default_zero nodes k x l) ∙ e) (h k l)

-- a list that takes another's place
pub written_back : (old new : List ℕ) (len : ℕ) → len ≡ length new → length new ≡ length old → take len (new ++ drop (length new) old) ≡ new
written_back old new len l e =
    let d : drop (length new) old ≡ [] = drop_all (length new) old (omega arith) in
    ap (λ (z : List ℕ). take len (new ++ z)) d ∙ ap (λ (z : List ℕ). take len z) (append-nil new) ∙ take_all len new (omega arith)
