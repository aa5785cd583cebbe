-- Targets that rise.
use Rattle.std.proofs.Common.{◌≡◌, ◌≢◌, inl, inr, ℕ, ◌-◌, ◌<◌, ◌≤◌, List, [], ◌∷◌, ◌++◌, length, get_or, set, replicate, sym, subst, ap, ◌∙◌, arith, get_or-set_other, get_or-set_same}
use Rattle.std.specs.Prelude.{Contains}
use Rattle.std.proofs.lemmas.Bool.{cases_eq, cases_lt}
use Rattle.std.proofs.lemmas.Grind.{get_or_default_zero}
use Rattle.std.proofs.lemmas.List.{get_or_past, get_or_push, get_or_append_left, length-append, length-replicate, get_or-replicate}
use Rattle.std.proofs.lemmas.List.Quantifiers.{all_pairs_push}
use Rattle.std.proofs.lemmas.List.Elements.{Contains-get_or}
use Rattle.px_callgraph.specs.Working.{RisesTo, AllRiseTo}

pub none_rise : (n : ℕ) → RisesTo n []
none_rise n = record { rising = λ i j d l m. absurd (omega arith); most = λ k l. absurd (omega arith) }

pub rise_further : (m n : ℕ) (ys : List ℕ) → m ≤ n → RisesTo m ys → RisesTo n ys
rise_further m n ys l h = record { rising = h.rising; most = λ k i. let j = h.most k i in omega arith }

-- n after others that rise to it, where it isn't the last of them
pub rise_on : (n : ℕ) (ys : List ℕ) → (0 < length ys → get_or ys (length ys - 1) 0 ≢ n) → RisesTo n ys → RisesTo n (ys ++ n ∷ [])
rise_on n ys other h = record {
  rising = all_pairs_push (λ a b. a < b) ys n h.rising (λ k d l. subst (λ z. z < n) (sym (get_or_default_zero ys k d l)) (below k l));
  most = λ k l. most k l;
}
  where
    below : (k : ℕ) → k < length ys → get_or ys k 0 < n
    below k l = elim (cases_lt k (length ys - 1)) [
      | inl i ↦ (let a = h.rising k (length ys - 1) 0 i (omega arith) in let b = h.most (length ys - 1) (omega arith) in omega arith)
      | inr i ↦ (let e : k ≡ length ys - 1 = omega arith in
          let f = h.most k l in
          let g : get_or ys k 0 ≢ n = subst (λ z. get_or ys z 0 ≢ n) (sym e) (other (omega arith)) in
          omega arith)
    ]

    most : (k : ℕ) → k < length (ys ++ n ∷ []) → get_or (ys ++ n ∷ []) k 0 ≤ n
    most k l = elim (cases_lt k (length ys)) [
      | inl i ↦ (let e : get_or (ys ++ n ∷ []) k 0 ≡ get_or ys k 0 = get_or_append_left ys (n ∷ []) 0 k i in let m = h.most k i in omega arith)
      | inr i ↦ (let e : length ys ≡ k = omega (arith, length-append ys (n ∷ [])) in let f = get_or_push ys n 0 k e in omega arith)
    ]

pub last_contained : (ys : List ℕ) (n : ℕ) → 0 < length ys → get_or ys (length ys - 1) 0 ≡ n → Contains ys n
last_contained ys n l e = subst (Contains ys) e (Contains-get_or ys (length ys - 1) 0 (omega arith))

-- one node's targets
pub all_rise_set : (n x : ℕ) (graph : List (List ℕ)) (ys : List ℕ) → x < length graph → AllRiseTo n graph → RisesTo n ys → AllRiseTo n (set graph x ys)
all_rise_set n x graph ys l h k z = elim (cases_eq z x) [
  | inl e ↦ subst (RisesTo n) (sym (ap (λ w. get_or (set graph x ys) w []) e ∙ get_or-set_same graph x ys [] l)) k
  | inr d ↦ subst (RisesTo n) (sym (get_or-set_other graph x z ys [] d)) (h z)
]

pub all_rise_further : (m n : ℕ) (graph : List (List ℕ)) → m ≤ n → AllRiseTo m graph → AllRiseTo n graph
all_rise_further m n graph l h x = rise_further m n (get_or graph x []) l (h x)

abbrev nothing : List ℕ
nothing = []

pub no_targets_rise : (n m : ℕ) → AllRiseTo m (replicate n nothing)
no_targets_rise n m x = subst (RisesTo m) (sym (is x)) (none_rise m)
  where
    is : (x : ℕ) → get_or (replicate n nothing) x [] ≡ []
    is x = elim (cases_lt x n) [
      | inl l ↦ get_or-replicate n x nothing nothing l
      | inr l ↦ get_or_past (replicate n nothing) x nothing (omega (arith, length-replicate n nothing))
    ]

-- n after one node's targets
pub rises_at : (n x : ℕ) (graph : List (List ℕ)) (ys : List ℕ) → ys ≡ get_or graph x [] → x < length graph → AllRiseTo n graph → (RisesTo n ys → RisesTo n (ys ++ n ∷ [])) → AllRiseTo n (set graph x (get_or graph x [] ++ n ∷ []))
rises_at n x graph ys e l h on =
    all_rise_set n x graph (get_or graph x [] ++ n ∷ []) l h (subst (λ zs. RisesTo n (zs ++ n ∷ [])) e (on (subst (RisesTo n) (sym e) (h x))))
