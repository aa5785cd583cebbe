-- The callers of a procedure that is settled, one after another.
use Rattle.std.proofs.Common.{◌≡◌, ◌≢◌, ◌⊎◌, inl, inr, ℕ, suc, ◌+◌, ◌<◌, ◌≤◌, ◌&&◌, List, [], length, get_or, set, Bool, false, nat_eq, Option, Some, None, refl, sym, ap, subst, ◌∙◌, arith}
use Rattle.std.specs.Prelude.{Contains}
use Rattle.std.proofs.lemmas.Bool.{cases_eq, cases_lt}
use Rattle.std.proofs.lemmas.List.{get_or_default}
use Rattle.px_core.specs.BodyTree.{BodyTree}
use Rattle.px_callgraph.specs.CallGraphs.{IsGraphOf}
use Rattle.px_pieces.specs.declared.desk.Status.{Status}
use Rattle.px_book.specs.declared.ready.Ready.{Ready}
use Rattle.px_book.specs.Ready.{status_at, is_unsettled, callees_in, NoneBlocks, IsPast, for_workers, for_parent, IsFlagged, IsSized, SameOf, IsReady}
use Rattle.px_book.specs.RollKeeping.{AreCallers}
use Rattle.px_book.proofs.ReadyLemmas.{flags_other, inside_kept, none_kept, past_kept}

-- as many callees of g are passed as can be
abbrev pub IsPassed : List (List ℕ) → List (Option Status) → Ready → ℕ → Type 0
IsPassed graph statuses r g = (bodies : ℕ → Option BodyTree) → IsGraphOf bodies graph → IsPast bodies statuses g (callees_in graph g) (get_or r.passed.items g 0)

-- where both say the same of g, its flags are right in both
pub flagged_same : (graph : List (List ℕ)) (statuses : List (Option Status)) (r s : Ready) (g : ℕ) → SameOf g r s → IsFlagged graph statuses r g → IsFlagged graph statuses s g
flagged_same graph statuses r s g q h = record {
  workers = q.workers ∙ h.workers ∙ ap (λ b. for_workers (status_at statuses g) && nat_eq b (length (callees_in graph g))) (sym q.passed);
  parent = q.parent ∙ h.parent ∙ ap (λ b. for_parent (status_at statuses g) && nat_eq b (length (callees_in graph g))) (sym q.passed);
}

-- one of these from a place on
abbrev pub IsAmong : List ℕ → ℕ → ℕ → Type 0
IsAmong cs i g = (k : ℕ) × (i ≤ k) × (k < length cs) × (get_or cs k 0 ≡ g)

-- all is ready, but that callees of the callers from a place on may have to be passed
pub record IsSettling (graph : List (List ℕ)) (statuses : List (Option Status)) (cs : List ℕ) (r : Ready) (i : ℕ) : Type 0 where
  pub sized : IsSized (length graph) r
  pub flagged : (g : ℕ) → g < length graph → IsFlagged graph statuses r g
  pub inside : (g : ℕ) → g < length graph → get_or r.passed.items g 0 ≤ length (callees_in graph g)
  pub none : (bodies : ℕ → Option BodyTree) → IsGraphOf bodies graph → (g : ℕ) → g < length graph →
      NoneBlocks bodies statuses g (callees_in graph g) (get_or r.passed.items g 0)
  pub passed : (g : ℕ) → g < length graph → IsPassed graph statuses r g ⊎ IsAmong cs i g

-- after the change of the status itself
module _ (graph callers : List (List ℕ)) (statuses : List (Option Status)) (f : ℕ) (x : Option Status) (inside : f < length statuses) (settled : is_unsettled x ≡ false)
    (r s : Ready) (h : IsReady graph statuses r) (calls : AreCallers graph callers) (here : f < length graph) (kept : s.passed.items ≡ r.passed.items) where
  abbrev new : List (Option Status)
  new = set statuses f x

  abbrev cs : List ℕ
  cs = get_or callers f []

  at : (g : ℕ) → get_or s.passed.items g 0 ≡ get_or r.passed.items g 0
  at g = ap (λ z. get_or z g 0) kept

  awaits_other : (g : ℕ) → g < length graph → (get_or r.passed.items g 0 < length (callees_in graph g) → get_or (callees_in graph g) (get_or r.passed.items g 0) 0 ≢ f) → IsPassed graph new s g
  awaits_other g l d bodies is = subst (λ z. IsPast bodies new g (callees_in graph g) z) (sym (at g))
      (past_kept graph statuses f x inside settled bodies g (callees_in graph g) (get_or r.passed.items g 0) (h.passed bodies is g l) d)

  awaits_it : (g : ℕ) → get_or r.passed.items g 0 < length (callees_in graph g) → get_or (callees_in graph g) (get_or r.passed.items g 0) 0 ≡ f → IsAmong cs 0 g
  awaits_it g l e =
      let (k, i, q) = calls.turned g f (get_or r.passed.items g 0, l, get_or_default (callees_in graph g) (get_or r.passed.items g 0) f 0 l ∙ e) here in
      (k, omega arith, i, get_or_default cs k 0 g i ∙ q)

  passed_or_among : (g : ℕ) → g < length graph → IsPassed graph new s g ⊎ IsAmong cs 0 g
  passed_or_among g l = elim (cases_lt (get_or r.passed.items g 0) (length (callees_in graph g))) [
    | inl m ↦ (elim (cases_eq (get_or (callees_in graph g) (get_or r.passed.items g 0) 0) f) [
      | inl e ↦ inr (awaits_it g m e)
      | inr d ↦ inl (awaits_other g l (λ _. d))
    ])
    | inr m ↦ inl (awaits_other g l (λ z. let n : ⊥ = omega arith in absurd n))
  ]

  pub settling : IsSized (length graph) s → IsFlagged graph new s f → ((g : ℕ) → g ≢ f → SameOf g r s) → IsSettling graph new cs s 0
  settling sized flagged others = record {
    sized = sized;
    flagged = flags_other graph statuses f x inside r s h flagged others;
    inside = inside_kept graph statuses f x inside r s h kept;
    none = λ bodies is g l. subst (NoneBlocks bodies new g (callees_in graph g)) (sym (at g))
        (none_kept graph statuses f x inside settled bodies g (callees_in graph g) (get_or r.passed.items g 0) (h.passed bodies is g l).none);
    passed = passed_or_among;
  }

-- one caller more is refreshed
module _ (graph : List (List ℕ)) (statuses : List (Option Status)) (cs : List ℕ) (i p : ℕ) (is : get_or cs i 0 ≡ p) (r s : Ready) (u : IsSettling graph statuses cs r i)
    (flagged : IsFlagged graph statuses s p) (inside : get_or s.passed.items p 0 ≤ length (callees_in graph p))
    (passed : (bodies : ℕ → Option BodyTree) → IsGraphOf bodies graph → NoneBlocks bodies statuses p (callees_in graph p) (get_or r.passed.items p 0) →
    IsPast bodies statuses p (callees_in graph p) (get_or s.passed.items p 0))
    (others : (g : ℕ) → g ≢ p → SameOf g r s) where
  here : p < length graph → IsPassed graph statuses s p
  here l bodies b = passed bodies b (u.none bodies b p l)

  flags : (g : ℕ) → g < length graph → IsFlagged graph statuses s g
  flags g l = elim (cases_eq g p) [
    | inl e ↦ subst (IsFlagged graph statuses s) (sym e) flagged
    | inr d ↦ flagged_same graph statuses r s g (others g d) (u.flagged g l)
  ]

  more : (g : ℕ) → g < length graph → IsPassed graph statuses s g ⊎ IsAmong cs (i + 1) g
  more g l = elim (cases_eq g p) [
    | inl e ↦ inl (subst (IsPassed graph statuses s) (sym e) (here (subst (λ z. z < length graph) e l)))
    | inr d ↦ (elim (u.passed g l) [
      | inl h ↦ inl (λ bodies b. subst (λ z. IsPast bodies statuses g (callees_in graph g) z) (sym (others g d).passed) (h bodies b))
      | inr (k, m, n, e) ↦ (elim (cases_eq k i) [
        | inl same ↦ absurd (d (sym e ∙ ap (λ z. get_or cs z 0) same ∙ is))
        | inr other ↦ inr (k, omega arith, n, e)
      ])
    ])
  ]

  pub settling_more : IsSized (length graph) s → IsSettling graph statuses cs s (i + 1)
  settling_more sized = record {
    sized = sized;
    flagged = flags;
    inside = λ g l. elim (cases_eq g p) [
      | inl e ↦ subst (λ z. get_or s.passed.items z 0 ≤ length (callees_in graph z)) (sym e) inside
      | inr d ↦ subst (λ z. z ≤ length (callees_in graph g)) (sym (others g d).passed) (u.inside g l)
    ];
    none = λ bodies b g l. elim (cases_eq g p) [
      | inl e ↦ subst (λ z. NoneBlocks bodies statuses z (callees_in graph z) (get_or s.passed.items z 0)) (sym e) (here (subst (λ z. z < length graph) e l) bodies b).none
      | inr d ↦ subst (NoneBlocks bodies statuses g (callees_in graph g)) (sym (others g d).passed) (u.none bodies b g l)
    ];
    passed = more;
  }

-- after the last
pub settled_all : (graph : List (List ℕ)) (statuses : List (Option Status)) (cs : List ℕ) (r : Ready) (i : ℕ) → length cs ≤ i → IsSettling graph statuses cs r i → IsReady graph statuses r
settled_all graph statuses cs r i last u = record {
  sized = u.sized;
  flagged = u.flagged;
  inside = u.inside;
  passed = λ bodies b g l. elim (u.passed g l) [
    | inl h ↦ h bodies b
    | inr (k, m, n, e) ↦ (let z : ⊥ = omega arith in absurd z)
  ];
}
