-- The procedures at the start, one after another.
use Rattle.std.proofs.Common.{◌≡◌, ◌≢◌, inl, inr, ℕ, ◌+◌, ◌<◌, ◌≤◌, List, [], length, get_or, Option, refl, sym, subst, ◌∙◌, arith}
use Rattle.std.proofs.lemmas.Bool.{cases_eq}
use Rattle.px_core.specs.BodyTree.{BodyTree}
use Rattle.px_callgraph.specs.CallGraphs.{IsGraphOf}
use Rattle.px_pieces.specs.declared.desk.Status.{Status}
use Rattle.px_book.specs.declared.ready.Ready.{Ready}
use Rattle.px_book.specs.Ready.{callees_in, NoneBlocks, IsPast, IsFlagged, IsSized, SameOf, IsReady}
use Rattle.px_book.proofs.SettleLemmas.{IsPassed, flagged_same}

-- those before this one are ready, and no callee of the others is passed
pub record IsBegun (graph : List (List ℕ)) (statuses : List (Option Status)) (r : Ready) (n : ℕ) : Type 0 where
  pub sized : IsSized (length graph) r
  pub flagged : (f : ℕ) → f < n → IsFlagged graph statuses r f
  pub inside : (f : ℕ) → f < n → get_or r.passed.items f 0 ≤ length (callees_in graph f)
  pub passed : (f : ℕ) → f < n → IsPassed graph statuses r f
  pub rest : (f : ℕ) → n ≤ f → get_or r.passed.items f 0 ≡ 0

none_first : (bodies : ℕ → Option BodyTree) (statuses : List (Option Status)) (f : ℕ) (callees : List ℕ) → NoneBlocks bodies statuses f callees 0
none_first bodies statuses f callees k l = let z : ⊥ = omega arith in absurd z

pub begun_more : (graph : List (List ℕ)) (statuses : List (Option Status)) (r s : Ready) (n : ℕ) → IsBegun graph statuses r n → IsSized (length graph) s → IsFlagged graph statuses s n →
    get_or s.passed.items n 0 ≤ length (callees_in graph n) →
    ((bodies : ℕ → Option BodyTree) → IsGraphOf bodies graph → NoneBlocks bodies statuses n (callees_in graph n) (get_or r.passed.items n 0) →
    IsPast bodies statuses n (callees_in graph n) (get_or s.passed.items n 0)) →
    ((g : ℕ) → g ≢ n → SameOf g r s) → IsBegun graph statuses s (n + 1)
begun_more graph statuses r s n h sized flagged inside passed others = record {
  sized = sized;
  flagged = λ f l. elim (cases_eq f n) [
    | inl e ↦ subst (IsFlagged graph statuses s) (sym e) flagged
    | inr d ↦ flagged_same graph statuses r s f (others f d) (h.flagged f (omega arith))
  ];
  inside = λ f l. elim (cases_eq f n) [
    | inl e ↦ subst (λ z. get_or s.passed.items z 0 ≤ length (callees_in graph z)) (sym e) inside
    | inr d ↦ subst (λ z. z ≤ length (callees_in graph f)) (sym (others f d).passed) (h.inside f (omega arith))
  ];
  passed = λ f l. elim (cases_eq f n) [
    | inl e ↦ subst (IsPassed graph statuses s) (sym e)
        (λ bodies is. passed bodies is (subst (NoneBlocks bodies statuses n (callees_in graph n)) (sym (h.rest n (omega arith))) (none_first bodies statuses n (callees_in graph n))))
    | inr d ↦ (let k = h.passed f (omega arith) in λ bodies is. subst (λ z. IsPast bodies statuses f (callees_in graph f) z) (sym (others f d).passed) (k bodies is))
  ];
  rest = λ f l. (others f (λ e. let z : ⊥ = omega arith in z)).passed ∙ h.rest f (omega arith);
}

pub begun_all : (graph : List (List ℕ)) (statuses : List (Option Status)) (r : Ready) (n : ℕ) → length graph ≤ n → IsBegun graph statuses r n → IsReady graph statuses r
begun_all graph statuses r n last h = record {
  sized = h.sized;
  flagged = λ f l. h.flagged f (omega arith);
  inside = λ f l. h.inside f (omega arith);
  passed = λ bodies is f l. h.passed f (omega arith) bodies is;
}
