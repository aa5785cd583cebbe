-- Calls that are turned round.
use Rattle.std.proofs.Common.{◌≡◌, inl, inr, ℕ, ◌+◌, ◌<◌, ◌≤◌, List, [], ◌∷◌, length, get_or, refl, sym, ap, subst, ◌∙◌, arith}
use Rattle.std.specs.Prelude.{Contains}
use Rattle.std.proofs.lemmas.Bool.{cases_eq}
use Rattle.std.proofs.lemmas.List.{get_or_default, length-map}
use Rattle.px_base.specs.declared.trace.ProcId.{ProcId}
use Rattle.px_components.specs.Graphs.{IsEdge}
use Rattle.px_components.proofs.Edges.{edge_from}
use Rattle.px_callgraph.specs.Working.{numbers_of}
use Rattle.px_book.specs.RollKeeping.{AreCallers}
use Rattle.px_book.proofs.ReadyLemmas.{zero_proc, number_at}

-- the first n of these have their edges
pub record HasEdges (old : List (List ℕ)) (callees : List ProcId) (caller : ℕ) (new : List (List ℕ)) (n : ℕ) : Type 0 where
  pub size : length new ≡ length old
  pub kept : (x y : ℕ) → IsEdge old x y → IsEdge new x y
  pub added : (k : ℕ) → k < n → (get_or callees k zero_proc).0 < length old → IsEdge new (get_or callees k zero_proc).0 caller

pub one_more : (old mid new : List (List ℕ)) (callees : List ProcId) (caller n : ℕ) → HasEdges old callees caller mid n → length new ≡ length mid → ((x y : ℕ) → IsEdge mid x y → IsEdge new x y) →
    ((get_or callees n zero_proc).0 < length mid → IsEdge new (get_or callees n zero_proc).0 caller) → HasEdges old callees caller new (n + 1)
one_more old mid new callees caller n h size kept added = record {
  size = size ∙ h.size;
  kept = λ x y e. kept x y (h.kept x y e);
  added = λ k l i. elim (cases_eq k n) [
    | inl e ↦ subst (λ z. IsEdge new (get_or callees z zero_proc).0 caller) (sym e) (added (subst (λ z. (get_or callees n zero_proc).0 < z) (sym h.size) (subst (λ z. (get_or callees z zero_proc).0 < length old) e i)))
    | inr d ↦ kept _ _ (h.added k (omega arith) i)
  ];
}

pub all_added : (old new : List (List ℕ)) (callees : List ProcId) (caller n g : ℕ) → length callees ≤ n → HasEdges old callees caller new n → Contains (numbers_of callees) g → g < length old → IsEdge new g caller
all_added old new callees caller n g last h (k, l, e) i =
    let m = length-map callees (λ (p : ProcId). p.0) in
    let inside : k < length callees = omega arith in
    let q : (get_or callees k zero_proc).0 ≡ g = sym (number_at callees k zero_proc inside) ∙ get_or_default (numbers_of callees) k 0 g l ∙ e in
    subst (λ z. IsEdge new z caller) q (h.added k (omega arith) (subst (λ z. z < length old) (sym q) i))

-- the calls of those before n are turned round
pub record AreTurned (graph callers : List (List ℕ)) (n : ℕ) : Type 0 where
  pub size : length callers ≡ length graph
  pub turned : (f g : ℕ) → f < n → IsEdge graph f g → g < length graph → IsEdge callers g f

pub turned_more : (graph callers new : List (List ℕ)) (callees : List ProcId) (n : ℕ) → AreTurned graph callers n → numbers_of callees ≡ get_or graph n [] → length new ≡ length callers →
    ((x y : ℕ) → IsEdge callers x y → IsEdge new x y) → ((g : ℕ) → Contains (numbers_of callees) g → g < length callers → IsEdge new g n) → AreTurned graph new (n + 1)
turned_more graph callers new callees n h is size kept added = record {
  size = size ∙ h.size;
  turned = λ f g l e i. elim (cases_eq f n) [
    | inl q ↦ subst (IsEdge new g) (sym q) (added g (subst (λ z. Contains z g) (sym is) (subst (λ z. IsEdge graph z g) q e)) (subst (λ z. g < z) (sym h.size) i))
    | inr d ↦ kept g f (h.turned f g (omega arith) e i)
  ];
}

pub all_turned : (graph callers : List (List ℕ)) (n : ℕ) → length graph ≤ n → AreTurned graph callers n → AreCallers graph callers
all_turned graph callers n last h = record {
  size = h.size;
  turned = λ f g e i. h.turned f g (let l = edge_from graph f g e in omega arith) e i;
}
