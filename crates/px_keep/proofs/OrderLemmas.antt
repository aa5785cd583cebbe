-- The order in which procedures are made.
use Rattle.std.proofs.Common.{◌≡◌, ℕ, zero, suc, ◌<◌, ◌≤◌, List, [], ◌∷◌, length, get_or, Bool, true, false, Some, sym, ap, ◌∙◌, subst, inl, inr, arith}
use Rattle.std.specs.Prelude.{slice_get}
use Rattle.std.specs.List.{AllByRecursion}
use Rattle.std.proofs.lemmas.Bool.{cases_Bool, cases_lt}
use Rattle.std.proofs.lemmas.Option.{same_Some, slice_get_within}
use Rattle.px_core.specs.declared.body.Body.{Body}
use Rattle.px_core.specs.BodyTree.{BodyTree, body_tree}
use Rattle.px_callgraph.specs.CallGraphs.{bodies_in, IsGraphOf}
use Rattle.px_callgraph.specs.Ranks.{IsRank}
use Rattle.px_symexec.specs.One.{Work, IsTabled}
use Rattle.px_jobs.specs.Plans.{is_among}
use Rattle.px_jobs.proofs.OutLemmas.{any_among, among_any}
use Rattle.px_findings.specs.declared.order.Turn.{Turn}
use Rattle.px_findings.specs.Orders.{AreTurns, RiseInRanks}
use Rattle.px_findings.proofs.ReadyLemmas.{stands, ready_at}
use Rattle.px_keep.specs.Making.{IsOrder}
use Rattle.px_keep.specs.Keeping.{AreRanked}

read_at : (xs : List Bool) (n : ℕ) (b : Bool) → n < length xs → get_or xs n false ≡ b → slice_get xs n ≡ Some b
read_at [] n b l e = absurd (omega arith)
read_at (x ∷ xs) zero b l e = ap Some e
read_at (x ∷ xs) (suc n) b l e = read_at xs n b (omega arith) e

module _ (w : Work) (graph : List (List ℕ)) (is : IsGraphOf w.bodies graph) (many : length graph ≡ w.kept) (marked : List Bool) (size : length marked ≡ w.kept)
    (by : (n : ℕ) → n < w.kept → get_or marked n false ≡ is_among n w.out) (order : List Turn) (turns : AreTurns graph marked order) where
  marks : (n : ℕ) → n < w.kept → slice_get marked n ≡ Some (is_among n w.out)
  marks n l = read_at marked n (is_among n w.out) (omega arith) (by n l)

  free : (n : ℕ) → IsTabled w n → slice_get marked n ≡ Some false
  free n t = elim (cases_Bool (is_among n w.out)) [
    | inl marked_out ↦ absurd (t.1 (among_any n w.out marked_out))
    | inr unmarked ↦ marks n t.0 ∙ ap Some unmarked
  ]

  tabled : (n : ℕ) → slice_get marked n ≡ Some false → IsTabled w n
  tabled n e = (inside, λ out. apart (same_Some (is_among n w.out) false (sym (marks n inside) ∙ e)) (any_among n w.out out))
    where
      inside : n < w.kept
      inside = let l = slice_get_within marked n false e in omega arith

      apart : {b : Bool} → b ≡ false → b ≡ true → ⊥
      apart e f = cc

  pub is_order : IsOrder w order
  is_order = record {
    tabled = λ k d l. tabled (get_or order k d).number (turns.each k d l).small;
    others = λ i k d l m e. (turns.in_order i k d l m).other (sym e);
    all = λ n t. let (k, d, l, e, same) = stands w graph is many marked free order turns n t in (k, d, l, ap (λ (z : Turn). z.number) e ∙ same);
    ready = λ parts i d l done. ready_at w graph is many marked free order turns parts i d l (tabled (get_or order i d).number (turns.each i d l).small).0 done;
  }

  pub ranked : RiseInRanks order → AreRanked w order
  ranked rising = record {
    each = λ k d l. (tabled (get_or order k d).number (turns.each k d l).small, subst (λ n. IsRank w.bodies n (get_or order k d).number (get_or order k d).rank) many ((turns.each k d l).ranked w.bodies is));
    all = λ n t. turns.all n (free n t);
    in_order = λ i k d l m. elim (cases_lt (get_or order i d).rank (get_or order k d).rank) [
      | inl lower ↦ inl lower
      | inr not_lower ↦ (let low = (turns.in_order i k d l m).rank in let same : (get_or order i d).rank ≡ (get_or order k d).rank = omega arith in inr (same, rising i k d l m same))
    ];
  }

-- a body in the list has few parameters
pub few_in : (bodies : List Body) (f : ℕ) (b : BodyTree) → AllByRecursion (λ (x : Body). length x.parameters ≤ 16) bodies → bodies_in bodies f ≡ Some b → length b.parameters ≤ 16
few_in [] f b few e = let z : ⊥ = cc in absurd z
few_in (x ∷ xs) zero b few e = subst (λ (t : BodyTree). length t.parameters ≤ 16) (same_Some (body_tree x) b e) few.0
few_in (x ∷ xs) (suc f) b few e = few_in xs f b few.1 e
