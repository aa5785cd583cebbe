-- In the order of their ranks, procedures stand after all that they call below.
use Rattle.std.proofs.Common.{◌≡◌, ℕ, ◌<◌, ◌≤◌, List, length, get_or, Bool, false, Some, ap, ◌∙◌, subst, inl, inr, arith}
use Rattle.std.specs.Prelude.{slice_get}
use Rattle.std.proofs.lemmas.Bool.{cases_eq, cases_lt}
use Rattle.std.proofs.lemmas.List.{get_or_default}
use Rattle.px_callgraph.specs.Callees.{IsCallee, AreTogether}
use Rattle.px_callgraph.specs.CallGraphs.{IsGraphOf}
use Rattle.px_callgraph.specs.Ranks.{IsRank}
use Rattle.px_callgraph.proofs.Uniqueness.{same_ranks}
use Rattle.px_symexec.specs.One.{Work, IsTabled}
use Rattle.px_pieces.specs.declared.findings.Part.{Part}
use Rattle.px_jobs.specs.Plans.{IsReady}
use Rattle.px_findings.specs.declared.order.Turn.{Turn}
use Rattle.px_findings.specs.Orders.{AreTurns}
use Rattle.px_findings.specs.Making.{HasTable}

rises : (w : Work) (kept f g m n : ℕ) → f < kept → g < kept → IsCallee w.bodies f g → ¬ AreTogether w.bodies f g → IsRank w.bodies kept g m → IsRank w.bodies kept f n → m < n
rises w kept f g m n i l callee apart (a, h, e) (b, k, d) =
    let s = same_ranks w.bodies kept a b h k g l in
    let r = k.above f g i (record { callee = callee; is_kept = l; apart = apart }) in
    omega arith

module _ (w : Work) (graph : List (List ℕ)) (is : IsGraphOf w.bodies graph) (many : length graph ≡ w.kept) (marked : List Bool)
    (free : (n : ℕ) → IsTabled w n → slice_get marked n ≡ Some false) (order : List Turn) (turns : AreTurns graph marked order) where
  -- a procedure that is to have a table stands in the order
  pub stands : (n : ℕ) → IsTabled w n → (k : ℕ) × (t : Turn) × (k < length order) × (get_or order k t ≡ t) × (t.number ≡ n)
  stands n t = turns.all n (free n t)

  -- one is ready where all before it have their tables
  pub ready_at : (parts : List Part) (i : ℕ) (d : Turn) → i < length order → (get_or order i d).number < w.kept →
      ((k : ℕ) (e : Turn) → k < i → k < length order → HasTable parts (get_or order k e).number) → IsReady w parts (get_or order i d).number
  ready_at parts i d l here done g calls tabled apart =
      let (k, t, m, e, q) = stands g tabled in
      let ranked = (turns.each i d l).ranked w.bodies is in
      let its = subst (λ (z : Turn). IsRank w.bodies (length graph) z.number z.rank) e ((turns.each k t m).ranked w.bodies is) in
      let below : t.rank < (get_or order i d).rank =
      rises w (length graph) (get_or order i d).number g t.rank (get_or order i d).rank (omega arith) (let a = tabled.0 in omega arith) calls apart
      (subst (λ z. IsRank w.bodies (length graph) z t.rank) q its) ranked in
      elim (cases_lt k i) [
        | inl b ↦ subst (HasTable parts) (ap (λ (z : Turn). z.number) e ∙ q) (done k t b m)
        | inr b ↦ absurd (not_after k t m e b below)
      ]
    where
      not_after : (k : ℕ) (t : Turn) → k < length order → get_or order k t ≡ t → i ≤ k → t.rank < (get_or order i d).rank → ⊥
      not_after k t m e b below =
          let at : get_or order k d ≡ t = get_or_default order k d t m ∙ e in
          elim (cases_eq i k) [
            | inl s ↦ (let r : (get_or order i d).rank ≡ t.rank = ap (λ (z : Turn). z.rank) (ap (λ z. get_or order z d) s ∙ at) in omega arith)
            | inr a ↦ (let r = (turns.in_order i k d (omega arith) m).rank in let q : (get_or order k d).rank ≡ t.rank = ap (λ (z : Turn). z.rank) at in omega arith)
          ]
