-- One turn: the procedure's job over the parts so far.
use Rattle.std.proofs.Common.{◌≡◌, ℕ, ◌<◌, ◌≤◌, List, length, get_or, ap, sym, ◌∙◌, subst}
use Rattle.std.specs.List.{AllByRecursion}
use Rattle.std.proofs.lemmas.List.{get_or_default}
use Rattle.px_core.specs.declared.body.Body.{Body}
use Rattle.px_callgraph.specs.CallGraphs.{bodies_in, IsGraphOf}
use Rattle.px_callgraph.specs.JobTree.{JobTree}
use Rattle.px_symexec.specs.One.{IsJob}
use Rattle.px_pieces.specs.declared.findings.Part.{Part}
use Rattle.px_jobs.specs.Plans.{IsReady, tables_at}
use Rattle.px_jobs.specs.Sources.{SourceParts, source_work}
use Rattle.px_findings.specs.declared.order.Turn.{Turn}
use Rattle.px_keep.specs.Making.{HaveTables, IsOrder, CanBeMade}
use Rattle.px_keep.proofs.MakingLemmas.{any_turn}
use Rattle.px_keep.proofs.OrderLemmas.{few_in}

-- the same parts and order, where they are told once more
pub can_be_made : (s t : SourceParts) (graph : List (List ℕ)) (kept : ℕ) (order told : List Turn) → t ≡ s → told ≡ order → length graph ≡ kept → length s.bodies ≡ kept → IsGraphOf (bodies_in s.bodies) graph →
    AllByRecursion (λ (b : Body). length b.parameters ≤ 16) s.bodies → IsOrder (source_work s kept) order → CanBeMade t graph kept told
can_be_made s t graph kept order told same is called bodies graph_is few ordered =
    subst (CanBeMade t graph kept) (sym is) (subst (λ z. CanBeMade z graph kept order) (sym same) (record {
      all_called = called;
      all_bodies = bodies;
      graph_is = graph_is;
      few = few;
      ordered = ordered;
    }))

-- the job of the procedure whose turn is at this place
pub record IsOfTurn (s : SourceParts) (kept : ℕ) (order : List Turn) (parts : List Part) (i : ℕ) (j : JobTree) : Type 0 where
  pub job : IsJob (source_work s kept) (tables_at parts) j.proc.0 j
  pub turn : (d : Turn) → j.proc.0 ≡ (get_or order i d).number
  pub proc : j.proc.0 < kept
  pub parameters : length j.body.parameters ≤ 16

module _ (s : SourceParts) (graph : List (List ℕ)) (kept : ℕ) (order : List Turn) (can : CanBeMade s graph kept order) (parts : List Part) (i : ℕ) (below : i < length order) (before : HaveTables order parts i) where
  abbrev n : ℕ
  n = (get_or order i any_turn).number

  ready : IsReady (source_work s (length graph)) parts n
  ready = subst (λ k. IsReady (source_work s k) parts n) (sym can.all_called) (can.ordered.ready parts i any_turn below before)

  pub of_turn : (j : JobTree) → (IsGraphOf (bodies_in s.bodies) graph → IsReady (source_work s (length graph)) parts n → IsJob (source_work s (length graph)) (tables_at parts) n j) → IsOfTurn s kept order parts i j
  of_turn j h = record {
    job = subst (λ m. IsJob (source_work s kept) (tables_at parts) m j) (sym its.proc) its;
    turn = λ d. its.proc ∙ ap (λ (t : Turn). t.number) (get_or_default order i any_turn d below);
    proc = subst (λ m. m < kept) (sym its.proc) (can.ordered.tabled i any_turn below).0;
    parameters = few_in s.bodies n j.body can.few its.body;
  }
    where
      its : IsJob (source_work s kept) (tables_at parts) n j
      its = subst (λ k. IsJob (source_work s k) (tables_at parts) n j) can.all_called (h can.graph_is ready)
