-- One turn: the procedure's body is there, and its part is the next.
use Rattle.std.proofs.Common.{◌≡◌, ◌≢◌, ℕ, ◌+◌, ◌<◌, ◌≤◌, List, length, get_or, set, Some, sym, ap, ◌∙◌, subst, arith}
use Rattle.std.specs.Prelude.{slice_get, option_map}
use Rattle.px_base.specs.Bounds.{most_parameters}
use Rattle.px_core.specs.declared.body.Body.{Body}
use Rattle.px_core.specs.BodyTree.{body_tree}
use Rattle.px_symexec.specs.One.{Work}
use Rattle.px_pieces.specs.declared.findings.Part.{Part}
use Rattle.px_findings.specs.declared.order.Turn.{Turn}
use Rattle.px_findings.specs.declared.plan.Plan.{Plan}
use Rattle.px_findings.specs.declared.progress.Progress.{Progress}
use Rattle.px_jobs.specs.Plans.{IsPlan, IsReady, tables_at}
use Rattle.px_findings.specs.declared.exploration.Exploration.{Exploration}
use Rattle.px_findings.specs.Jobs.{IsShared, IsAnalysedOf}
use Rattle.px_findings.specs.Analyses.{AreBeside}
use Rattle.px_findings.specs.Making.{AreMade, AreUnderWay}
use Rattle.px_findings.proofs.Making.{made_more, beside_more}

module _ (p : Plan) (order : List Turn) (m : Progress) (i : ℕ) (d : Turn) (below : i < length order) (w : Work) (u : AreUnderWay w p order m i) where
  abbrev n : ℕ
  n = (get_or order i d).number

  inside : n < w.kept
  inside = (u.ordered.tabled i d below).0

  pub inside_bodies : n < length m.bodies.items
  inside_bodies = let e = u.made.size_bodies in let l = inside in omega arith

  pub inside_parts : n < length m.parts.items
  inside_parts = let e = u.made.size in let l = inside in omega arith

  pub inside_plan : n < p.kept
  inside_plan = let a = p.all in let e = u.plan.kept in let l = inside in omega arith

  pub many_parts : length m.parts.items ≡ p.kept
  many_parts = let a = p.all in let e = u.plan.kept in let s = u.made.size in omega arith

  pub body_is : (b : Body) → slice_get m.bodies.items n ≡ Some b → w.bodies n ≡ Some (body_tree b)
  body_is b e = (u.made.to_do i d (let z : i ≤ i = omega arith in z) below).body ∙ ap (option_map body_tree) e

  pub few : (b : Body) → slice_get m.bodies.items n ≡ Some b → length b.parameters ≤ most_parameters
  few b e = u.few n (body_tree b) (body_is b e)

  pub next : (v : Progress) (b : Body) (x : Part) (found : Exploration) → slice_get m.bodies.items n ≡ Some b → v.shared ≡ m.shared → length v.bodies.items ≡ length m.bodies.items →
      ((k : ℕ) → k ≢ n → slice_get v.bodies.items k ≡ slice_get m.bodies.items k) → v.parts.items ≡ set m.parts.items n x → v.explorations.items ≡ set m.explorations.items n (Some found) →
      (IsPlan w p.graph p.out.items → IsShared w m.shared → IsReady w m.parts.items n → w.bodies n ≡ Some (body_tree b) → IsAnalysedOf w (tables_at m.parts.items) n x found) →
      AreUnderWay w p order v (i + 1)
  next v b x found e shared many others put beside made = record {
    plan = u.plan;
    ordered = u.ordered;
    shared = subst (IsShared w) (sym shared) u.shared;
    few = u.few;
    made = subst (λ z. AreMade w order v.bodies.items z (i + 1)) (sym put)
        (made_more w order m.bodies.items v.bodies.items m.parts.items i d x found below u.made (λ k c l h. u.ordered.others i k c l h) (u.ordered.tabled i d below) analysed many others);
    beside = subst (λ z. AreBeside w (tables_at z) z v.explorations.items) (sym put) (subst (AreBeside w (tables_at (set m.parts.items n x)) (set m.parts.items n x)) (sym beside)
        (beside_more w order m.bodies.items v.bodies.items m.parts.items i d x found below u.made (λ k c l h. u.ordered.others i k c l h) (u.ordered.tabled i d below) analysed many others
        m.explorations.items u.beside));
  }
    where
      analysed : IsAnalysedOf w (tables_at m.parts.items) n x found
      analysed = made u.plan u.shared (u.ordered.ready m.bodies.items m.parts.items i d u.made below) (body_is b e)
