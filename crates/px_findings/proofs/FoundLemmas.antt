-- The parts of a whole program, from the first to the last.
use Rattle.std.proofs.Common.{◌≡◌, ◌≢◌, ℕ, zero, suc, ◌<◌, ◌≤◌, List, [], length, get_or, replicate, Bool, Option, Some, None, refl, sym, ap, ◌∙◌, subst, arith}
use Rattle.std.specs.Prelude.{slice_get, option_and_then}
use Rattle.std.specs.List.{AllByRecursion}
use Rattle.std.proofs.lemmas.List.{length-replicate}
use Rattle.std.proofs.lemmas.Option.{none-some}
use Rattle.px_base.specs.Bounds.{most_parameters}
use Rattle.px_base.specs.LimitNumbers.{LimitNumbers}
use Rattle.px_core.specs.declared.body.Body.{Body}
use Rattle.px_syntax.specs.ProgramTree.{ProgramTree, ProcedureTree}
use Rattle.px_symexec.specs.One.{Work, IsTabled, IsTableIn, IsOne}
use Rattle.px_pieces.specs.declared.findings.Part.{Part}
use Rattle.px_pieces.specs.declared.findings.Part.TheVariants.{Tabled, LeftOut}
use Rattle.px_pieces.specs.Found.{table_of}
use Rattle.px_findings.specs.declared.order.Turn.{Turn}
use Rattle.px_findings.specs.declared.plan.Plan.{Plan}
use Rattle.px_findings.specs.Found.{work_of, AreFound}
use Rattle.px_findings.specs.Bodies.{AreLowered}
use Rattle.px_findings.specs.Orders.{AreTurns}
use Rattle.px_jobs.specs.Plans.{IsPlan, IsReady, tables_at}
use Rattle.px_findings.proofs.Places.{item_at}
use Rattle.px_findings.proofs.WordLemmas.{one_tabled}
use Rattle.px_findings.proofs.PlanLemmas.{many_bodies}
use Rattle.px_findings.proofs.ReadyLemmas.{ready_at}
use Rattle.px_findings.proofs.SmallLemmas.{tabled_small, small_tabled, small_body, few_of}
use Rattle.px_findings.specs.declared.progress.Progress.{Progress}
use Rattle.px_findings.specs.Jobs.{IsShared}
use Rattle.px_findings.specs.Analyses.{IsBeside}
use Rattle.px_findings.specs.Making.{AreMade, IsPartSoFar, HasTable, IsOrder, AreUnderWay}

pub all_same : {A : Type 0} (k n : ℕ) (a x : A) → slice_get (replicate k a) n ≡ Some x → x ≡ a
all_same zero n a x e = let z : ⊥ = cc in absurd z
all_same (suc k) zero a x e = cc
all_same (suc k) (suc n) a x e = all_same k n a x e

pub left_at : (k n : ℕ) → n < k → slice_get (replicate k LeftOut) n ≡ Some LeftOut
left_at zero n l = let z : ⊥ = omega arith in absurd z
left_at (suc k) zero l = refl
left_at (suc k) (suc n) l = left_at k n (let m : n < k = omega arith in m)

module _ (P : ProgramTree) (limits : LimitNumbers) (kinds : List ℕ) (bodies : List Body) (large : List Bool) (lowered : AreLowered P.procedures bodies large)
    (p : Plan) (plan : IsPlan (work_of P limits kinds) p.graph p.out.items) (order : List Turn) (turns : AreTurns p.graph large order) where
  abbrev w : Work
  w = work_of P limits kinds

  pub tabled_at : (k : ℕ) (d : Turn) → k < length order → IsTabled w (get_or order k d).number
  tabled_at k d l = small_tabled P limits kinds bodies large lowered (get_or order k d).number (turns.each k d l).small

  pub others : (i k : ℕ) (d : Turn) → i < k → k < length order → (get_or order k d).number ≢ (get_or order i d).number
  others i k d l m e = (turns.in_order i k d l m).other (sym e)

  pub made_none : (parts : List Part) (many : ℕ) → many ≡ length bodies → parts ≡ replicate many LeftOut → AreMade w order bodies parts 0
  made_none parts many same none = subst (λ z. AreMade w order bodies z 0) (sym none) (record {
    size = length-replicate many LeftOut ∙ kept;
    size_bodies = many_bodies P.procedures bodies large lowered;
    each = λ n x e. subst (IsPartSoFar w (tables_at (replicate many LeftOut)) n) (sym (all_same many n LeftOut x e)) tt;
    done = λ k d l m. let z : ⊥ = omega arith in absurd z;
    to_do = λ k d l m.
        let t = (tabled_at k d m).0 in
        let e = kept in
        record {
          part = left_at many (get_or order k d).number (omega arith);
          body = small_body P limits kinds bodies large lowered (get_or order k d).number (turns.each k d m).small;
        };
  })
    where
      kept : many ≡ length P.procedures
      kept = same ∙ many_bodies P.procedures bodies large lowered

  module _ (left : List Body) (parts : List Part) (i : ℕ) (h : AreMade w order left parts i) where
    -- a procedure that stands in the order, where all before a place are done
    found_before : (n : ℕ) → IsTabled w n → (k : ℕ) × (t : Turn) × (k < length order) × (get_or order k t ≡ t) × (t.number ≡ n)
    found_before n t = turns.all n (tabled_small P limits kinds bodies large lowered n t)

    has_at : (n k : ℕ) (t : Turn) → k < i → k < length order → get_or order k t ≡ t → t.number ≡ n → HasTable parts n
    has_at n k t l m e q = subst (HasTable parts) (ap (λ (z : Turn). z.number) e ∙ q) (h.done k t l m)

    pub ready : (d : Turn) → i < length order → IsReady w parts (get_or order i d).number
    ready d l = ready_at w p.graph plan.graph plan.kept large (tabled_small P limits kinds bodies large lowered) order turns parts i d l (tabled_at i d l).0 h.done

    module _ (last : length order ≤ i) where
      table_in : (f : ℕ) (o : Option Part) → slice_get parts f ≡ o → IsTableIn w (tables_at parts) f (option_and_then table_of o)
      table_in f None e = λ t. let s = h.size in let l = t.0 in absurd (nothing f e (omega arith))
        where
          nothing : (f : ℕ) → slice_get parts f ≡ None → f < length parts → ⊥
          nothing f e l = let (x, at, r) = item_at parts f l in apart x (sym e ∙ at)
            where
              apart : (x : Part) → ◌≡◌ {A = Option Part} None (Some x) → ⊥
              apart x e = cc
      table_in f (Some LeftOut) e = λ t.
          let (k, turn, m, r, q) = found_before f t in
          let (table, is) = has_at f k turn (omega arith) m r q in
          none-some table (sym (ap (option_and_then table_of) e) ∙ is)
      table_in f (Some (Tabled checked drops)) e = let (t, (j, job, (table, of))) = h.each f (Tabled checked drops) e in (t, j, job, table)

      tables_are : IsOne w (tables_at parts)
      tables_are f = table_in f (slice_get parts f) refl

      pub all_made : AreFound P limits kinds (record { parts = parts; events = [] })
      all_made = record {
        certified = record {
          all = h.size;
          tabled = one_tabled w (tables_at parts) tables_are;
          checked = λ n checked drops e. let (t, (j, job, (table, of))) = h.each n (Tabled checked drops) e in (j, job, of);
        };
        one = tables_are;
      }

  pub is_order : IsOrder w order
  is_order = record { tabled = tabled_at; others = others; ready = λ left parts i d h l. ready left parts i h d l }

  -- before the first turn
  pub begins : (m : Progress) → m.bodies.items ≡ bodies → (many : ℕ) → many ≡ length bodies → m.parts.items ≡ replicate many LeftOut → (places : ℕ) → m.explorations.items ≡ replicate places None →
      IsShared w m.shared → AllByRecursion (λ (q : ProcedureTree). length q.parameters ≤ most_parameters) P.procedures → AreUnderWay w p order m 0
  begins m all many same none places free shared few = record {
    plan = plan;
    ordered = is_order;
    shared = shared;
    few = λ n b e. few_of P.procedures n b few e;
    made = subst (λ z. AreMade w order z m.parts.items 0) (sym all) (made_none m.parts.items many same none);
    beside = λ n x e at there.
        let no_table : x ≡ LeftOut = all_same many n LeftOut x (ap (λ z. slice_get z n) (sym none) ∙ at) in
        subst (IsBeside w (tables_at m.parts.items) n x) (sym (all_same places n None e (ap (λ z. slice_get z n) (sym free) ∙ there))) no_table;
  }

  -- after the last
  pub ends : (m : Progress) (i : ℕ) → length order ≤ i → AreUnderWay w p order m i → AreFound P limits kinds (record { parts = m.parts.items; events = [] })
  ends m i last u = all_made m.bodies.items m.parts.items i u.made last
