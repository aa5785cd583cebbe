-- One that is called below, and isn't left out, has its table.
use Rattle.std.proofs.Common.{◌≡◌, ℕ, ◌<◌, List, length, get_or, Bool, true, false, Option, Some, None, sym, ap, ◌∙◌, arith}
use Rattle.std.specs.Prelude.{slice_get, option_and_then}
use Rattle.px_entry.specs.declared.tables.Table.{Table}
use Rattle.px_callgraph.specs.Callees.{IsCallee, AreTogether}
use Rattle.px_symexec.specs.One.{Work, IsLeftOut}
use Rattle.px_pieces.specs.declared.findings.Part.{Part}
use Rattle.px_pieces.specs.Found.{table_of}
use Rattle.px_jobs.specs.Plans.{IsPlan, IsReady, tables_at}

module _ (w : Work) (graph : List (List ℕ)) (out : List Bool) (parts : List Part) (f g : ℕ) (plan : IsPlan w graph out) (calls : IsCallee w.bodies f g) (many : length parts ≡ length graph) where
  not_out : get_or out g false ≡ false → IsLeftOut w g → ⊥
  not_out e h = apart (sym e ∙ (plan.out f g calls).1 h)
    where
      apart : false ≡ true → ⊥
      apart e = cc

  kept : g < length parts → g < w.kept
  kept l = let e = plan.kept in omega arith

  at_place : (x : Part) → slice_get parts g ≡ Some x → tables_at parts g ≡ table_of x
  at_place x at = ap (option_and_then table_of) at

  pub never_left : get_or out g false ≡ false → g < length parts → ¬ AreTogether w.bodies f g → (x : Part) → slice_get parts g ≡ Some x → table_of x ≡ None → IsReady w parts f → ⊥
  never_left e m apart x at is ready =
      let (t, has) = ready g calls (kept m, not_out e) apart in
      none t (sym (at_place x at ∙ is) ∙ has)
    where
      none : (t : Table) → ◌≡◌ {A = Option Table} None (Some t) → ⊥
      none t e = cc
