-- A call's body, by the depth to which calls may nest.
use Rattle.std.proofs.Common.{◌≡◌, ◌∙◌, sym, ap, subst, ℕ, suc, ◌-◌, ◌<◌, arith, List, map, Some, Result, slice_get, option_map}
use Rattle.std.proofs.iter.runs.Lists.{slice_get-map}
use Rattle.px_meaning.specs.Values.{Value}
use Rattle.px_meaning.specs.TypedProgram.{TypedProgram}
use Rattle.px_meaning.specs.TreeCalls.{first_locals}
use Rattle.px_syntax.specs.ProgramTree.{ProcedureTree}
use Rattle.px_replay.specs.declared.stop.Stop.{Stop}
use Rattle.px_replay.specs.Script.{PlainScript, and_then}
use Rattle.px_replay.specs.TreeReplay.{CallsReplay, ReplaysStatement, replays_body, returned}

module _ (P : TypedProgram) (n f : ℕ) (arguments : List Value) (s : PlainScript) (r : Result Value Stop) (s' : PlainScript) where
  abbrev within : ℕ → ProcedureTree → Type 0
  within m p = and_then (ReplaysStatement P.types (CallsReplay P m) m p.body (first_locals arguments)) returned s r s'

  pub body_at : (p : ProcedureTree) → 0 < n → P.procedures f ≡ Some p → within (n - 1) p → CallsReplay P n f arguments s r s'
  body_at p some is h =
      let e : suc (n - 1) ≡ n = omega arith in
      subst (λ k. CallsReplay P k f arguments s r s') e
      (subst (λ o. replays_body (λ p. and_then (ReplaysStatement P.types (CallsReplay P (n - 1)) (n - 1) p.body (first_locals arguments)) returned) o s r s') (sym is) h)

pub got : {A B : Type 0} (view : A → B) (xs : List A) (i : ℕ) (x : A) → slice_get xs i ≡ Some x → slice_get (map view xs) i ≡ Some (view x)
got view xs i x e = slice_get-map view xs i ∙ ap (option_map view) e
