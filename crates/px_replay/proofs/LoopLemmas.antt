-- Turns of a loop, and marks that are taken.
use Rattle.std.proofs.Common.{◌≡◌, ◌∙◌, refl, ap, subst, inl, inr, ℕ, suc, ◌+◌, ◌-◌, ◌<◌, arith, List, ◌∷◌, Option, Some, None, Result, Ok, Err}
use Rattle.px_base.specs.declared.trace.Site.{Site}
use Rattle.px_base.specs.declared.trace.MarkKind.{MarkKind}
use Rattle.px_meaning.specs.Values.{BlockType}
use Rattle.px_meaning.specs.Execution.{Locals}
use Rattle.px_meaning.specs.Events.{mark}
use Rattle.px_syntax.specs.TypedTree.{Condition}
use Rattle.px_replay.specs.declared.stop.Stop.{Stop}
use Rattle.px_replay.specs.declared.stop.Stop.TheVariants as stop
use Rattle.px_replay.specs.declared.flow.Flow.{Flow}
use Rattle.px_replay.specs.declared.flow.Flow.TheVariants.{Falls, Breaks, Continues, Returns}
use Rattle.px_replay.specs.declared.script.Script.{Script}
use Rattle.px_replay.specs.Acts.{IsOther}
use Rattle.px_replay.specs.Replays.{heap_map}
use Rattle.px_replay.specs.Script.{PlainScript, Act, plain_script, marked}
use Rattle.px_replay.specs.TreeReplay.{Ended, CallReplays, StatementReplays, loops, on_turn}
use Rattle.px_replay.specs.Interpreted.{ends_turn}

pub took_mark : {A : Type 0} (kind : MarkKind) (site : Site) (on : Act A) (s s1 : Script) (r : Result A Stop) (s' : PlainScript) →
    s.marks.now ≡ mark kind site ∷ s1.marks.now → s1.inputs.now ≡ s.inputs.now → s1.heap ≡ s.heap → on (plain_script s1) r s' → marked kind site on (plain_script s) r s'
took_mark kind site on s s1 r s' marks inputs heap h =
    inl (
      s1.marks.now,
      marks,
      subst (λ u. on u r s') (ap (λ i. record { marks = s1.marks.now; inputs = i; heap = heap_map s1.heap }) inputs
          ∙ ap (λ b. record { marks = s1.marks.now; inputs = s.inputs.now; heap = heap_map b }) heap) h,
    )

pub no_mark : {A : Type 0} (kind : MarkKind) (site : Site) (on : Act A) (s s1 : Script) (d : Stop) → d ≡ stop.Departs → s1 ≡ s → IsOther (mark kind site) s.marks.now →
    marked kind site on (plain_script s) (Err d) (plain_script s1)
no_mark kind site on s s1 d departs same other = inr (other, (ap (λ e. Err e) departs, ap plain_script same))

module _ (types : List BlockType) (calls : CallReplays) where
  pub next_turn : (site : Site) (c : Option Condition) (inner step : StatementReplays) (n k : ℕ) (locals : Locals) (s : PlainScript) (r : Result Ended Stop) (s' : PlainScript) →
      k < n → loops types calls (suc (n - (k + 1))) site c inner step locals s r s' → loops types calls (n - k) site c inner step locals s r s'
  next_turn site c inner step n k locals s r s' l h =
      let e : suc (n - (k + 1)) ≡ n - k = omega arith in
      subst (λ m. loops types calls m site c inner step locals s r s') e h

  pub turn_goes : (on : StatementReplays) (flow : Flow) (locals : Locals) (s : PlainScript) (r : Result Ended Stop) (s' : PlainScript) → ends_turn flow ≡ None → on locals s r s' → on_turn types calls on (flow, locals) s r s'
  turn_goes on Falls locals s r s' e h = h
  turn_goes on Continues locals s r s' e h = h
  turn_goes on Breaks locals s r s' e h = absurd cc
  turn_goes on (Returns v) locals s r s' e h = absurd cc

  pub turn_ends : (on : StatementReplays) (flow end : Flow) (locals : Locals) (s : PlainScript) → ends_turn flow ≡ Some end → on_turn types calls on (flow, locals) s (Ok (end, locals)) s
  turn_ends on Falls end locals s e = absurd cc
  turn_ends on Continues end locals s e = absurd cc
  turn_ends on Breaks end locals s e = (ap (λ f. Ok (f, locals)) (of_some Falls end e), refl)
    where
      of_some : (a b : Flow) → Some a ≡ Some b → b ≡ a
      of_some a b e = cc
  turn_ends on (Returns v) end locals s e = (ap (λ f. Ok (f, locals)) (of_some (Returns v) end e), refl)
    where
      of_some : (a b : Flow) → Some a ≡ Some b → b ≡ a
      of_some a b e = cc
