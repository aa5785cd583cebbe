-- What the replay of a call takes of a script is reached by an execution.
use Rattle.std.proofs.Common.{◌≡◌, ℕ, zero, suc, List, [], map, Option, Some, None, Result, Ok, Err, IsSomeAnd, inl, inr, refl, sym, subst}
use Rattle.px_meaning.specs.Values.{Value, Unwritten}
use Rattle.px_meaning.specs.Calls.{Ending}
use Rattle.px_meaning.specs.Events.{Event, mark_of}
use Rattle.px_meaning.specs.Steps.{ProcedureCalls}
use Rattle.px_meaning.specs.TypedProgram.{TypedProgram}
use Rattle.px_meaning.specs.Fuller.{IsUnderstood}
use Rattle.px_meaning.specs.TreeExecution.{Executes}
use Rattle.px_meaning.specs.TreeCalls.{first_locals, closes, TreeCallsWithin}
use Rattle.px_syntax.specs.ProgramTree.{ProcedureTree}
use Rattle.px_replay.specs.declared.stop.Stop.{Stop}
use Rattle.px_replay.specs.declared.stop.Stop.TheVariants as stop
use Rattle.px_replay.specs.declared.flow.Flow.TheVariants.{Falls, Breaks, Continues, Returns}
use Rattle.px_replay.specs.Beginnings.{see, CallBeginnings, IsCutInStatement, CutWithin}
use Rattle.px_replay.specs.Following.{Follows, IsTaken}
use Rattle.px_replay.specs.Laws.{EndsSo, ReplayReaches}
use Rattle.px_replay.specs.Script.{PlainScript, answers, goes_on, and_then}
use Rattle.px_replay.specs.TreeReplay.{Ended, returned, replays_body, ReplaysStatement, CallsReplay}
use Rattle.px_replay.proofs.Consumed.{consumes_nothing, consumed_follow}
use Rattle.px_replay.proofs.ReachTrees.{CallReached}
use Rattle.px_replay.proofs.ReachStatements.{Run, run_reached}

module _ (P : TypedProgram) (n : ℕ)
    (reached : (f : ℕ) (arguments : List Value) (s : PlainScript) (r : Result Value Stop) (s' : PlainScript) → CallsReplay P n f arguments s r s' → CallReached (TreeCallsWithin see None P n) (CutWithin P n) f arguments s r s') where
  -- the calls of a procedure that may be kept, and where they can be cut
  abbrev BodyCalls : Option ProcedureTree → ProcedureCalls Event
  BodyCalls o f arguments heap t ending end = IsSomeAnd o (λ p. Executes see P.types (TreeCallsWithin see None P n) None n p.body (first_locals arguments) [] heap (closes t ending end))

  abbrev BodyCuts : Option ProcedureTree → CallBeginnings
  BodyCuts o f arguments heap t = IsSomeAnd o (λ p. IsCutInStatement P.types (TreeCallsWithin see None P n) (CutWithin P n) (λ so_far. t ≡ so_far) n p.body (first_locals arguments) [] heap)

  abbrev BodyReached : Option ProcedureTree → ℕ → List Value → PlainScript → Result Value Stop → PlainScript → Type 0
  BodyReached o = CallReached (BodyCalls o) (BodyCuts o)

  abbrev Body : ProcedureTree → List Value → PlainScript → Result Ended Stop → PlainScript → Type 1
  Body p arguments = Run P.types (CallsReplay P n) (TreeCallsWithin see None P n) (CutWithin P n) reached n p.body (first_locals arguments)

  moved : (o : Option ProcedureTree) (f : ℕ) (arguments : List Value) (s : PlainScript) (x r : Result Value Stop) (t s' : PlainScript) → answers x t r s' → BodyReached o f arguments s x t → BodyReached o f arguments s r s'
  moved o f arguments s x r t s' (e, g) q = subst (λ r. BodyReached o f arguments s r s') (sym e) (subst (λ u. BodyReached o f arguments s x u) (sym g) q)

  -- the call answers at once, after what its body took
  behind_body : (p : ProcedureTree) (f : ℕ) (arguments : List Value) (s : PlainScript) (r1 : Result Ended Stop) (s1 : PlainScript) (x r : Result Value Stop) (s' : PlainScript) (q : Body p arguments s r1 s1) →
      ((ending : Ending) → EndsSo x ending → BodyCalls (Some p) f arguments s.heap q.events ending s1.heap) → answers x s1 r s' → BodyReached (Some p) f arguments s r s'
  behind_body p f arguments s r1 s1 x r s' q ends h = moved (Some p) f arguments s x r s1 s' h (record {
    events = q.events;
    takes = q.takes;
    ends = ends;
    cut = elim (q.begun [] (λ so_far. q.events ≡ so_far) refl) [ inl none ↦ inl none | inr (inl c) ↦ inr c | inr (inr l) ↦ absurd l ];
  })

  by_body : (p : ProcedureTree) (f : ℕ) (arguments : List Value) (s : PlainScript) (r1 : Result Ended Stop) (s1 : PlainScript) (r : Result Value Stop) (s' : PlainScript) → Body p arguments s r1 s1 → goes_on returned r1 s1 r s' → BodyReached (Some p) f arguments s r s'
  by_body p f arguments s (Ok (Falls, l)) s1 r s' q h = behind_body p f arguments s (Ok (Falls, l)) s1 (Ok Unwritten) r s' q (λ ending e. q.leads [] (closes q.events ending s1.heap) (refl, e, refl)) h
  by_body p f arguments s (Ok (Returns v, l)) s1 r s' q h = behind_body p f arguments s (Ok (Returns v, l)) s1 (Ok v) r s' q (λ ending e. q.leads [] (closes q.events ending s1.heap) (refl, e, refl)) h
  by_body p f arguments s (Ok (Breaks, l)) s1 r s' q h = behind_body p f arguments s (Ok (Breaks, l)) s1 (Err stop.Departs) r s' q (λ ending e. absurd e) h
  by_body p f arguments s (Ok (Continues, l)) s1 r s' q h = behind_body p f arguments s (Ok (Continues, l)) s1 (Err stop.Departs) r s' q (λ ending e. absurd e) h
  by_body p f arguments s (Err (stop.Failed kind site)) s1 r s' q h =
      behind_body p f arguments s (Err (stop.Failed kind site)) s1 (Err (stop.Failed kind site)) r s' q (λ ending e. q.leads [] (closes q.events ending s1.heap) (λ l. (refl, e, refl))) h
  by_body p f arguments s (Err stop.Departs) s1 r s' q h = behind_body p f arguments s (Err stop.Departs) s1 (Err stop.Departs) r s' q (λ ending e. absurd e) h
  by_body p f arguments s (Err stop.NoMemory) s1 r s' q h = behind_body p f arguments s (Err stop.NoMemory) s1 (Err stop.NoMemory) r s' q (λ ending e. absurd e) h

  kept : (o : Option ProcedureTree) (f : ℕ) (arguments : List Value) (s : PlainScript) (r : Result Value Stop) (s' : PlainScript) →
      replays_body (λ p. and_then (ReplaysStatement P.types (CallsReplay P n) n p.body (first_locals arguments)) returned) o s r s' → BodyReached o f arguments s r s'
  kept (Some p) f arguments s r s' (r1, s1, a, h) =
      by_body p f arguments s r1 s1 r s' (run_reached P.types (CallsReplay P n) (TreeCallsWithin see None P n) (CutWithin P n) reached n p.body (first_locals arguments) a) h
  kept None f arguments s r s' h = moved None f arguments s (Err stop.Departs) r s s' h (record { events = []; takes = consumes_nothing s; ends = λ ending e. absurd e; cut = inl refl })

pub calls_reached : (P : TypedProgram) (n f : ℕ) (arguments : List Value) (s : PlainScript) (r : Result Value Stop) (s' : PlainScript) → CallsReplay P n f arguments s r s' → CallReached (TreeCallsWithin see None P n) (CutWithin P n) f arguments s r s'
calls_reached P zero f arguments s r s' h = absurd h
calls_reached P (suc n) f arguments s r s' h =
    let q = kept P n (calls_reached P n) (P.procedures f) f arguments s r s' h in
    record { events = q.events; takes = q.takes; ends = q.ends; cut = q.cut }

-- an ending that an answer says is understood
so_understood : (r : Result Value Stop) (ending : Ending) → EndsSo r ending → IsUnderstood ending
so_understood (Ok v) ending e = subst IsUnderstood (sym e) tt
so_understood (Err (stop.Failed kind site)) ending e = subst IsUnderstood (sym e) tt
so_understood (Err stop.Departs) ending e = absurd e
so_understood (Err stop.NoMemory) ending e = absurd e

pub replay_reached : ReplayReaches
replay_reached P n f arguments s r s' h =
    let q = calls_reached P n f arguments s r s' h in
    let follows : Follows (IsTaken s.heap) s.inputs (map mark_of q.events) q.events = consumed_follow s s' q.events q.takes in
    record {
      taken = map mark_of q.events;
      whole = q.takes.used;
      begun = (q.events, follows, elim q.cut [ inl none ↦ inl none | inr c ↦ inr (n, c) ]);
      ends = λ ending e. (q.events, follows, (n, q.ends ending e), so_understood r ending e);
    }
