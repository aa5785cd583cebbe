-- The calls of a program are confined, at any depth and with any number of turns.
use Rattle.std.proofs.Common.{◌≡◌, ℕ, zero, suc, ◌+◌, ◌≤◌, List, [], ◌++◌, take, length, sym, ap, subst, inl, inr, Result, Ok, Err, Option, Some, None, IsSomeAnd, arith, append-nil}
use Rattle.std.proofs.Math.Seq.{take-length}
use Rattle.std.proofs.lemmas.List.{length-take-le, nil_from_length}
use Rattle.px_base.specs.declared.trace.Site.{Site}
use Rattle.px_meaning.specs.Values.{Value, Unwritten}
use Rattle.px_meaning.specs.Heaps.{HeapMap}
use Rattle.px_meaning.specs.Calls.{Halt, Ending}
use Rattle.px_meaning.specs.Events.{Event}
use Rattle.px_meaning.specs.TypedProgram.{TypedProgram}
use Rattle.px_meaning.specs.Fuller.{IsUnderstood}
use Rattle.px_meaning.specs.TreeExecution.{Executes}
use Rattle.px_meaning.specs.TreeCalls.{first_locals, closes, TreeCallsWithin}
use Rattle.px_meaning.proofs.TreeBegins.{Begins}
use Rattle.px_syntax.specs.ProgramTree.{ProcedureTree}
use Rattle.px_replay.specs.declared.stop.Stop.{Stop}
use Rattle.px_replay.specs.declared.stop.Stop.TheVariants as stop
use Rattle.px_replay.specs.declared.flow.Flow.TheVariants.{Falls, Breaks, Continues, Returns}
use Rattle.px_replay.specs.Beginnings.{see, IsCutInStatement, CutWithin}
use Rattle.px_replay.specs.Following.{Follows, IsTaken, IsFollowed, IsBegun}
use Rattle.px_replay.specs.Script.{PlainScript, Act, answers, goes_on, and_then}
use Rattle.px_replay.specs.TreeReplay.{Ended, ReplaysStatement, returned, replays_body, CallsReplay}
use Rattle.px_replay.specs.Laws.{EndsSo, ReplayConfines}
use Rattle.px_replay.proofs.ConfineEvents.{ObeysScript, follows_obeys, follows_length}
use Rattle.px_replay.proofs.Confine.{At, Met, at_end}
use Rattle.px_replay.proofs.ConfineForms.{exits, at_exit}
use Rattle.px_replay.proofs.ConfineCalls.{CallsConfined, EndsAs}
use Rattle.px_replay.proofs.ConfineTrees.{statement_confined}

-- what is known of a call that was seen whole
abbrev Closed : PlainScript → List Event → List Event → Result Value Stop → PlainScript → Ending → HeapMap → Type 0
Closed s u rest r s' ending end = ObeysScript s' rest × (length u + length s'.marks ≡ length s.marks) × EndsAs r ending × (end ≡ s'.heap)

module _ (s : PlainScript) (u rest : List Event) (ending : Ending) (end : HeapMap) where
  closes_error : (a : List Event) (halt : Halt) (site : Site) (h : HeapMap) → exits.on_error (closes u ending end) a halt site h → Begins (u ++ rest) a
  closes_error a halt site h (l, k) = (rest, ap (λ u. u ++ rest) k.0)

  closes_answer : (a : List Event) (e : Ended) (h : HeapMap) → at_exit (closes u ending end) a e h → Begins (u ++ rest) a
  closes_answer a (Falls, l) h k = (rest, ap (λ u. u ++ rest) k.0)
  closes_answer a (Returns v, l) h k = (rest, ap (λ u. u ++ rest) k.0)
  closes_answer a (Breaks, l) h k = absurd k
  closes_answer a (Continues, l) h k = absurd k

  closed_at : (x r : Result Value Stop) (a : List Event) (s1 s' : PlainScript) → At (u ++ rest) (length s.marks) a s1 → u ≡ a → EndsAs x ending → end ≡ s1.heap → answers x s1 r s' →
      Closed s u rest r s' ending end
  closed_at x r a s1 s' at e d h (er, es) =
      subst (λ (s' : PlainScript). Closed s u rest r s' ending end) (sym es) (
        at.obeys rest (ap (λ u. u ++ rest) e),
        (let n : length u ≡ length a = ap length e in let m : length a + length s1.marks ≡ length s.marks = at.taken in omega arith),
        subst (λ (r : Result Value Stop). EndsAs r ending) (sym er) d,
        h,
      )

  closed : (a : List Event) (r1 : Result Ended Stop) (s1 : PlainScript) (r : Result Value Stop) (s' : PlainScript) → At (u ++ rest) (length s.marks) a s1 →
      Met (exits.on_error (closes u ending end)) (at_exit (closes u ending end)) a r1 s1.heap → goes_on returned r1 s1 r s' → Closed s u rest r s' ending end
  closed a (Ok (Falls, l)) s1 r s' at k h = closed_at (Ok Unwritten) r a s1 s' at k.0 k.1 k.2 h
  closed a (Ok (Returns v, l)) s1 r s' at k h = closed_at (Ok v) r a s1 s' at k.0 k.1 k.2 h
  closed a (Ok (Breaks, l)) s1 r s' at k h = absurd k
  closed a (Ok (Continues, l)) s1 r s' at k h = absurd k
  closed a (Err (stop.Failed kind site)) s1 r s' at (l, k) h = closed_at (Err (stop.Failed kind site)) r a s1 s' at k.0 k.1 k.2 h
  closed a (Err stop.Departs) s1 r s' at (word, site, (l, k)) h = closed_at (Err stop.Departs) r a s1 s' at k.0 (word, site, k.1) k.2 h
  closed a (Err stop.NoMemory) s1 r s' at k h = absurd k

-- a call that is understood ends as the answer says
ends_so : (r : Result Value Stop) (ending : Ending) → IsUnderstood ending → EndsAs r ending → EndsSo r ending
ends_so (Ok v) ending u e = e
ends_so (Err (stop.Failed kind site)) ending u e = e
ends_so (Err stop.Departs) ending u (word, site, e) = subst IsUnderstood e u
ends_so (Err stop.NoMemory) ending u e = e

-- what is after a body leaves the script as it is
returned_same : (r1 : Result Ended Stop) (s1 : PlainScript) (r : Result Value Stop) (s' : PlainScript) → goes_on returned r1 s1 r s' → s' ≡ s1
returned_same (Ok (Falls, l)) s1 r s' h = h.1
returned_same (Ok (Returns v, l)) s1 r s' h = h.1
returned_same (Ok (Breaks, l)) s1 r s' h = h.1
returned_same (Ok (Continues, l)) s1 r s' h = h.1
returned_same (Err e) s1 r s' h = h.1

-- at the start of a call
at_start : (s : PlainScript) (t : List Event) → ObeysScript s t → At t (length s.marks) [] s
at_start s t o = record { taken = omega arith; obeys = λ r e. subst (ObeysScript s) e o }

module _ (P : TypedProgram) where
  -- the body of a procedure, where the calls in it are confined
  module _ (n m : ℕ) (callee : CallsConfined (CallsReplay P n) (TreeCallsWithin see None P m) (CutWithin P m)) where
    abbrev body : ProcedureTree → List Value → Act Value
    body p vs = and_then (ReplaysStatement P.types (CallsReplay P n) n p.body (first_locals vs)) returned

    body_shrinks : (o : Option ProcedureTree) (vs : List Value) (s : PlainScript) (r : Result Value Stop) (s' : PlainScript) → replays_body (λ p. body p vs) o s r s' → length s'.marks ≤ length s.marks
    body_shrinks (Some p) vs s r s' (r1, s1, f, h) =
        let k : length s1.marks ≤ length s.marks =
        (statement_confined [] 0 P.types (TreeCallsWithin see None P m) (CutWithin P m) (CallsReplay P n) callee n m p.body (first_locals vs)).shrinks s r1 s1 f in
        subst (λ (s' : PlainScript). length s'.marks ≤ length s.marks) (sym (returned_same r1 s1 r s' h)) k
    body_shrinks None vs s r s' h = at_end [] 0 (Err stop.Departs) r s s' h

    body_only : (o : Option ProcedureTree) (vs : List Value) (s : PlainScript) (r : Result Value Stop) (s' : PlainScript) (u rest : List Event) (ending : Ending) (end : HeapMap) →
        replays_body (λ p. body p vs) o s r s' →
        IsSomeAnd o (λ p. Executes see P.types (TreeCallsWithin see None P m) None m p.body (first_locals vs) [] s.heap (closes u ending end)) → ObeysScript s (u ++ rest) → Closed s u rest r s' ending end
    body_only None vs s r s' u rest ending end h c o = absurd c
    body_only (Some p) vs s r s' u rest ending end (r1, s1, f, h) c o =
        let (a, at, k) = (statement_confined (u ++ rest) (length s.marks) P.types (TreeCallsWithin see None P m) (CutWithin P m) (CallsReplay P n) callee n m p.body (first_locals vs)).only
        (closes u ending end) [] s r1 s1 (closes_error s u rest ending end) (closes_answer s u rest ending end) f (at_start s (u ++ rest) o) c in
        closed s u rest ending end a r1 s1 r s' at k h

    body_no_further : (o : Option ProcedureTree) (vs : List Value) (s : PlainScript) (r : Result Value Stop) (s' : PlainScript) (u : List Event) → replays_body (λ p. body p vs) o s r s' →
        IsSomeAnd o (λ p. IsCutInStatement P.types (TreeCallsWithin see None P m) (CutWithin P m) (λ so_far. u ≡ so_far) m p.body (first_locals vs) [] s.heap) → ObeysScript s u →
        length u + length s'.marks ≤ length s.marks
    body_no_further None vs s r s' u h c o = absurd c
    body_no_further (Some p) vs s r s' u (r1, s1, f, h) c o =
        let k : length u + length s1.marks ≤ length s.marks =
        (statement_confined u (length s.marks) P.types (TreeCallsWithin see None P m) (CutWithin P m) (CallsReplay P n) callee n m p.body (first_locals vs)).no_further [] s r1 s1 f (at_start s u o) c in
        subst (λ (s' : PlainScript). length u + length s'.marks ≤ length s.marks) (sym (returned_same r1 s1 r s' h)) k

  calls_confined : (n m : ℕ) → CallsConfined (CallsReplay P n) (TreeCallsWithin see None P m) (CutWithin P m)
  calls_confined zero m = record {
    call_shrinks = λ f vs s r s' h. absurd h;
    call_only = λ f vs s r s' u rest ending end h c o. absurd h;
    call_no_further = λ f vs s r s' u h c o. absurd h;
  }
  calls_confined (suc n) zero = record {
    call_shrinks = λ f vs s r s' h. body_shrinks n zero (calls_confined n zero) (P.procedures f) vs s r s' h;
    call_only = λ f vs s r s' u rest ending end h c o. absurd c;
    call_no_further = λ f vs s r s' u h c o. absurd c;
  }
  calls_confined (suc n) (suc m) = record {
    call_shrinks = λ f vs s r s' h. body_shrinks n m (calls_confined n m) (P.procedures f) vs s r s' h;
    call_only = λ f vs s r s' u rest ending end h c o. body_only n m (calls_confined n m) (P.procedures f) vs s r s' u rest ending end h c o;
    call_no_further = λ f vs s r s' u h c o. body_no_further n m (calls_confined n m) (P.procedures f) vs s r s' u h c o;
  }

  module _ (n f : ℕ) (vs : List Value) (s : PlainScript) (r : Result Value Stop) (s' : PlainScript) (h : CallsReplay P n f vs s r s') where
    whole_only : (ending : Ending) (end : HeapMap) → IsFollowed P f vs s.heap s.inputs s.marks ending end → (s'.marks ≡ []) × EndsSo r ending × (end ≡ s'.heap)
    whole_only ending end (events, follows, (m, c), understood) =
        let on : ObeysScript s events = follows_obeys (IsTaken s.heap) s.inputs s.marks (length s.marks) events (subst (λ ms. Follows (IsTaken s.heap) s.inputs ms events) (sym (take-length s.marks)) follows) in
        let (o, k, e, g) = (calls_confined n m).call_only f vs s r s' events [] ending end h c (subst (ObeysScript s) (sym (append-nil events)) on) in
        let l : length events ≡ length s.marks = follows_length (IsTaken s.heap) s.inputs s.marks events follows in
        (nil_from_length s'.marks (omega arith), ends_so r ending understood e, g)

    under_way : (at : ℕ) → at ≤ length s.marks → IsBegun P f vs s.heap s.inputs (take at s.marks) → at + length s'.marks ≤ length s.marks
    under_way at within (events, follows, inl e) =
        let l : length events ≡ length (take at s.marks) = follows_length (IsTaken s.heap) s.inputs (take at s.marks) events follows in
        let k : length (take at s.marks) ≡ at = length-take-le at s.marks within in
        let z : length events ≡ 0 = ap length e in
        let g : length s'.marks ≤ length s.marks = (calls_confined n 0).call_shrinks f vs s r s' h in omega arith
    under_way at within (events, follows, inr (m, c)) =
        let l : length events ≡ length (take at s.marks) = follows_length (IsTaken s.heap) s.inputs (take at s.marks) events follows in
        let k : length (take at s.marks) ≡ at = length-take-le at s.marks within in
        let g : length events + length s'.marks ≤ length s.marks =
        (calls_confined n m).call_no_further f vs s r s' events h c (follows_obeys (IsTaken s.heap) s.inputs s.marks at events follows) in omega arith

pub replay_confined : ReplayConfines
replay_confined P n f vs s r s' h = record { only = whole_only P n f vs s r s' h; no_further = under_way P n f vs s r s' h }
