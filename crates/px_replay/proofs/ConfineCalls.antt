-- A call is confined, where what its callee does is.
use Rattle.std.proofs.Common.{◌≡◌, ℕ, ◌+◌, ◌≤◌, List, ◌++◌, length, sym, ap, subst, ◌∙◌, inl, inr, Result, Ok, Err, arith, append_assoc}
use Rattle.std.proofs.lemmas.List.{length-append, append_cancel_left}
use Rattle.px_base.specs.declared.trace.Site.{Site}
use Rattle.px_base.specs.declared.trace.ProcId.{ProcId}
use Rattle.px_base.specs.declared.trace.MarkKind.TheVariants.{Enter, Leave}
use Rattle.px_meaning.specs.Values.{BlockType, Value}
use Rattle.px_meaning.specs.Heaps.{HeapMap}
use Rattle.px_meaning.specs.Calls.{outside, Ending, Returned, Failed}
use Rattle.px_meaning.specs.Events.{Event}
use Rattle.px_meaning.specs.Steps.{ProcedureCalls, marking}
use Rattle.px_meaning.specs.TreeExecution.{Returns, CallsProcedure}
use Rattle.px_meaning.proofs.TreeBegins.{Begins, Opens, OpensErr, shorter}
use Rattle.px_replay.specs.declared.stop.Stop.{Stop}
use Rattle.px_replay.specs.declared.stop.Stop.TheVariants as stop
use Rattle.px_replay.specs.Laws.{EndsSo}
use Rattle.px_replay.specs.Beginnings.{CallBeginnings, see, IsCutInCall}
use Rattle.px_replay.specs.Script.{PlainScript}
use Rattle.px_replay.specs.TreeReplay.{CallReplays, calls_procedure}
use Rattle.px_replay.proofs.ConfineEvents.{ObeysScript}
use Rattle.px_replay.proofs.Confine.{Errors, Answers, At, Comes, Confines, Met, fewer, at_once, marked_part}
use Rattle.px_replay.proofs.ConfineForms.{ways, Part, Cuts, through_ways}

-- a call ends as the answer says: where the replay departs, at what isn't understood
abbrev pub EndsAs : Result Value Stop → Ending → Type 0
EndsAs (Ok v) ending = EndsSo (Ok v) ending
EndsAs (Err (stop.Failed kind site)) ending = EndsSo (Err (stop.Failed kind site)) ending
EndsAs (Err stop.Departs) ending = (word : ℕ) × (site : Site) × (ending ≡ Failed (outside word) site)
EndsAs (Err stop.NoMemory) ending = ⊥

-- What is seen of a call that obeys the script is what the act took of it, whatever is seen after; where the call is
-- cut, no more is seen.
pub record CallsConfined (R : CallReplays) (C : ProcedureCalls Event) (B : CallBeginnings) : Type 0 where
  pub call_shrinks : (f : ℕ) (vs : List Value) (s : PlainScript) (r : Result Value Stop) (s' : PlainScript) → R f vs s r s' → length s'.marks ≤ length s.marks
  pub call_only : (f : ℕ) (vs : List Value) (s : PlainScript) (r : Result Value Stop) (s' : PlainScript) (u rest : List Event) (ending : Ending) (end : HeapMap) →
      R f vs s r s' → C f vs s.heap u ending end → ObeysScript s (u ++ rest) → ObeysScript s' rest × (length u + length s'.marks ≡ length s.marks) × EndsAs r ending × (end ≡ s'.heap)
  pub call_no_further : (f : ℕ) (vs : List Value) (s : PlainScript) (r : Result Value Stop) (s' : PlainScript) (u : List Event) →
      R f vs s r s' → B f vs s.heap u → ObeysScript s u → length u + length s'.marks ≤ length s.marks

module _ (t : List Event) (size : ℕ) (types : List BlockType) (C : ProcedureCalls Event) (B : CallBeginnings) (R : CallReplays) (callee : CallsConfined R C B) where
  -- on after what the callee does
  abbrev comes_to : Errors → Answers Value → List Event → Ending → HeapMap → Type 0
  comes_to err on a (Returned v) h = on a v h
  comes_to err on a (Failed halt site) h = err a halt site h

  abbrev callee_does : ℕ → List Value → Part (ways Value)
  callee_does f vs K a heap = (u : List Event) × (ending : Ending) × (end : HeapMap) × C f vs heap u ending end × comes_to K.0 K.1 (a ++ u) ending end

  abbrev callee_cut : ℕ → List Value → Cuts
  callee_cut f vs a heap = (u : List Event) × B f vs heap u × (t ≡ a ++ u)

  comes_begin : (err : Errors) (on : Answers Value) (a : List Event) (ending : Ending) (h : HeapMap) → OpensErr t err → Opens t on → comes_to err on a ending h → Begins t a
  comes_begin err on a (Returned v) h oe oa k = oa a v h k
  comes_begin err on a (Failed halt site) h oe oa k = oe a halt site h k

  comes_so : (err : Errors) (on : Answers Value) (a : List Event) (r : Result Value Stop) (ending : Ending) (h : HeapMap) → EndsAs r ending → comes_to err on a ending h → Met err on a r h
  comes_so err on a (Ok v) ending h e k = subst (λ d. comes_to err on a d h) e k
  comes_so err on a (Err (stop.Failed kind site)) ending h e k = subst (λ d. comes_to err on a d h) e k
  comes_so err on a (Err stop.Departs) ending h (word, site, e) k = (word, site, subst (λ d. comes_to err on a d h) e k)
  comes_so err on a (Err stop.NoMemory) ending h e k = absurd e

  callee_there : (a u rest : List Event) (s s' : PlainScript) → t ≡ (a ++ u) ++ rest → ObeysScript s' rest → length u + length s'.marks ≡ length s.marks → At t size a s → At t size (a ++ u) s'
  callee_there a u rest s s' e o n at = record {
    taken = let m : length (a ++ u) ≡ length a + length u = length-append a u in let l : length a + length s.marks ≡ size = at.taken in omega arith;
    obeys = λ r f. subst (ObeysScript s') (append_cancel_left (a ++ u) rest r (sym e ∙ f)) o;
  }

  callee_only : (f : ℕ) (vs : List Value) (K : Errors × Answers Value) (a : List Event) (s : PlainScript) (r : Result Value Stop) (s' : PlainScript) → OpensErr t K.0 → Opens t K.1 →
      R f vs s r s' → At t size a s → callee_does f vs K a s.heap → Comes t size K.0 K.1 r s'
  callee_only f vs K a s r s' oe oa h at (u, ending, end, c, k) =
      let (rest, e) = comes_begin K.0 K.1 (a ++ u) ending end oe oa k in
      let (o, n, d, same) = callee.call_only f vs s r s' u rest ending end h c (at.obeys (u ++ rest) (e ∙ append_assoc a u rest)) in
      (a ++ u, callee_there a u rest s s' e o n at, comes_so K.0 K.1 (a ++ u) r ending s'.heap d (subst (λ (h : HeapMap). comes_to K.0 K.1 (a ++ u) ending h) same k))

  callee_part : (f : ℕ) (vs : List Value) → Confines t size (ways Value) (R f vs) (callee_does f vs) (callee_cut f vs)
  callee_part f vs = record {
    shrinks = callee.call_shrinks f vs;
    begins = λ K a heap oe oa (u, ending, end, c, k). shorter t a u (comes_begin K.0 K.1 (a ++ u) ending end oe oa k);
    only = λ K a s r s' oe oa h at d. callee_only f vs K a s r s' oe oa h at d;
    cut_begins = λ a heap (u, b, e). (u, e);
    no_further = λ a s r s' h at (u, b, e).
        let n : length u + length s'.marks ≤ length s.marks = callee.call_no_further f vs s r s' u h b (at.obeys u e) in
        let m : length (a ++ u) ≡ length a + length u = length-append a u in
        let k : length t ≡ length (a ++ u) = ap length e in
        let l : length a + length s.marks ≡ size = at.taken in omega arith;
  }

  -- what is seen up to the end of the call
  whole : (a u v w : List Event) → ((a ++ u) ++ v) ++ w ≡ a ++ (u ++ (v ++ w))
  whole a u v w = append_assoc (a ++ u) v w ∙ append_assoc a u (v ++ w)

  pub call_part : (proc : ProcId) (site : Site) (vs : List Value) →
      Confines t size (ways Value) (calls_procedure types R proc site vs) (λ K so_far heap. CallsProcedure see types C proc site vs so_far heap K.0 K.1)
      (λ so_far heap. IsCutInCall types C B (λ a. t ≡ a) proc site so_far vs heap)
  call_part proc site vs =
      fewer t size does (λ a heap c. elim c [ inl e ↦ inl e | inr (u, b, e) ↦ inr (inl (u, b, e ∙ sym (append_assoc a (marking see (Enter proc) site) u))) ])
      (marked_part t size (Enter proc) site (through_ways t size (ways Value) (λ K. K.0) (λ K a kind at h k. k) (callee_part proc.0 vs) (λ v. marked_part t size Leave site (at_once t size (ways Value) v))))
    where
      returns : (K : Errors × Answers Value) (a u : List Event) (ending : Ending) (end : HeapMap) → Returns see types C proc site a u end K.0 K.1 ending →
          comes_to K.0 (λ b v h. K.1 (b ++ marking see Leave site) v h) ((a ++ marking see (Enter proc) site) ++ u) ending end
      returns K a u (Returned v) end k = subst (λ b. K.1 b v end) (sym (whole a (marking see (Enter proc) site) u (marking see Leave site))) k
      returns K a u (Failed halt at) end k = subst (λ b. K.0 b halt at end) (sym (append_assoc a (marking see (Enter proc) site) u)) k

      does : (K : Errors × Answers Value) (a : List Event) (heap : HeapMap) → CallsProcedure see types C proc site vs a heap K.0 K.1 →
          callee_does proc.0 vs (K.0, λ b v h. K.1 (b ++ marking see Leave site) v h) (a ++ marking see (Enter proc) site) heap
      does K a heap (u, ending, end, c, k) = (u, ending, end, c, returns K a u ending end k)
