-- A replay decides whether an execution follows its script, and else where it departs.
use Rattle.std.proofs.Common.{◌≡◌, ℕ, suc, ◌+◌, ◌-◌, ◌≤◌, List, [], ◌++◌, take, length, Some, Result, Ok, Err, refl, sym, ap, subst, ◌∙◌, arith}
use Rattle.std.proofs.lemmas.List.{append-nil, length-append}
use Rattle.std.proofs.Math.Seq.{take-append_seam}
use Rattle.px_base.specs.declared.trace.Site.{Site}
use Rattle.px_base.specs.declared.trace.Kind.{Kind}
use Rattle.px_base.specs.declared.trace.Mark.{Mark}
use Rattle.px_entry.specs.declared.entries.Exit.TheVariants as exit
use Rattle.px_meaning.specs.Values.{Value, Unwritten}
use Rattle.px_meaning.specs.Calls.{error, Ending, Returned, Failed}
use Rattle.px_meaning.specs.TypedProgram.{TypedProgram}
use Rattle.px_replay.specs.declared.stop.Stop.{Stop}
use Rattle.px_replay.specs.declared.stop.Stop.TheVariants as stop
use Rattle.px_replay.specs.declared.replayed.Replayed.{Replayed}
use Rattle.px_replay.specs.declared.replayed.ReplayFault.TheVariants as fault
use Rattle.px_replay.specs.Following.{IsFollowed, IsBegun, DepartsAt}
use Rattle.px_replay.specs.Laws.{EndsSo, IsReached, IsConfined, IsDecided, ReplayDecides}
use Rattle.px_replay.specs.Replays.{heap_map, exit_of, value_of, IsReplay}
use Rattle.px_replay.specs.Script.{PlainScript}
use Rattle.px_replay.specs.TreeReplay.{CallsReplay}
use Rattle.px_replay.proofs.ReachCalls.{replay_reached}
use Rattle.px_replay.proofs.ConfineLaw.{replay_confined}

-- as many marks were taken as aren't left
taken_are : (whole taken left : List Mark) → whole ≡ taken ++ left → length whole ≡ length taken + length left
taken_are whole taken left e = ap length e ∙ length-append taken left

taken_first : (whole taken left : List Mark) → whole ≡ taken ++ left → take (length whole - length left) whole ≡ taken
taken_first whole taken left e =
    let n : length whole ≡ length taken + length left = taken_are whole taken left e in
    let m : length whole - length left ≡ length taken = omega arith in
    ap (λ k. take k whole) m ∙ ap (take (length taken)) e ∙ take-append_seam taken left

decided : (P : TypedProgram) (f : ℕ) (arguments : List Value) (s : PlainScript) (answer : Result Value Stop) (left : PlainScript) → IsReached P f arguments s answer left → IsConfined P f arguments s answer left → IsDecided P f arguments s answer left
decided P f arguments s answer left r c =
    let n : length s.marks ≡ length r.taken + length left.marks = taken_are s.marks r.taken left.marks r.whole in
    record {
      followed = λ ending e none.
          let all : r.taken ≡ s.marks = sym (append-nil r.taken) ∙ ap (λ ms. r.taken ++ ms) (sym none) ∙ sym r.whole in
          subst (λ ms. IsFollowed P f arguments s.heap s.inputs ms ending left.heap) all (r.ends ending e);
      departs = λ other. record {
        within = omega arith;
        before = subst (IsBegun P f arguments s.heap s.inputs) (sym (taken_first s.marks r.taken left.marks r.whole)) r.begun;
        not_with = λ more b. let k : suc (length s.marks - length left.marks) + length left.marks ≤ length s.marks = c.no_further (suc (length s.marks - length left.marks)) (omega arith) b in omega arith;
        not_whole = λ ending end h. let (none, e, same) = c.only ending end h in other ending e none;
      };
    }

pub replay_decided : ReplayDecides
replay_decided P n f arguments s answer left h = decided P f arguments s answer left (replay_reached P n f arguments s answer left h) (replay_confined P n f arguments s answer left h)

-- ---- the answers of `step_trace`

-- a call that ends as the replay, where no mark is left
replayed : (P : TypedProgram) (n f : ℕ) (arguments : List Value) (s : PlainScript) (answer : Result Value Stop) (left : PlainScript) (r : Replayed) (ending : Ending) → CallsReplay P n f arguments s answer left → left.marks ≡ [] → heap_map r.heap ≡ left.heap →
    EndsSo answer ending → Some r.exit ≡ exit_of ending → r.result ≡ value_of ending → IsReplay P f arguments s.heap s.inputs s.marks (Ok r)
replayed P n f arguments s answer left r ending h none same so exit result =
    let d = replay_decided P n f arguments s answer left h in
    (ending, subst (IsFollowed P f arguments s.heap s.inputs s.marks ending) (sym same) (d.followed ending so none), exit, result)

pub replayed_returned : (P : TypedProgram) (n f : ℕ) (arguments : List Value) (s : PlainScript) (v : Value) (left : PlainScript) (r : Replayed) → CallsReplay P n f arguments s (Ok v) left → left.marks ≡ [] → heap_map r.heap ≡ left.heap →
    r.exit ≡ exit.Ok → r.result ≡ v → IsReplay P f arguments s.heap s.inputs s.marks (Ok r)
replayed_returned P n f arguments s v left r h none same exit result = replayed P n f arguments s (Ok v) left r (Returned v) h none same refl (ap Some exit) result

pub replayed_failed : (P : TypedProgram) (n f : ℕ) (arguments : List Value) (s : PlainScript) (kind : Kind) (site : Site) (left : PlainScript) (r : Replayed) → CallsReplay P n f arguments s (Err (stop.Failed kind site)) left → left.marks ≡ [] → heap_map r.heap ≡ left.heap →
    r.exit ≡ exit.Error kind site → r.result ≡ Unwritten → IsReplay P f arguments s.heap s.inputs s.marks (Ok r)
replayed_failed P n f arguments s kind site left r h none same exit result = replayed P n f arguments s (Err (stop.Failed kind site)) left r (Failed (error kind) site) h none same refl (ap Some exit) result

-- the trace departs where the replay did, and where it left marks
pub replayed_departs : (P : TypedProgram) (n f : ℕ) (arguments : List Value) (s left : PlainScript) (at : ℕ) → CallsReplay P n f arguments s (Err stop.Departs) left → at ≡ length s.marks - length left.marks →
    IsReplay P f arguments s.heap s.inputs s.marks (Err (fault.Departs at))
replayed_departs P n f arguments s left at h e =
    subst (DepartsAt P f arguments s.heap s.inputs s.marks) (sym e) ((replay_decided P n f arguments s (Err stop.Departs) left h).departs (λ ending so none. so))

pub replayed_short : (P : TypedProgram) (n f : ℕ) (arguments : List Value) (s : PlainScript) (answer : Result Value Stop) (left : PlainScript) (at : ℕ) → CallsReplay P n f arguments s answer left → (left.marks ≡ [] → ⊥) → at ≡ length s.marks - length left.marks →
    IsReplay P f arguments s.heap s.inputs s.marks (Err (fault.Departs at))
replayed_short P n f arguments s answer left at h some e =
    subst (DepartsAt P f arguments s.heap s.inputs s.marks) (sym e) ((replay_decided P n f arguments s answer left h).departs (λ ending so none. some none))
