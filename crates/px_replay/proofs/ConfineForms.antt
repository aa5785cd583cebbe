-- The forms of goals, and sequences of parts by their forms.
use Rattle.std.proofs.Common.{◌≡◌, ◌⊎◌, ℕ, Bool, true, false, List, Option, Some, None, IsSomeAnd}
use Rattle.px_base.specs.declared.trace.Site.{Site}
use Rattle.px_meaning.specs.Values.{BlockType, Value}
use Rattle.px_meaning.specs.Heaps.{HeapMap}
use Rattle.px_meaning.specs.Calls.{Halt}
use Rattle.px_meaning.specs.Events.{Event}
use Rattle.px_meaning.specs.Execution.{Locals}
use Rattle.px_meaning.specs.Steps.{ProcedureCalls}
use Rattle.px_meaning.specs.TreeExecution.{gives, errs, Outcomes, with_value, by_outcome, Verdict, yes, no, fault, Verdicts, with_verdict, falls, breaks, continues, returns, fails, Exits, with_fall, behind_body}
use Rattle.px_replay.specs.declared.flow.Flow.TheVariants.{Falls, Breaks, Continues, Returns}
use Rattle.px_replay.specs.Beginnings.{see, no_error, no_exit}
use Rattle.px_replay.specs.Operations.{or_departs}
use Rattle.px_replay.specs.Script.{Act, answers, and_then, either_act}
use Rattle.px_replay.specs.TreeReplay.{CallReplays, Ended, StatementReplays, on_fall, on_turn}
use Rattle.px_replay.proofs.Confine.{Errors, Answers, Goals, Confines, sequence, sequence_after, at_once, departs, either_does, either_cut, either_of, no_cut}

-- ---- goals

-- of an expression
abbrev pub outcomes : Goals Value
outcomes = record { Goal = Outcomes Event; on_error = λ K a halt site h. K a (errs halt site) h; on_answer = λ K a v h. K a (gives v) h }

-- of a part that has two ways on
abbrev pub ways : (A : Type 0) → Goals A
ways A = record { Goal = Errors × Answers A; on_error = λ K. K.0; on_answer = λ K. K.1 }

-- of a condition
abbrev pub verdict_of : Bool → Verdict
verdict_of true = yes
verdict_of false = no

abbrev pub verdicts : Goals Bool
verdicts = record { Goal = Verdicts Event; on_error = λ K a halt site h. K a (fault halt site) h; on_answer = λ K a b h. K a (verdict_of b) h }

-- of a statement; an error has any locals
abbrev pub at_exit : Exits Event → Answers Ended
at_exit K a (Falls, l) h = K a falls l h
at_exit K a (Breaks, l) h = K a breaks l h
at_exit K a (Continues, l) h = K a continues l h
at_exit K a (Returns v, l) h = K a (returns v) l h

abbrev pub exits : Goals Ended
exits = record { Goal = Exits Event; on_error = λ K a halt site h. (l : Locals) × K a (fails halt site) l h; on_answer = at_exit }

-- what executions do to a goal of this form, and where they are cut
abbrev pub Part : {A : Type 0} → Goals A → Type 1
Part G = G.Goal → List Event → HeapMap → Type 0

abbrev pub Cuts : Type 1
Cuts = List Event → HeapMap → Type 0

-- an error of a part is one of the whole
abbrev pub PassesErrors : {B : Type 0} → (H : Goals B) → (H.Goal → Errors) → Type 1
PassesErrors H fail = (K : H.Goal) (a : List Event) (halt : Halt) (site : Site) (h : HeapMap) → fail K a halt site h → H.on_error K a halt site h

module _ (t : List Event) (size : ℕ) where
  -- an expression, and what is done with its value; an error is the end
  pub through_value : {act : Act Value} {does : Part outcomes} {cut : Cuts} {on : Value → Act Value} {does' : Value → Part outcomes} {cut' : Value → Cuts} →
      Confines t size outcomes act does cut → ((v : Value) → Confines t size outcomes (on v) (does' v) (cut' v)) →
      Confines t size outcomes (and_then act on) (λ K. does (with_value K (λ so_far x heap. does' x K so_far heap)))
      (λ so_far heap. cut so_far heap ⊎ does (by_outcome no_error (λ so_far x heap. cut' x so_far heap)) so_far heap)
  through_value {act} {does} {cut} {on} {does'} {cut'} p q =
      sequence t size outcomes outcomes act does cut on does' cut' (λ K. with_value K (λ so_far x heap. does' x K so_far heap)) (by_outcome no_error (λ so_far x heap. cut' x so_far heap))
      (λ K a kind site h k. k) (λ K a v h k. k) (λ a kind site h k. k) (λ a v h k. k) p q

  pub through_outcome : {B : Type 0} (H : Goals B) (fail : H.Goal → Errors) → PassesErrors H fail → {act : Act Value} {does : Part outcomes} {cut : Cuts} {on : Value → Act B} {does' : Value → Part H} {cut' : Value → Cuts} →
      Confines t size outcomes act does cut → ((v : Value) → Confines t size H (on v) (does' v) (cut' v)) →
      Confines t size H (and_then act on) (λ K. does (by_outcome (fail K) (λ so_far x heap. does' x K so_far heap)))
      (λ so_far heap. cut so_far heap ⊎ does (by_outcome no_error (λ so_far x heap. cut' x so_far heap)) so_far heap)
  through_outcome H fail f {act} {does} {cut} {on} {does'} {cut'} p q =
      sequence t size outcomes H act does cut on does' cut' (λ K. by_outcome (fail K) (λ so_far x heap. does' x K so_far heap)) (by_outcome no_error (λ so_far x heap. cut' x so_far heap))
      f (λ K a v h k. k) (λ a kind site h k. k) (λ a v h k. k) p q

  -- after a part with two ways on
  pub through_ways : {A B : Type 0} (H : Goals B) (fail : H.Goal → Errors) → PassesErrors H fail → {act : Act A} {does : Part (ways A)} {cut : Cuts} {on : A → Act B} {does' : A → Part H} {cut' : A → Cuts} →
      Confines t size (ways A) act does cut → ((v : A) → Confines t size H (on v) (does' v) (cut' v)) →
      Confines t size H (and_then act on) (λ K. does (fail K, λ so_far x heap. does' x K so_far heap)) (λ so_far heap. cut so_far heap ⊎ does (no_error, λ so_far x heap. cut' x so_far heap) so_far heap)
  through_ways {A} {B} H fail f {act} {does} {cut} {on} {does'} {cut'} p q =
      sequence t size (ways A) H act does cut on does' cut' (λ K. (fail K, λ so_far x heap. does' x K so_far heap)) (no_error, λ so_far x heap. cut' x so_far heap)
      f (λ K a v h k. k) (λ a kind site h k. k) (λ a v h k. k) p q

  -- the same where the cut may be right after the first part
  pub through_ways_after : {A B : Type 0} (H : Goals B) (fail : H.Goal → Errors) → PassesErrors H fail → {act : Act A} {does : Part (ways A)} {cut : Cuts} {on : A → Act B} {does' : A → Part H} {cut' : A → Cuts} →
      Confines t size (ways A) act does cut → ((v : A) → Confines t size H (on v) (does' v) (cut' v)) →
      Confines t size H (and_then act on) (λ K. does (fail K, λ so_far x heap. does' x K so_far heap)) (λ so_far heap. cut so_far heap ⊎ does (λ so_far halt at heap. t ≡ so_far, λ so_far x heap. (t ≡ so_far) ⊎ cut' x so_far heap) so_far heap)
  through_ways_after {A} {B} H fail f {act} {does} {cut} {on} {does'} {cut'} p q =
      sequence_after t size (ways A) H act does cut on does' cut' (λ K. (fail K, λ so_far x heap. does' x K so_far heap)) (λ so_far halt at heap. t ≡ so_far, λ so_far x heap. (t ≡ so_far) ⊎ cut' x so_far heap)
      f (λ K a v h k. k) (λ a halt site h k. k) (λ a v h k. k) p q

  -- after a condition
  pub through_verdict : {B : Type 0} (H : Goals B) (fail : H.Goal → Errors) → PassesErrors H fail → {act : Act Bool} {does : Part verdicts} {cut : Cuts} {first second : Act B} {does1 does2 : Part H} {cut1 cut2 : Cuts} →
      Confines t size verdicts act does cut → Confines t size H first does1 cut1 → Confines t size H second does2 cut2 →
      Confines t size H (and_then act (λ holds. either_act holds first second)) (λ K. does (with_verdict (fail K) (λ so_far heap. does1 K so_far heap) (λ so_far heap. does2 K so_far heap)))
      (λ so_far heap. cut so_far heap ⊎ does (with_verdict no_error (λ so_far heap. cut1 so_far heap) (λ so_far heap. cut2 so_far heap)) so_far heap)
  through_verdict {B} H fail f {act} {does} {cut} {first} {second} {does1} {does2} {cut1} {cut2} p q r =
      sequence t size verdicts H act does cut (λ holds. either_act holds first second) (λ holds. either_does holds does1 does2) (λ holds. either_cut holds cut1 cut2)
      (λ K. with_verdict (fail K) (λ so_far heap. does1 K so_far heap) (λ so_far heap. does2 K so_far heap)) (with_verdict no_error (λ so_far heap. cut1 so_far heap) (λ so_far heap. cut2 so_far heap))
      f by_answer (λ a kind site h k. k) by_cut p (either_of t size q r)
    where
      by_answer : (K : H.Goal) (a : List Event) (b : Bool) (h : HeapMap) → with_verdict (fail K) (λ so_far heap. does1 K so_far heap) (λ so_far heap. does2 K so_far heap) a (verdict_of b) h → either_does b does1 does2 K a h
      by_answer K a true h k = k
      by_answer K a false h k = k

      by_cut : (a : List Event) (b : Bool) (h : HeapMap) → with_verdict no_error (λ so_far heap. cut1 so_far heap) (λ so_far heap. cut2 so_far heap) a (verdict_of b) h → either_cut b cut1 cut2 a h
      by_cut a true h k = k
      by_cut a false h k = k

  -- a value where there is one
  pub maybe : (G : Goals Value) (o : Option Value) → Confines t size G (answers (or_departs o)) (λ K so_far heap. IsSomeAnd o (λ v. G.on_answer K so_far v heap)) no_cut
  maybe G (Some v) = at_once t size G v
  maybe G None = departs t size G

  -- ---- after a statement

  -- what is done after a statement that ends so, where only one that falls through goes on
  abbrev pub fall_does : (Locals → Part exits) → Ended → Part exits
  fall_does does (Falls, l) K a h = does l K a h
  fall_does does (Breaks, l) K a h = K a breaks l h
  fall_does does (Continues, l) K a h = K a continues l h
  fall_does does (Returns v, l) K a h = K a (returns v) l h

  abbrev pub fall_cut : (Locals → Cuts) → Ended → Cuts
  fall_cut cut (Falls, l) a h = cut l a h
  fall_cut cut (Breaks, l) a h = ⊥
  fall_cut cut (Continues, l) a h = ⊥
  fall_cut cut (Returns v, l) a h = ⊥

  pub through_fall : (types : List BlockType) (R : CallReplays) {act : Act Ended} {does : Part exits} {cut : Cuts} {on : StatementReplays} {does' : Locals → Part exits} {cut' : Locals → Cuts} →
      Confines t size exits act does cut → ((l : Locals) → Confines t size exits (on l) (does' l) (cut' l)) →
      Confines t size exits (and_then act (on_fall types R on)) (λ K. does (with_fall K (λ so_far l heap. does' l K so_far heap)))
      (λ so_far heap. cut so_far heap ⊎ does (with_fall no_exit (λ so_far l heap. cut' l so_far heap)) so_far heap)
  through_fall types R {act} {does} {cut} {on} {does'} {cut'} p q =
      sequence t size exits exits act does cut (on_fall types R on) (fall_does does') (fall_cut cut')
      (λ K. with_fall K (λ so_far l heap. does' l K so_far heap)) (with_fall no_exit (λ so_far l heap. cut' l so_far heap))
      (λ K a kind site h k. k) by_answer (λ a kind site h k. k.1) by_cut p falling
    where
      by_answer : (K : Exits Event) (a : List Event) (e : Ended) (h : HeapMap) → at_exit (with_fall K (λ so_far l heap. does' l K so_far heap)) a e h → fall_does does' e K a h
      by_answer K a (Falls, l) h k = k
      by_answer K a (Breaks, l) h k = k
      by_answer K a (Continues, l) h k = k
      by_answer K a (Returns v, l) h k = k

      by_cut : (a : List Event) (e : Ended) (h : HeapMap) → at_exit (with_fall no_exit (λ so_far l heap. cut' l so_far heap)) a e h → fall_cut cut' e a h
      by_cut a (Falls, l) h k = k
      by_cut a (Breaks, l) h k = k
      by_cut a (Continues, l) h k = k
      by_cut a (Returns v, l) h k = k

      falling : (e : Ended) → Confines t size exits (on_fall types R on e) (fall_does does' e) (fall_cut cut' e)
      falling (Falls, l) = q l
      falling (Breaks, l) = at_once t size exits (Breaks, l)
      falling (Continues, l) = at_once t size exits (Continues, l)
      falling (Returns v, l) = at_once t size exits (Returns v, l)

  module _ (types : List BlockType) (C : ProcedureCalls Event) where
    -- what is done after the body of a loop that ends so
    abbrev pub turn_does : (Locals → Part exits) → Ended → Part exits
    turn_does does (Falls, l) K a h = does l K a h
    turn_does does (Continues, l) K a h = does l K a h
    turn_does does (Breaks, l) K a h = K a falls l h
    turn_does does (Returns v, l) K a h = K a (returns v) l h

    abbrev pub turn_cut : (Locals → Cuts) → Ended → Cuts
    turn_cut cut (Falls, l) a h = cut l a h
    turn_cut cut (Continues, l) a h = cut l a h
    turn_cut cut (Breaks, l) a h = ⊥
    turn_cut cut (Returns v, l) a h = ⊥

    pub through_body : (R : CallReplays) {act : Act Ended} {does : Part exits} {cut : Cuts} {on : StatementReplays} {does' : Locals → Part exits} {cut' : Locals → Cuts} →
        Confines t size exits act does cut → ((l : Locals) → Confines t size exits (on l) (does' l) (cut' l)) →
        Confines t size exits (and_then act (on_turn types R on)) (λ K. does (behind_body see types C (λ so_far l heap. does' l K so_far heap) K))
        (λ so_far heap. cut so_far heap ⊎ does (behind_body see types C (λ so_far l heap. cut' l so_far heap) no_exit) so_far heap)
    through_body R {act} {does} {cut} {on} {does'} {cut'} p q =
        sequence t size exits exits act does cut (on_turn types R on) (turn_does does') (turn_cut cut')
        (λ K. behind_body see types C (λ so_far l heap. does' l K so_far heap) K) (behind_body see types C (λ so_far l heap. cut' l so_far heap) no_exit)
        (λ K a kind site h k. k) by_answer (λ a kind site h k. k.1) by_cut p turning
      where
        by_answer : (K : Exits Event) (a : List Event) (e : Ended) (h : HeapMap) → at_exit (behind_body see types C (λ so_far l heap. does' l K so_far heap) K) a e h → turn_does does' e K a h
        by_answer K a (Falls, l) h k = k
        by_answer K a (Breaks, l) h k = k
        by_answer K a (Continues, l) h k = k
        by_answer K a (Returns v, l) h k = k

        by_cut : (a : List Event) (e : Ended) (h : HeapMap) → at_exit (behind_body see types C (λ so_far l heap. cut' l so_far heap) no_exit) a e h → turn_cut cut' e a h
        by_cut a (Falls, l) h k = k
        by_cut a (Breaks, l) h k = k
        by_cut a (Continues, l) h k = k
        by_cut a (Returns v, l) h k = k

        turning : (e : Ended) → Confines t size exits (on_turn types R on e) (turn_does does' e) (turn_cut cut' e)
        turning (Falls, l) = q l
        turning (Continues, l) = q l
        turning (Breaks, l) = at_once t size exits (Falls, l)
        turning (Returns v, l) = at_once t size exits (Returns v, l)
