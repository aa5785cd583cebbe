-- What acts take of their script, what parts of a tree reach by it, and where these can be cut after it.
use Rattle.std.proofs.Common.{◌≡◌, ℕ, List, [], ◌∷◌, ◌++◌, Option, Some, None, Result, Ok, Err, IsSomeAnd, ◌⊎◌, inl, inr, refl, sym, ap, ap₂, subst, ◌∙◌, append_assoc}
use Rattle.std.specs.Bool.{⊤}
use Rattle.std.proofs.lemmas.List.{append-nil}
use Rattle.px_base.specs.declared.trace.Site.{Site}
use Rattle.px_base.specs.declared.trace.Mark.{Mark}
use Rattle.px_base.specs.declared.trace.Kind.{Kind}
use Rattle.px_base.specs.declared.trace.MarkKind.{MarkKind}
use Rattle.px_meaning.specs.Values.{Value, Word, Null, Block, Unwritten}
use Rattle.px_meaning.specs.Heaps.{HeapMap, HeapBlock, HeapBlockState}
use Rattle.px_meaning.specs.Calls.{Halt, error}
use Rattle.px_meaning.specs.Heaps as blocks
use Rattle.px_meaning.specs.Events.{Event, marks, mark}
use Rattle.px_meaning.specs.Steps.{marking, by_state, by_pointer}
use Rattle.px_replay.specs.declared.stop.Stop.{Stop}
use Rattle.px_replay.specs.declared.stop.Stop.TheVariants as stop
use Rattle.px_replay.specs.Beginnings.{see}
use Rattle.px_replay.specs.Following.{SaysAll, IsTaken}
use Rattle.px_replay.specs.Script.{PlainScript, Act, behind, answers, goes_on, marked, with_heap}
use Rattle.px_replay.proofs.Confine.{Errors, Answers, Goals, Reached}
use Rattle.px_replay.proofs.TakenBlocks.{SameTaken}
use Rattle.px_replay.proofs.Consumed.{Consumes, consumes_nothing, consumes_write, consumes_mark, consumes_append}

-- the replay doesn't depart here
abbrev pub IsDone : {A : Type 0} → Result A Stop → Type 0
IsDone (Ok x) = ⊤
IsDone (Err (stop.Failed kind site)) = ⊤
IsDone (Err stop.Departs) = ⊥
IsDone (Err stop.NoMemory) = ⊥

abbrev pub never : {A : Type 0} → Result A Stop → Type 0
never r = ⊥

-- what a part does is given as what it takes to come to a goal
abbrev pub Does : {A : Type 0} → Goals A → Type 1
Does G = List Event → HeapMap → G.Goal → Type 0

-- the part can be cut inside, where `Cut` is asked of what was seen
abbrev pub Cuts : Type 1
Cuts = (List Event → Type 0) → List Event → HeapMap → Type 0

abbrev pub no_cuts : Cuts
no_cuts Cut so_far heap = ⊥

-- The act took some events of the script. They lead the part to what the answer says; and after the last of them, if
-- there is one, the part can be cut inside, or else `Last` holds of the answer.
pub record Reaches {A : Type 0} (G : Goals A) (Last : Result A Stop → Type 0) (does : Does G) (cuts : Cuts) (s : PlainScript) (r : Result A Stop) (s' : PlainScript) : Type 1 where
  pub events : List Event
  pub takes : Consumes s s' events
  pub leads : (so_far : List Event) (K : G.Goal) → Reached (G.on_error K) (G.on_answer K) (so_far ++ events) r s'.heap → does so_far s.heap K
  pub begun : (so_far : List Event) (Cut : List Event → Type 0) → Cut (so_far ++ events) → (events ≡ []) ⊎ (cuts Cut so_far s.heap ⊎ Last r)

-- the same with answer and script that equal these
pub moved : {A : Type 0} {G : Goals A} {Last : Result A Stop → Type 0} {does : Does G} {cuts : Cuts} {s : PlainScript} {x r : Result A Stop} {t s' : PlainScript} → r ≡ x → s' ≡ t → Reaches G Last does cuts s x t → Reaches G Last does cuts s r s'
moved {A} {G} {Last} {does} {cuts} {s} {x} {r} {t} {s'} e f p = subst (λ r. Reaches G Last does cuts s r s') (sym e) (subst (λ t. Reaches G Last does cuts s x t) (sym f) p)

-- ---- acts in general

-- an answer at once
pub answers_reached : {A : Type 0} {G : Goals A} {Last : Result A Stop → Type 0} {does : Does G} {cuts : Cuts} {s : PlainScript} {r : Result A Stop} {s' : PlainScript} → (x : Result A Stop) →
    ((so_far : List Event) (K : G.Goal) → Reached (G.on_error K) (G.on_answer K) so_far x s.heap → does so_far s.heap K) → answers x s r s' → Reaches G Last does cuts s r s'
answers_reached {G = G} {s = s} x to (e, f) = moved e f (record {
  events = [];
  takes = consumes_nothing s;
  leads = λ so_far K h. to so_far K (subst (λ t. Reached (G.on_error K) (G.on_answer K) t x s.heap) (append-nil so_far) h);
  begun = λ so_far Cut c. inl refl;
})

pub departs_reached : {A : Type 0} {G : Goals A} {Last : Result A Stop → Type 0} {does : Does G} {cuts : Cuts} {s : PlainScript} {r : Result A Stop} {s' : PlainScript} → answers (Err stop.Departs) s r s' → Reaches G Last does cuts s r s'
departs_reached h = answers_reached (Err stop.Departs) (λ so_far K k. absurd k) h

-- the next mark, and an answer that doesn't depart
pub mark_reached : {A : Type 0} {G : Goals A} {does : Does G} {cuts : Cuts} {s : PlainScript} {r : Result A Stop} {s' : PlainScript} → (kind : MarkKind) (site : Site) (x : Result A Stop) → SaysAll kind → IsDone x →
    ((so_far : List Event) (K : G.Goal) → Reached (G.on_error K) (G.on_answer K) (so_far ++ marking see kind site) x s.heap → does so_far s.heap K) →
    marked kind site (answers x) s r s' → Reaches G IsDone does cuts s r s'
mark_reached {s = s} kind site x all done to (inl (rest, e, (f, g))) = moved f g (record { events = marks (mark kind site) ∷ []; takes = consumes_mark s rest kind site all e; leads = to; begun = λ so_far Cut c. inr (inr done) })
mark_reached kind site x all done to (inr (o, h)) = departs_reached h

-- the same, with a write to blocks that are there
pub write_reached : {A : Type 0} {G : Goals A} {does : Does G} {cuts : Cuts} {s : PlainScript} {r : Result A Stop} {s' : PlainScript} → (kind : MarkKind) (site : Site) (heap : HeapMap) (x : Result A Stop) → SaysAll kind → SameTaken (IsTaken s.heap) (IsTaken heap) → IsDone x →
    ((so_far : List Event) (K : G.Goal) → Reached (G.on_error K) (G.on_answer K) (so_far ++ marking see kind site) x heap → does so_far s.heap K) →
    marked kind site (with_heap heap (answers x)) s r s' → Reaches G IsDone does cuts s r s'
write_reached {s = s} kind site heap x all same done to (inl (rest, e, (f, g))) = moved f g (record {
  events = marks (mark kind site) ∷ [];
  takes = consumes_append s (behind s rest s.heap) (behind s rest heap) (marks (mark kind site) ∷ []) [] (consumes_mark s rest kind site all e) (consumes_write (behind s rest s.heap) heap same);
  leads = to;
  begun = λ so_far Cut c. inr (inr done);
})
write_reached kind site heap x all same done to (inr (o, h)) = departs_reached h

-- the next mark, and an act after it
pub marked_reached : {A : Type 0} {G : Goals A} {Last : Result A Stop → Type 0} {does : Does G} {s : PlainScript} {r : Result A Stop} {s' : PlainScript} → (kind : MarkKind) (site : Site) (act : Act A) (after_does : Does G) (cuts : Cuts) → SaysAll kind →
    ((so_far : List Event) (K : G.Goal) → after_does (so_far ++ marking see kind site) s.heap K → does so_far s.heap K) →
    ((rest : List Mark) → act (behind s rest s.heap) r s' → Reaches G Last after_does cuts (behind s rest s.heap) r s') →
    marked kind site act s r s' → Reaches G Last does (λ Cut so_far heap. Cut (so_far ++ marking see kind site) ⊎ cuts Cut (so_far ++ marking see kind site) heap) s r s'
marked_reached {G = G} {s = s} {r = r} {s' = s'} kind site act after_does cuts all to f (inl (rest, e, h)) =
    let p = f rest h in
    record {
      events = marks (mark kind site) ∷ p.events;
      takes = consumes_append s (behind s rest s.heap) s' (marks (mark kind site) ∷ []) p.events (consumes_mark s rest kind site all e) p.takes;
      leads = λ so_far K h. to so_far K (p.leads (so_far ++ marking see kind site) K (subst (λ t. Reached (G.on_error K) (G.on_answer K) t r s'.heap) (sym (append_assoc so_far (marking see kind site) p.events)) h));
      begun = λ so_far Cut c. elim (p.begun (so_far ++ marking see kind site) Cut (subst Cut (sym (append_assoc so_far (marking see kind site) p.events)) c)) [
        | inl none ↦ inr (inl (inl (subst (λ t. Cut (so_far ++ (marks (mark kind site) ∷ t))) none c)))
        | inr (inl k) ↦ inr (inl (inr k))
        | inr (inr l) ↦ inr (inr l)
      ];
    }
marked_reached kind site act after_does cuts all to f (inr (o, h)) = departs_reached h

done_reaches : {A : Type 0} (err : Errors) (on : Answers A) (t : List Event) (r : Result A Stop) (h : HeapMap) → ((x : A) → on t x h) → ((kind : Kind) (site : Site) → err t (error kind) site h) → IsDone r → Reached err on t r h
done_reaches err on t (Ok x) h f g d = f x
done_reaches err on t (Err (stop.Failed kind site)) h f g d = g kind site
done_reaches err on t (Err stop.Departs) h f g d = absurd d
done_reaches err on t (Err stop.NoMemory) h f g d = absurd d

-- the cut right after the part, where it ends in a mark of its own, is one of its cuts
pub close : {A : Type 0} {G : Goals A} {does : Does G} {cuts all_cuts : Cuts} {s : PlainScript} {r : Result A Stop} {s' : PlainScript} → (goal : (List Event → Type 0) → G.Goal) →
    ((Cut : List Event → Type 0) (t : List Event) (x : A) (h : HeapMap) → Cut t → G.on_answer (goal Cut) t x h) → ((Cut : List Event → Type 0) (t : List Event) (halt : Halt) (site : Site) (h : HeapMap) → Cut t → G.on_error (goal Cut) t halt site h) →
    ((Cut : List Event → Type 0) (so_far : List Event) → cuts Cut so_far s.heap → all_cuts Cut so_far s.heap) → ((Cut : List Event → Type 0) (so_far : List Event) → does so_far s.heap (goal Cut) → all_cuts Cut so_far s.heap) →
    Reaches G IsDone does cuts s r s' → Reaches G never does all_cuts s r s'
close {G = G} {s = s} {r = r} {s' = s'} goal at at_error inside last p = record {
  events = p.events;
  takes = p.takes;
  leads = p.leads;
  begun = λ so_far Cut c. elim (p.begun so_far Cut c) [
    | inl none ↦ inl none
    | inr (inl k) ↦ inr (inl (inside Cut so_far k))
    | inr (inr d) ↦
        inr (inl (last Cut so_far (p.leads so_far (goal Cut) (done_reaches (G.on_error (goal Cut)) (G.on_answer (goal Cut)) (so_far ++ p.events) r s'.heap (λ x. at Cut (so_far ++ p.events) x s'.heap c) (λ kind site. at_error Cut (so_far ++ p.events) (error kind) site s'.heap c) d))))
  ];
}

-- the same, where more can be cut
pub more_cuts : {A : Type 0} {G : Goals A} {Last : Result A Stop → Type 0} {does : Does G} {cuts all_cuts : Cuts} {s : PlainScript} {r : Result A Stop} {s' : PlainScript} → ((Cut : List Event → Type 0) (so_far : List Event) → cuts Cut so_far s.heap → all_cuts Cut so_far s.heap) →
    Reaches G Last does cuts s r s' → Reaches G Last does all_cuts s r s'
more_cuts inside p = record {
  events = p.events;
  takes = p.takes;
  leads = p.leads;
  begun = λ so_far Cut c. elim (p.begun so_far Cut c) [ inl none ↦ inl none | inr (inl k) ↦ inr (inl (inside Cut so_far k)) | inr (inr l) ↦ inr (inr l) ];
}

-- ---- one act, and another with its value

error_reaches : {A B : Type 0} (err err' : Errors) (on : Answers A) (on' : Answers B) (t : List Event) (e : Stop) (h : HeapMap) → ((halt : Halt) (site : Site) → err t halt site h → err' t halt site h) → Reached err on t (Err e) h → Reached err' on' t (Err e) h
error_reaches err err' on on' t (stop.Failed kind site) h f k = f (error kind) site k
error_reaches err err' on on' t stop.Departs h f k = k
error_reaches err err' on on' t stop.NoMemory h f k = k

-- `next` is the goal of the first act, for each goal after the second
module _ {A B : Type 0} (G : Goals A) (H : Goals B) (next : H.Goal → G.Goal) (errors : (K : H.Goal) (t : List Event) (halt : Halt) (site : Site) (h : HeapMap) → H.on_error K t halt site h → G.on_error (next K) t halt site h)
    (Last : Result A Stop → Type 0) (Last' : Result B Stop → Type 0) (does : Does G) (cuts all_cuts : Cuts) (next_cuts : A → Cuts) (act : A → Act B) (s s1 s' : PlainScript) (r : Result B Stop)
    (inside : (Cut : List Event → Type 0) (so_far : List Event) → cuts Cut so_far s.heap → all_cuts Cut so_far s.heap)
    (beyond : (x : A) (Cut : List Event → Type 0) (so_far t : List Event) → ((K : G.Goal) → G.on_answer K (so_far ++ t) x s1.heap → does so_far s.heap K) → next_cuts x Cut (so_far ++ t) s1.heap → all_cuts Cut so_far s.heap)
    (last : (x : A) → act x s1 r s' → Last (Ok x) → Last' r) (last_error : (e : Stop) → Last (Err e) → Last' (Err e))
    (second : (x : A) → act x s1 r s' → Reaches H Last' (λ t h K. G.on_answer (next K) t x h) (next_cuts x) s1 r s') where
  pub then_reached : (r1 : Result A Stop) → Reaches G Last does cuts s r1 s1 → goes_on act r1 s1 r s' → Reaches H Last' (λ t h K. does t h (next K)) all_cuts s r s'
  then_reached (Ok x) p a =
      let q = second x a in
      record {
        events = p.events ++ q.events;
        takes = consumes_append s s1 s' p.events q.events p.takes q.takes;
        leads = λ so_far K h. p.leads so_far (next K) (q.leads (so_far ++ p.events) K (subst (λ t. Reached (H.on_error K) (H.on_answer K) t r s'.heap) (sym (append_assoc so_far p.events q.events)) h));
        begun = λ so_far Cut c. elim (q.begun (so_far ++ p.events) Cut (subst Cut (sym (append_assoc so_far p.events q.events)) c)) [
          | inl none ↦ elim (p.begun so_far Cut (subst (λ t. Cut (so_far ++ t)) (ap (λ t. p.events ++ t) none ∙ append-nil p.events) c)) [
            | inl none' ↦ inl (ap₂ (λ t u. t ++ u) none' none)
            | inr (inl k) ↦ inr (inl (inside Cut so_far k))
            | inr (inr l) ↦ inr (inr (last x a l))
          ]
          | inr (inl k) ↦ inr (inl (beyond x Cut so_far p.events (λ K k. p.leads so_far K k) k))
          | inr (inr l) ↦ inr (inr l)
        ];
      }
  then_reached (Err e) p (a, b) = moved a b (record {
    events = p.events;
    takes = p.takes;
    leads = λ so_far K h. p.leads so_far (next K) (error_reaches (H.on_error K) (G.on_error (next K)) (H.on_answer K) (G.on_answer (next K)) (so_far ++ p.events) e s1.heap (λ halt site k. errors K (so_far ++ p.events) halt site s1.heap k) h);
    begun = λ so_far Cut c. elim (p.begun so_far Cut c) [
      | inl none ↦ inl none
      | inr (inl k) ↦ inr (inl (inside Cut so_far k))
      | inr (inr l) ↦ inr (inr (last_error e l))
    ];
  })

-- after a part that has its last mark inside: an act that can be cut where `cutting` says, as a goal of that part
pub then_cut : {A B : Type 0} {G : Goals A} {H : Goals B} {Last : Result B Stop → Type 0} {does : Does G} {cuts : Cuts} {s : PlainScript} {r1 : Result A Stop} {s1 : PlainScript} {r : Result B Stop} {s' : PlainScript} → (act : A → Act B) (next : H.Goal → G.Goal) (cutting : (List Event → Type 0) → G.Goal) →
    ((K : H.Goal) (t : List Event) (halt : Halt) (site : Site) (h : HeapMap) → H.on_error K t halt site h → G.on_error (next K) t halt site h) →
    Reaches G never does cuts s r1 s1 → ((x : A) → act x s1 r s' → Reaches H Last (λ t h K. G.on_answer (next K) t x h) (λ Cut t h. G.on_answer (cutting Cut) t x h) s1 r s') →
    goes_on act r1 s1 r s' → Reaches H Last (λ t h K. does t h (next K)) (λ Cut so_far heap. cuts Cut so_far heap ⊎ does so_far heap (cutting Cut)) s r s'
then_cut {G = G} {H = H} {Last = Last} {does = does} {cuts = cuts} {s = s} {r1 = r1} {s1 = s1} {r = r} {s' = s'} act next cutting errors p f h =
    then_reached G H next errors never Last does cuts (λ Cut so_far heap. cuts Cut so_far heap ⊎ does so_far heap (cutting Cut)) (λ x Cut t h. G.on_answer (cutting Cut) t x h) act s s1 s' r
    (λ Cut so_far c. inl c) (λ x Cut so_far t to c. inr (to (cutting Cut) c)) (λ x a l. absurd l) (λ e l. absurd l) f r1 p h

-- the same where the second act isn't cut inside
pub then_last : {A B : Type 0} {G : Goals A} {H : Goals B} {Last : Result B Stop → Type 0} {does : Does G} {cuts : Cuts} {s : PlainScript} {r1 : Result A Stop} {s1 : PlainScript} {r : Result B Stop} {s' : PlainScript} → (act : A → Act B) (next : H.Goal → G.Goal) →
    ((K : H.Goal) (t : List Event) (halt : Halt) (site : Site) (h : HeapMap) → H.on_error K t halt site h → G.on_error (next K) t halt site h) →
    Reaches G never does cuts s r1 s1 → ((x : A) → act x s1 r s' → Reaches H Last (λ t h K. G.on_answer (next K) t x h) no_cuts s1 r s') →
    goes_on act r1 s1 r s' → Reaches H Last (λ t h K. does t h (next K)) cuts s r s'
then_last {G = G} {H = H} {Last = Last} {does = does} {cuts = cuts} {s = s} {r1 = r1} {s1 = s1} {r = r} {s' = s'} act next errors p f h =
    then_reached G H next errors never Last does cuts cuts (λ x. no_cuts) act s s1 s' r (λ Cut so_far c. c) (λ x Cut so_far t to c. absurd c) (λ x a l. absurd l) (λ e l. absurd l) f r1 p h

-- after a part whose last mark may be its own: an answer that doesn't depart
pub then_done : {A B : Type 0} {G : Goals A} {H : Goals B} {does : Does G} {cuts : Cuts} {s : PlainScript} {r1 : Result A Stop} {s1 : PlainScript} {r : Result B Stop} {s' : PlainScript} → (answer : A → Result B Stop) (next : H.Goal → G.Goal) →
    ((K : H.Goal) (t : List Event) (halt : Halt) (site : Site) (h : HeapMap) → H.on_error K t halt site h → G.on_error (next K) t halt site h) → ((x : A) → IsDone (answer x)) →
    ((x : A) (so_far : List Event) (K : H.Goal) → Reached (H.on_error K) (H.on_answer K) so_far (answer x) s1.heap → G.on_answer (next K) so_far x s1.heap) →
    Reaches G IsDone does cuts s r1 s1 → goes_on (λ x. answers (answer x)) r1 s1 r s' → Reaches H IsDone (λ t h K. does t h (next K)) cuts s r s'
then_done {G = G} {H = H} {does = does} {cuts = cuts} {s = s} {r1 = r1} {s1 = s1} {r = r} {s' = s'} answer next errors done to p h =
    then_reached G H next errors IsDone IsDone does cuts cuts (λ x. no_cuts) (λ x. answers (answer x)) s s1 s' r (λ Cut so_far c. c) (λ x Cut so_far t to c. absurd c) (λ x a l. subst IsDone (sym a.0) (done x)) (λ e l. l)
    (λ x a. answers_reached (answer x) (to x) a) r1 p h

-- ---- through pointers

-- a pointer leads to one place, and whatever is asked of that place is asked of the pointer
pub leads_to : (R : Type 1) (heap : HeapMap) (t : ℕ) (p : Value) (X Y : Type 0) (Z : ℕ → List Value → Type 0) →
    (X → ((X' Y' : Type 0) (Z' : ℕ → List Value → Type 0) → X' → by_pointer heap t p X' Y' Z') → R) →
    (Y → ((X' Y' : Type 0) (Z' : ℕ → List Value → Type 0) → Y' → by_pointer heap t p X' Y' Z') → R) →
    ((n : ℕ) (cells : List Value) → IsTaken heap n → Z n cells → ((X' Y' : Type 0) (Z' : ℕ → List Value → Type 0) → Z' n cells → by_pointer heap t p X' Y' Z') → R) →
    by_pointer heap t p X Y Z → R
leads_to R heap t (Word z) X Y Z null freed live h = absurd h
leads_to R heap t Null X Y Z null freed live h = null h (λ X' Y' Z' k. k)
leads_to R heap t (Block n) X Y Z null freed live h = at (heap n) refl h
  where
    in_state : (b : HeapBlock) → heap n ≡ Some b → b.block_type ≡ t → (state : HeapBlockState) → b.state ≡ state → by_state state Y (Z n) → R
    in_state b e f (blocks.Live cells) q h =
        live n cells (b, e) h (λ X' Y' Z' k. subst (λ o. IsSomeAnd o (λ b. (b.block_type ≡ t) × by_state b.state Y' (Z' n))) (sym e) (f, subst (λ state. by_state state Y' (Z' n)) (sym q) k))
    in_state b e f blocks.Freed q h =
        freed h (λ X' Y' Z' k. subst (λ o. IsSomeAnd o (λ b. (b.block_type ≡ t) × by_state b.state Y' (Z' n))) (sym e) (f, subst (λ state. by_state state Y' (Z' n)) (sym q) k))

    at : (o : Option HeapBlock) → heap n ≡ o → IsSomeAnd o (λ b. (b.block_type ≡ t) × by_state b.state Y (Z n)) → R
    at None e h = absurd h
    at (Some b) e h = in_state b e h.0 b.state refl h.1
leads_to R heap t Unwritten X Y Z null freed live h = absurd h
