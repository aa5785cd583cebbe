-- Executions that go on along the script of an act are confined to what the act took of it.
use Rattle.std.proofs.Common.{◌≡◌, ◌⊎◌, ℕ, suc, ◌+◌, ◌≤◌, List, [], ◌∷◌, ◌++◌, length, sym, ap, subst, ◌∙◌, inl, inr, Bool, true, false, Result, Ok, Err, drop, arith, append_assoc, append-nil}
use Rattle.std.proofs.lemmas.List.{length-append}
use Rattle.px_base.specs.declared.trace.Site.{Site}
use Rattle.px_base.specs.declared.trace.Kind.{Kind}
use Rattle.px_base.specs.declared.trace.Mark.{Mark}
use Rattle.px_base.specs.declared.trace.MarkKind.{MarkKind}
use Rattle.px_meaning.specs.Heaps.{HeapMap}
use Rattle.px_meaning.specs.Calls.{Halt, error, outside}
use Rattle.px_meaning.specs.Events.{Event, marks, mark}
use Rattle.px_meaning.specs.Steps.{marking}
use Rattle.px_meaning.proofs.TreeBegins.{Begins, Opens, OpensErr, shorter}
use Rattle.px_replay.specs.declared.stop.Stop.{Stop}
use Rattle.px_replay.specs.declared.stop.Stop.TheVariants as stop
use Rattle.px_replay.specs.Following.{IsTaken}
use Rattle.px_replay.specs.Beginnings.{see}
use Rattle.px_replay.specs.Acts.{IsOther}
use Rattle.px_replay.specs.Script.{PlainScript, Act, behind, answers, goes_on, and_then, either_act, marked}
use Rattle.px_replay.proofs.ConfineEvents.{Obeys, ObeysScript}

-- what is asked after an error, and after an answer
abbrev pub Errors : Type 1
Errors = List Event → Halt → Site → HeapMap → Type 0

abbrev pub Answers : Type 0 → Type 1
Answers A = List Event → A → HeapMap → Type 0

-- goals of one form, with what they ask after an error and after an answer
pub record Goals (A : Type 0) : Type 2 where
  pub Goal : Type 1
  pub on_error : Goal → Errors
  pub on_answer : Goal → Answers A

-- what is asked where the act answers so: nothing comes of one that departs
abbrev pub Reached : {A : Type 0} → Errors → Answers A → List Event → Result A Stop → HeapMap → Type 0
Reached err on so_far (Ok v) heap = on so_far v heap
Reached err on so_far (Err (stop.Failed kind site)) heap = err so_far (error kind) site heap
Reached err on so_far (Err stop.Departs) heap = ⊥
Reached err on so_far (Err stop.NoMemory) heap = ⊥

-- the same of executions: where the act departs, they come to what isn't understood
abbrev pub Met : {A : Type 0} → Errors → Answers A → List Event → Result A Stop → HeapMap → Type 0
Met err on so_far (Ok v) heap = on so_far v heap
Met err on so_far (Err (stop.Failed kind site)) heap = err so_far (error kind) site heap
Met err on so_far (Err stop.Departs) heap = (word : ℕ) × (site : Site) × err so_far (outside word) site heap
Met err on so_far (Err stop.NoMemory) heap = ⊥

-- no executions, and no cuts
abbrev pub no_cut : List Event → HeapMap → Type 0
no_cut so_far heap = ⊥

-- what the one act does or the other, and the cuts in it
abbrev pub either_does : {X : Type 1} → Bool → (X → List Event → HeapMap → Type 0) → (X → List Event → HeapMap → Type 0) → X → List Event → HeapMap → Type 0
either_does true first second K so_far heap = first K so_far heap
either_does false first second K so_far heap = second K so_far heap

abbrev pub either_cut : Bool → (first second : List Event → HeapMap → Type 0) → List Event → HeapMap → Type 0
either_cut true first second so_far heap = first so_far heap
either_cut false first second so_far heap = second so_far heap

-- `t` is all that is seen, and the script had so many marks, and as many as were seen before
module _ (t : List Event) (size : ℕ) where
  -- what is seen so far is what was taken of the script, and what is seen from now on obeys the rest
  pub record At (so_far : List Event) (s : PlainScript) : Type 0 where
    pub taken : length so_far + length s.marks ≡ size
    pub obeys : (r : List Event) → t ≡ so_far ++ r → ObeysScript s r

  -- the goal is reached where the act stops
  abbrev pub Comes : {A : Type 0} → Errors → Answers A → Result A Stop → PlainScript → Type 0
  Comes err on r s' = (so_far : List Event) × At so_far s' × Met err on so_far r s'.heap

  -- all that is seen was taken
  abbrev pub NoFurther : PlainScript → Type 0
  NoFurther s' = length t + length s'.marks ≤ size

  -- an act, what executions do, and where they are cut
  pub record Confines {A : Type 0} (G : Goals A) (act : Act A) (does : G.Goal → List Event → HeapMap → Type 0) (cut : List Event → HeapMap → Type 0) : Type 1 where
    pub shrinks : (s : PlainScript) (r : Result A Stop) (s' : PlainScript) → act s r s' → length s'.marks ≤ length s.marks
    pub begins : (K : G.Goal) (so_far : List Event) (heap : HeapMap) → OpensErr t (G.on_error K) → Opens t (G.on_answer K) → does K so_far heap → Begins t so_far
    pub only : (K : G.Goal) (so_far : List Event) (s : PlainScript) (r : Result A Stop) (s' : PlainScript) → OpensErr t (G.on_error K) → Opens t (G.on_answer K) →
        act s r s' → At so_far s → does K so_far s.heap → Comes (G.on_error K) (G.on_answer K) r s'
    pub cut_begins : (so_far : List Event) (heap : HeapMap) → cut so_far heap → Begins t so_far
    pub no_further : (so_far : List Event) (s : PlainScript) (r : Result A Stop) (s' : PlainScript) → act s r s' → At so_far s → cut so_far s.heap → NoFurther s'

  -- ---- the ways to put acts together

  pub comes_at : {A : Type 0} (err : Errors) (on : Answers A) (x r : Result A Stop) (s s' : PlainScript) → Comes err on x s → answers x s r s' → Comes err on r s'
  comes_at {A} err on x r s s' c (e, f) = subst (λ (r : Result A Stop). Comes err on r s') (sym e) (subst (λ (u : PlainScript). Comes err on x u) (sym f) c)

  pub at_end : {A : Type 0} (x r : Result A Stop) (s s' : PlainScript) → answers x s r s' → length s'.marks ≤ length s.marks
  at_end x r s s' (e, f) = subst (λ (u : PlainScript). length u.marks ≤ length s.marks) (sym f) (omega arith)

  module _ {A B : Type 0} (G : Goals A) (H : Goals B) (act : Act A) (does : G.Goal → List Event → HeapMap → Type 0) (cut : List Event → HeapMap → Type 0)
      (on : A → Act B) (does' : A → H.Goal → List Event → HeapMap → Type 0) (cut' : A → List Event → HeapMap → Type 0) (through : H.Goal → G.Goal) (cutting : G.Goal)
      (on_errors : (K : H.Goal) (a : List Event) (halt : Halt) (site : Site) (h : HeapMap) → G.on_error (through K) a halt site h → H.on_error K a halt site h)
      (on_answers : (K : H.Goal) (a : List Event) (v : A) (h : HeapMap) → G.on_answer (through K) a v h → does' v K a h)
      (errors_there : (a : List Event) (halt : Halt) (site : Site) (h : HeapMap) → G.on_error cutting a halt site h → t ≡ a)
      (cuts : (a : List Event) (v : A) (h : HeapMap) → G.on_answer cutting a v h → (t ≡ a) ⊎ cut' v a h)
      (first : Confines G act does cut) (second : (v : A) → Confines H (on v) (does' v) (cut' v)) where
    goes_shrinks : (r1 : Result A Stop) (s1 : PlainScript) (r : Result B Stop) (s' : PlainScript) → goes_on on r1 s1 r s' → length s'.marks ≤ length s1.marks
    goes_shrinks (Ok v) s1 r s' h = (second v).shrinks s1 r s' h
    goes_shrinks (Err e) s1 r s' h = at_end (Err e) r s1 s' h

    goes_only : (K : H.Goal) (a : List Event) (r1 : Result A Stop) (s1 : PlainScript) (r : Result B Stop) (s' : PlainScript) → OpensErr t (H.on_error K) → Opens t (H.on_answer K) →
        goes_on on r1 s1 r s' → At a s1 → Met (G.on_error (through K)) (G.on_answer (through K)) a r1 s1.heap → Comes (H.on_error K) (H.on_answer K) r s'
    goes_only K a (Ok v) s1 r s' oe oa h at k = (second v).only K a s1 r s' oe oa h at (on_answers K a v s1.heap k)
    goes_only K a (Err (stop.Failed kind site)) s1 r s' oe oa h at k =
        comes_at (H.on_error K) (H.on_answer K) (Err (stop.Failed kind site)) r s1 s' (a, at, on_errors K a (error kind) site s1.heap k) h
    goes_only K a (Err stop.Departs) s1 r s' oe oa h at (word, site, k) =
        comes_at (H.on_error K) (H.on_answer K) (Err stop.Departs) r s1 s' (a, at, (word, site, on_errors K a (outside word) site s1.heap k)) h
    goes_only K a (Err stop.NoMemory) s1 r s' oe oa h at k = absurd k

    -- all that is seen was taken before the second act
    all_taken : (a : List Event) (r1 : Result A Stop) (s1 : PlainScript) (r : Result B Stop) (s' : PlainScript) → goes_on on r1 s1 r s' → At a s1 → t ≡ a → NoFurther s'
    all_taken a r1 s1 r s' h at e =
        let n : length t ≡ length a = ap length e in
        let m : length a + length s1.marks ≡ size = at.taken in
        let k : length s'.marks ≤ length s1.marks = goes_shrinks r1 s1 r s' h in omega arith

    here_begins : (a : List Event) → t ≡ a → Begins t a
    here_begins a e = ([], e ∙ sym (append-nil a))

    opens_errors : OpensErr t (G.on_error cutting)
    opens_errors a halt site h k = here_begins a (errors_there a halt site h k)

    opens_answers : Opens t (G.on_answer cutting)
    opens_answers a v h k = elim (cuts a v h k) [ inl e ↦ here_begins a e | inr c ↦ (second v).cut_begins a h c ]

    goes_no_further : (a : List Event) (r1 : Result A Stop) (s1 : PlainScript) (r : Result B Stop) (s' : PlainScript) → goes_on on r1 s1 r s' → At a s1 →
        Met (G.on_error cutting) (G.on_answer cutting) a r1 s1.heap → NoFurther s'
    goes_no_further a (Ok v) s1 r s' h at k = elim (cuts a v s1.heap k) [
      | inl e ↦ all_taken a (Ok v) s1 r s' h at e
      | inr c ↦ (second v).no_further a s1 r s' h at c
    ]
    goes_no_further a (Err (stop.Failed kind site)) s1 r s' h at k = all_taken a (Err (stop.Failed kind site)) s1 r s' h at (errors_there a (error kind) site s1.heap k)
    goes_no_further a (Err stop.Departs) s1 r s' h at (word, site, k) = all_taken a (Err stop.Departs) s1 r s' h at (errors_there a (outside word) site s1.heap k)
    goes_no_further a (Err stop.NoMemory) s1 r s' h at k = absurd k

    all_begins : (K : H.Goal) (so_far : List Event) (heap : HeapMap) → OpensErr t (H.on_error K) → Opens t (H.on_answer K) → does (through K) so_far heap → Begins t so_far
    all_begins K so_far heap oe oa d =
        first.begins (through K) so_far heap (λ a halt site h k. oe a halt site h (on_errors K a halt site h k)) (λ a v h k. (second v).begins K a h oe oa (on_answers K a v h k)) d

    cut_begins' : (so_far : List Event) (heap : HeapMap) → cut so_far heap ⊎ does cutting so_far heap → Begins t so_far
    cut_begins' so_far heap (inl c) = first.cut_begins so_far heap c
    cut_begins' so_far heap (inr d) = first.begins cutting so_far heap opens_errors opens_answers d

    cut_no_further : (so_far : List Event) (s : PlainScript) (r : Result B Stop) (s' : PlainScript) → and_then act on s r s' → At so_far s → cut so_far s.heap ⊎ does cutting so_far s.heap → NoFurther s'
    cut_no_further so_far s r s' (r1, s1, f, h) at (inl c) =
        let n : NoFurther s1 = first.no_further so_far s r1 s1 f at c in
        let m : length s'.marks ≤ length s1.marks = goes_shrinks r1 s1 r s' h in omega arith
    cut_no_further so_far s r s' (r1, s1, f, h) at (inr d) =
        let (a, at1, k) = first.only cutting so_far s r1 s1 opens_errors opens_answers f at d in
        goes_no_further a r1 s1 r s' h at1 k

    pub sequence_after : Confines H (and_then act on) (λ K. does (through K)) (λ so_far heap. cut so_far heap ⊎ does cutting so_far heap)
    sequence_after = record {
      shrinks = λ s r s' (r1, s1, f, h).
          let n : length s1.marks ≤ length s.marks = first.shrinks s r1 s1 f in
          let m : length s'.marks ≤ length s1.marks = goes_shrinks r1 s1 r s' h in omega arith;
      begins = all_begins;
      only = λ K so_far s r s' oe oa (r1, s1, f, h) at d.
          let (a, at1, k) = first.only (through K) so_far s r1 s1 (λ a halt site h k. oe a halt site h (on_errors K a halt site h k)) (λ a v h k. (second v).begins K a h oe oa (on_answers K a v h k)) f at d in
          goes_only K a r1 s1 r s' oe oa h at1 k;
      cut_begins = cut_begins';
      no_further = cut_no_further;
    }

  -- the same where the cut isn't right after the first
  pub sequence : {A B : Type 0} (G : Goals A) (H : Goals B) (act : Act A) (does : G.Goal → List Event → HeapMap → Type 0) (cut : List Event → HeapMap → Type 0)
      (on : A → Act B) (does' : A → H.Goal → List Event → HeapMap → Type 0) (cut' : A → List Event → HeapMap → Type 0) (through : H.Goal → G.Goal) (cutting : G.Goal) →
      ((K : H.Goal) (a : List Event) (halt : Halt) (site : Site) (h : HeapMap) → G.on_error (through K) a halt site h → H.on_error K a halt site h) →
      ((K : H.Goal) (a : List Event) (v : A) (h : HeapMap) → G.on_answer (through K) a v h → does' v K a h) →
      ((a : List Event) (halt : Halt) (site : Site) (h : HeapMap) → G.on_error cutting a halt site h → ⊥) →
      ((a : List Event) (v : A) (h : HeapMap) → G.on_answer cutting a v h → cut' v a h) →
      Confines G act does cut → ((v : A) → Confines H (on v) (does' v) (cut' v)) → Confines H (and_then act on) (λ K. does (through K)) (λ so_far heap. cut so_far heap ⊎ does cutting so_far heap)
  sequence G H act does cut on does' cut' through cutting on_errors on_answers no_errors cuts first second =
      sequence_after G H act does cut on does' cut' through cutting on_errors on_answers (λ a halt site h k. absurd (no_errors a halt site h k)) (λ a v h k. inr (cuts a v h k)) first second

  -- fewer executions and fewer cuts
  pub fewer : {A : Type 0} {G : Goals A} {act : Act A} {does does' : G.Goal → List Event → HeapMap → Type 0} {cut cut' : List Event → HeapMap → Type 0} →
      ((K : G.Goal) (so_far : List Event) (heap : HeapMap) → does' K so_far heap → does K so_far heap) → ((so_far : List Event) (heap : HeapMap) → cut' so_far heap → cut so_far heap) →
      Confines G act does cut → Confines G act does' cut'
  fewer f g p = record {
    shrinks = p.shrinks;
    begins = λ K so_far heap oe oa d. p.begins K so_far heap oe oa (f K so_far heap d);
    only = λ K so_far s r s' oe oa h at d. p.only K so_far s r s' oe oa h at (f K so_far s.heap d);
    cut_begins = λ so_far heap c. p.cut_begins so_far heap (g so_far heap c);
    no_further = λ so_far s r s' h at c. p.no_further so_far s r s' h at (g so_far s.heap c);
  }

  -- the act where something is so
  pub given : {A : Type 0} {G : Goals A} (X : PlainScript → Type 0) {act : Act A} {does : G.Goal → List Event → HeapMap → Type 0} {cut : List Event → HeapMap → Type 0} →
      Confines G act does cut → Confines G (λ s r s'. X s × act s r s') does cut
  given X p = record {
    shrinks = λ s r s' h. p.shrinks s r s' h.1;
    begins = p.begins;
    only = λ K so_far s r s' oe oa h at d. p.only K so_far s r s' oe oa h.1 at d;
    cut_begins = p.cut_begins;
    no_further = λ so_far s r s' h at c. p.no_further so_far s r s' h.1 at c;
  }

  pub fewer_cuts : {A : Type 0} {G : Goals A} {act : Act A} {does : G.Goal → List Event → HeapMap → Type 0} {cut cut' : List Event → HeapMap → Type 0} →
      ((so_far : List Event) (heap : HeapMap) → cut' so_far heap → cut so_far heap) → Confines G act does cut → Confines G act does cut'
  fewer_cuts g p = fewer (λ K so_far heap d. d) g p

  -- the cut may also be right after all that is done
  pub or_after : {A : Type 0} {G : Goals A} {act : Act A} {does : G.Goal → List Event → HeapMap → Type 0} {cut : List Event → HeapMap → Type 0} (after_all : G.Goal) →
      ((a : List Event) (halt : Halt) (site : Site) (h : HeapMap) → G.on_error after_all a halt site h → t ≡ a) →
      ((a : List Event) (v : A) (h : HeapMap) → G.on_answer after_all a v h → t ≡ a) →
      Confines G act does cut → Confines G act does (λ so_far heap. cut so_far heap ⊎ does after_all so_far heap)
  or_after {A} {G} {act} {does} {cut} after_all f g p = record {
    shrinks = p.shrinks;
    begins = p.begins;
    only = p.only;
    cut_begins = λ so_far heap c. elim c [ inl c ↦ p.cut_begins so_far heap c | inr d ↦ p.begins after_all so_far heap opens_error opens_answer d ];
    no_further = λ so_far s r s' h at c. elim c [ inl c ↦ p.no_further so_far s r s' h at c | inr d ↦ after_it r s' (p.only after_all so_far s r s' opens_error opens_answer h at d) ];
  }
    where
      opens_error : OpensErr t (G.on_error after_all)
      opens_error a halt site h k = ([], f a halt site h k ∙ sym (append-nil a))

      opens_answer : Opens t (G.on_answer after_all)
      opens_answer a v h k = ([], g a v h k ∙ sym (append-nil a))

      there : (a : List Event) (s' : PlainScript) → At a s' → t ≡ a → NoFurther s'
      there a s' at e = let n : length t ≡ length a = ap length e in let m : length a + length s'.marks ≡ size = at.taken in omega arith

      after_it : (r : Result A Stop) (s' : PlainScript) → Comes (G.on_error after_all) (G.on_answer after_all) r s' → NoFurther s'
      after_it (Ok v) s' (a, at, k) = there a s' at (g a v s'.heap k)
      after_it (Err (stop.Failed kind site)) s' (a, at, k) = there a s' at (f a (error kind) site s'.heap k)
      after_it (Err stop.Departs) s' (a, at, (word, site, k)) = there a s' at (f a (outside word) site s'.heap k)
      after_it (Err stop.NoMemory) s' (a, at, k) = absurd k

  -- ---- acts of themselves

  -- an answer at once
  pub at_once : {A : Type 0} (G : Goals A) (v : A) → Confines G (answers (Ok v)) (λ K so_far heap. G.on_answer K so_far v heap) no_cut
  at_once G v = record {
    shrinks = λ s r s' h. at_end (Ok v) r s s' h;
    begins = λ K a heap oe oa k. oa a v heap k;
    only = λ K a s r s' oe oa h at k. comes_at (G.on_error K) (G.on_answer K) (Ok v) r s s' (a, at, k) h;
    cut_begins = λ a heap c. absurd c;
    no_further = λ a s r s' h at c. absurd c;
  }

  pub error_at : {A : Type 0} (G : Goals A) (kind : Kind) (site : Site) (does : G.Goal → List Event → HeapMap → Type 0) →
      ((K : G.Goal) (so_far : List Event) (heap : HeapMap) → does K so_far heap → G.on_error K so_far (error kind) site heap) → Confines G (answers (Err (stop.Failed kind site))) does no_cut
  error_at G kind site does f = record {
    shrinks = λ s r s' h. at_end (Err (stop.Failed kind site)) r s s' h;
    begins = λ K a heap oe oa d. oe a (error kind) site heap (f K a heap d);
    only = λ K a s r s' oe oa h at d. comes_at (G.on_error K) (G.on_answer K) (Err (stop.Failed kind site)) r s s' (a, at, f K a s.heap d) h;
    cut_begins = λ a heap c. absurd c;
    no_further = λ a s r s' h at c. absurd c;
  }

  pub error_once : {A : Type 0} (G : Goals A) (kind : Kind) (site : Site) → Confines G (answers (Err (stop.Failed kind site))) (λ K so_far heap. G.on_error K so_far (error kind) site heap) no_cut
  error_once G kind site = error_at G kind site _ (λ K a heap d. d)

  pub departs : {A : Type 0} (G : Goals A) → Confines G (answers (Err stop.Departs)) (λ K so_far heap. ⊥) no_cut
  departs G = record {
    shrinks = λ s r s' h. at_end (Err stop.Departs) r s s' h;
    begins = λ K a heap oe oa d. absurd d;
    only = λ K a s r s' oe oa h at d. absurd d;
    cut_begins = λ a heap c. absurd c;
    no_further = λ a s r s' h at c. absurd c;
  }

  -- what isn't understood: the act departs there
  pub stops : {A : Type 0} (G : Goals A) (word : ℕ) (site : Site) → Confines G (answers (Err stop.Departs)) (λ K so_far heap. G.on_error K so_far (outside word) site heap) no_cut
  stops G word site = record {
    shrinks = λ s r s' h. at_end (Err stop.Departs) r s s' h;
    begins = λ K a heap oe oa d. oe a (outside word) site heap d;
    only = λ K a s r s' oe oa h at d. comes_at (G.on_error K) (G.on_answer K) (Err stop.Departs) r s s' (a, at, (word, site, d)) h;
    cut_begins = λ a heap c. absurd c;
    no_further = λ a s r s' h at c. absurd c;
  }

  -- the cut is at one place or at another
  pub both_cuts : {A : Type 0} {G : Goals A} {act : Act A} {does : G.Goal → List Event → HeapMap → Type 0} {cut cut' : List Event → HeapMap → Type 0} →
      Confines G act does cut → Confines G act does cut' → Confines G act does (λ so_far heap. cut so_far heap ⊎ cut' so_far heap)
  both_cuts p q = record {
    shrinks = p.shrinks;
    begins = p.begins;
    only = p.only;
    cut_begins = λ so_far heap c. elim c [ inl c ↦ p.cut_begins so_far heap c | inr c ↦ q.cut_begins so_far heap c ];
    no_further = λ so_far s r s' h at c. elim c [ inl c ↦ p.no_further so_far s r s' h at c | inr c ↦ q.no_further so_far s r s' h at c ];
  }

  pub either_of : {A : Type 0} {G : Goals A} {act act' : Act A} {does does' : G.Goal → List Event → HeapMap → Type 0} {cut cut' : List Event → HeapMap → Type 0} →
      Confines G act does cut → Confines G act' does' cut' → (b : Bool) → Confines G (either_act b act act') (either_does b does does') (either_cut b cut cut')
  either_of p q true = p
  either_of p q false = q

  -- ---- a mark

  -- along a mark
  pub at_mark : (so_far : List Event) (s : PlainScript) (m : Mark) (rest : List Mark) → s.marks ≡ m ∷ rest → At so_far s → At (so_far ++ marks m ∷ []) (behind s rest s.heap)
  at_mark so_far s m rest e at = record {
    taken =
        let n : length (so_far ++ marks m ∷ []) ≡ length so_far + 1 = length-append so_far (marks m ∷ []) in
        let k : length s.marks ≡ suc (length rest) = ap length e in
        let l : length so_far + length s.marks ≡ size = at.taken in omega arith;
    obeys = λ r f. let (rest', e', o) = at.obeys (marks m ∷ r) (f ∙ append_assoc so_far (marks m ∷ []) r) in
        subst (λ (u : List Mark). Obeys (IsTaken s.heap) s.inputs u r) (ap (drop 1) (sym e' ∙ e)) o;
  }

  pub not_other : (so_far : List Event) (s : PlainScript) (m : Mark) → At so_far s → Begins t (so_far ++ marks m ∷ []) → IsOther m s.marks → ⊥
  not_other so_far s m at (r, e) f = let (rest, e', o) = at.obeys (marks m ∷ r) (e ∙ append_assoc so_far (marks m ∷ []) r) in f rest e'

  pub marked_part : {A : Type 0} {G : Goals A} (kind : MarkKind) (site : Site) {on : Act A} {does : G.Goal → List Event → HeapMap → Type 0} {cut : List Event → HeapMap → Type 0} →
      Confines G on does cut →
      Confines G (marked kind site on) (λ K so_far heap. does K (so_far ++ marking see kind site) heap)
      (λ so_far heap. (t ≡ so_far ++ marking see kind site) ⊎ cut (so_far ++ marking see kind site) heap)
  marked_part {A} {G} kind site {on} {does} {cut} p = record {
    shrinks = λ s r s' h. elim h [
      | inl (rest, e, h) ↦ let n : length s'.marks ≤ length rest = p.shrinks (behind s rest s.heap) r s' h in let k : length s.marks ≡ suc (length rest) = ap length e in omega arith
      | inr (o, h) ↦ at_end (Err stop.Departs) r s s' h
    ];
    begins = λ K a heap oe oa d. shorter t a (marking see kind site) (p.begins K (a ++ marking see kind site) heap oe oa d);
    only = λ K a s r s' oe oa h at d. elim h [
      | inl (rest, e, h) ↦ p.only K (a ++ marking see kind site) (behind s rest s.heap) r s' oe oa h (at_mark a s (mark kind site) rest e at) d
      | inr (o, h) ↦ absurd (not_other a s (mark kind site) at (p.begins K (a ++ marking see kind site) s.heap oe oa d) o)
    ];
    cut_begins = λ a heap c. shorter t a (marking see kind site) (here a heap c);
    no_further = λ a s r s' h at c. elim h [
      | inl (rest, e, h) ↦ along a s rest r s' (at_mark a s (mark kind site) rest e at) h c
      | inr (o, h) ↦ absurd (not_other a s (mark kind site) at (here a s.heap c) o)
    ];
  }
    where
      here : (a : List Event) (heap : HeapMap) → (t ≡ a ++ marking see kind site) ⊎ cut (a ++ marking see kind site) heap → Begins t (a ++ marking see kind site)
      here a heap (inl e) = ([], e ∙ sym (append-nil (a ++ marking see kind site)))
      here a heap (inr c) = p.cut_begins (a ++ marking see kind site) heap c

      along : (a : List Event) (s : PlainScript) (rest : List Mark) (r : Result A Stop) (s' : PlainScript) → At (a ++ marking see kind site) (behind s rest s.heap) → on (behind s rest s.heap) r s' →
          (t ≡ a ++ marking see kind site) ⊎ cut (a ++ marking see kind site) s.heap → NoFurther s'
      along a s rest r s' at h (inl e) =
          let n : length t ≡ length (a ++ marking see kind site) = ap length e in
          let m : length (a ++ marking see kind site) + length rest ≡ size = at.taken in
          let k : length s'.marks ≤ length rest = p.shrinks (behind s rest s.heap) r s' h in omega arith
      along a s rest r s' at h (inr c) = p.no_further (a ++ marking see kind site) (behind s rest s.heap) r s' h at c
