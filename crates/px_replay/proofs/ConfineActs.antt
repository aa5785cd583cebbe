-- What expressions and statements do of themselves is confined.
use Rattle.std.proofs.Common.{◌≡◌, ℕ, suc, ◌≤◌, List, ◌++◌, length, slice_set, refl, ap, inl, inr, Result, Ok, Err, Option, Some, None, IsSomeAnd, arith, ℤ, pos, Bool, true, false, ◌+ℤ◌, ◌-ℤ◌, ◌*ℤ◌, int_div, if◌then◌else◌}
use Rattle.std.specs.Prelude.{⊤}
use Rattle.std.specs.Ordering.{int_eq}
use Rattle.px_base.specs.declared.trace.Site.{Site}
use Rattle.px_base.specs.declared.trace.Kind.{Kind}
use Rattle.px_base.specs.declared.trace.Kind.TheVariants.{NullDereference, UseAfterFree, DoubleFree, UninitialisedRead, DivisionByZero}
use Rattle.px_base.specs.declared.trace.MarkKind.{MarkKind}
use Rattle.px_base.specs.declared.trace.MarkKind.TheVariants.{Access, Freed, FreeNull}
use Rattle.px_base.specs.declared.trace.FieldId.{FieldId}
use Rattle.px_meaning.specs.Values.{TypeId, BlockType, Value, Word, Null, Block, Unwritten}
use Rattle.px_meaning.specs.Heaps.{HeapMap, HeapBlock, HeapBlockState, with_block}
use Rattle.px_meaning.specs.Heaps as heap
use Rattle.px_meaning.specs.Calls.{error}
use Rattle.px_meaning.specs.Events.{Event, mark}
use Rattle.px_meaning.specs.Execution.{Locals}
use Rattle.px_meaning.specs.Operations.{value_at, wrapped}
use Rattle.px_meaning.specs.Steps.{ProcedureCalls, marking, by_state, by_pointer, live_block, freed_block}
use Rattle.px_meaning.specs.TreeExecution.{fails, Uses, Loads, Reaches, Stores, Frees, Calculates, division}
use Rattle.px_meaning.proofs.Steps.{pointer_more}
use Rattle.px_meaning.proofs.Taken.{pointer_to}
use Rattle.px_meaning.proofs.TreeBegins.{Begins, Opens, shorter}
use Rattle.px_replay.specs.declared.stop.Stop.{Stop}
use Rattle.px_replay.specs.declared.stop.Stop.TheVariants as stop
use Rattle.px_replay.specs.declared.flow.Flow.TheVariants.{Falls}
use Rattle.px_replay.specs.Following.{IsTaken}
use Rattle.px_replay.specs.Beginnings.{see}
use Rattle.px_replay.specs.Operations.{used_value, or_stops, calculates}
use Rattle.px_replay.specs.Script.{PlainScript, Act, behind, answers, marked, at_pointer, with_heap}
use Rattle.px_replay.specs.TreeReplay.{loads, reaches, stores, frees}
use Rattle.px_replay.proofs.TakenBlocks.{SameTaken, same_taken}
use Rattle.px_replay.proofs.ConfineEvents.{obeys_alike}
use Rattle.px_replay.proofs.Confine.{Goals, no_cut, At, Comes, Confines, comes_at, at_end, at_mark, not_other, given, fewer_cuts, at_once, error_at, error_once, marked_part, departs}
use Rattle.px_replay.proofs.ConfineForms.{outcomes, ways, exits, Part}
use Rattle.px_syntax.specs.declared.typed_expression.Arithmetic.{Arithmetic}
use Rattle.px_syntax.specs.declared.typed_expression.Arithmetic.TheVariants.{Add, Subtract, Multiply, Divide, Remainder}

-- where both lead somewhere through one pointer, they lead to the same
module _ (R : Type 0) where
  state_both : (s : HeapBlockState) (F F' : Type 0) (G G' : List Value → Type 0) → (F → F' → R) → ((cells : List Value) → s ≡ heap.Live cells → G cells → G' cells → R) → by_state s F G → by_state s F' G' → R
  state_both (heap.Live cells) F F' G G' f g h k = g cells refl h k
  state_both heap.Freed F F' G G' f g h k = f h k

  some_both : {A : Type 0} (o : Option A) (P Q : A → Type 0) → ((a : A) → o ≡ Some a → P a → Q a → R) → IsSomeAnd o P → IsSomeAnd o Q → R
  some_both None P Q f h k = absurd h
  some_both (Some a) P Q f h k = f a refl h k

  pointer_both : (heap : HeapMap) (b : ℕ) (v : Value) (N N' F F' : Type 0) (G G' : ℕ → List Value → Type 0) →
      (N → N' → R) → (F → F' → R) → ((n : ℕ) (cells : List Value) → IsTaken heap n → G n cells → G' n cells → R) → by_pointer heap b v N F G → by_pointer heap b v N' F' G' → R
  pointer_both heap b (Word z) N N' F F' G G' n f g h k = absurd h
  pointer_both heap b Null N N' F F' G G' n f g h k = n h k
  pointer_both heap b (Block i) N N' F F' G G' n f g h k =
      some_both (heap i) (λ c. (c.block_type ≡ b) × by_state c.state F (G i)) (λ c. (c.block_type ≡ b) × by_state c.state F' (G' i))
      (λ c e h k. state_both c.state F F' (G i) (G' i) f (λ cells l. g i cells (c, e)) h.1 k.1) h k
  pointer_both heap b Unwritten N N' F F' G G' n f g h k = absurd h

module _ (t : List Event) (size : ℕ) where
  -- with another heap in which the same numbers are taken
  at_heap : (so_far : List Event) (s : PlainScript) (h : HeapMap) → SameTaken (IsTaken s.heap) (IsTaken h) → At t size so_far s → At t size so_far (behind s s.marks h)
  at_heap so_far s h a at = record { taken = at.taken; obeys = λ r e. obeys_alike (IsTaken s.heap) (IsTaken h) s.inputs s.marks r a (at.obeys r e) }

  -- by what a pointer leads to
  pub pointer_part : {A : Type 0} {G : Goals A} (b : ℕ) (p : Value) {null freed : Act A} {live : ℕ → List Value → Act A} {none dead : Part G} {alive : ℕ → List Value → Part G} →
      Confines t size G null none no_cut → Confines t size G freed dead no_cut →
      ((n : ℕ) (cells : List Value) → Confines t size G (λ s r s'. IsTaken s.heap n × live n cells s r s') (alive n cells) no_cut) →
      ((n : ℕ) (cells : List Value) (s : PlainScript) (r : Result A Stop) (s' : PlainScript) → live n cells s r s' → length s'.marks ≤ length s.marks) →
      Confines t size G (at_pointer b p null freed live) (λ K so_far heap. by_pointer heap b p (none K so_far heap) (dead K so_far heap) (λ n cells. alive n cells K so_far heap)) no_cut
  pointer_part {A} {G} b p {null} {freed} {live} {none} {dead} {alive} x y z less = record {
    shrinks = λ s r s' h. elim h [
      | inl h ↦ pointer_to s.heap b p (null s r s') (freed s r s') (λ n cells. live n cells s r s') (length s'.marks ≤ length s.marks) (x.shrinks s r s') (y.shrinks s r s') (λ n cells e. less n cells s r s') h
      | inr (o, h) ↦ at_end t size (Err stop.Departs) r s s' h
    ];
    begins = λ K a heap oe oa d. pointer_to heap b p (none K a heap) (dead K a heap) (λ n cells. alive n cells K a heap) (Begins t a) (x.begins K a heap oe oa) (y.begins K a heap oe oa)
        (λ n cells e. (z n cells).begins K a heap oe oa) d;
    only = λ K a s r s' oe oa h at d. elim h [
      | inl h ↦ pointer_both (Comes t size (G.on_error K) (G.on_answer K) r s') s.heap b p (null s r s') (none K a s.heap) (freed s r s') (dead K a s.heap)
          (λ n cells. live n cells s r s') (λ n cells. alive n cells K a s.heap)
          (λ h d. x.only K a s r s' oe oa h at d) (λ h d. y.only K a s r s' oe oa h at d) (λ n cells i h d. (z n cells).only K a s r s' oe oa (i, h) at d) h d
      | inr (o, h) ↦ absurd (o (pointer_more s.heap b p (none K a s.heap) ⊤ (dead K a s.heap) ⊤ (λ n cells. alive n cells K a s.heap) (λ n cells. ⊤) (λ d. tt) (λ d. tt) (λ n cells d. tt) d))
    ];
    cut_begins = λ a heap c. absurd c;
    no_further = λ a s r s' h at c. absurd c;
  }

  -- a mark alone, with no cut of its own
  pub mark_first : {A : Type 0} {G : Goals A} (kind : MarkKind) (site : Site) {on : Act A} {does : Part G} →
      Confines t size G on does no_cut → Confines t size G (marked kind site on) (λ K so_far heap. does K (so_far ++ marking see kind site) heap) no_cut
  mark_first kind site p = fewer_cuts t size (λ so_far heap c. absurd c) (marked_part t size kind site p)

  -- a mark, and a block is another from then on
  module _ {A : Type 0} (G : Goals A) (kind : MarkKind) (site : Site) (n : ℕ) (b : HeapBlock) (v : A) where
    abbrev writing : Act A
    writing s r s' = marked kind site (with_heap (with_block s.heap n b) (answers (Ok v))) s r s'

    writing_shrinks : (s : PlainScript) (r : Result A Stop) (s' : PlainScript) → writing s r s' → length s'.marks ≤ length s.marks
    writing_shrinks s r s' (inl (rest, e, h)) =
        let k : length s.marks ≡ suc (length rest) = ap length e in
        let m : length s'.marks ≤ length rest = at_end t size (Ok v) r (behind s rest (with_block s.heap n b)) s' h in omega arith
    writing_shrinks s r s' (inr (o, h)) = at_end t size (Err stop.Departs) r s s' h

    writing_only : (K : G.Goal) (a : List Event) (s : PlainScript) (r : Result A Stop) (s' : PlainScript) → Opens t (G.on_answer K) → IsTaken s.heap n → writing s r s' → At t size a s →
        G.on_answer K (a ++ marking see kind site) v (with_block s.heap n b) → Comes t size (G.on_error K) (G.on_answer K) r s'
    writing_only K a s r s' oa i (inl (rest, e, h)) at d =
        let at' = at_heap (a ++ marking see kind site) (behind s rest s.heap) (with_block s.heap n b) (same_taken s.heap n b i) (at_mark t size a s (mark kind site) rest e at) in
        comes_at t size (G.on_error K) (G.on_answer K) (Ok v) r (behind s rest (with_block s.heap n b)) s' (a ++ marking see kind site, at', d) h
    writing_only K a s r s' oa i (inr (o, h)) at d = absurd (not_other t size a s (mark kind site) at (oa (a ++ marking see kind site) v (with_block s.heap n b) d) o)

    writing_part : Confines t size G (λ s r s'. IsTaken s.heap n × writing s r s') (λ K so_far heap. G.on_answer K (so_far ++ marking see kind site) v (with_block heap n b)) no_cut
    writing_part = record {
      shrinks = λ s r s' h. writing_shrinks s r s' h.1;
      begins = λ K a heap oe oa d. shorter t a (marking see kind site) (oa (a ++ marking see kind site) v (with_block heap n b) d);
      only = λ K a s r s' oe oa h at d. writing_only K a s r s' oa h.0 h.1 at d;
      cut_begins = λ a heap c. absurd c;
      no_further = λ a s r s' h at c. absurd c;
    }

  module _ (types : List BlockType) (C : ProcedureCalls Event) where
    pub uses_part : (v : Value) (site : Site) → Confines t size outcomes (answers (used_value v site)) (λ K so_far heap. Uses see types C v site so_far heap K) no_cut
    uses_part (Word z) site = at_once t size outcomes (Word z)
    uses_part Null site = at_once t size outcomes Null
    uses_part (Block n) site = at_once t size outcomes (Block n)
    uses_part Unwritten site = error_once t size outcomes UninitialisedRead site

    -- an operator between two values
    pub calculated_part : (op : Arithmetic) (x y : Value) → Confines t size outcomes (answers (calculates op x y)) (λ K so_far heap. Calculates see types C op x y so_far heap K) no_cut
    calculated_part op (Word p) (Word q) = by op
      where
        divided : (site : Site) (z : ℤ) (c : Bool) →
            Confines t size outcomes (answers (or_stops (Some (division site (if c then None else Some (wrapped z)))))) (λ K so_far heap. K so_far (division site (if c then None else Some (wrapped z))) heap) no_cut
        divided site z true = error_once t size outcomes DivisionByZero site
        divided site z false = at_once t size outcomes (wrapped z)

        by : (op : Arithmetic) → Confines t size outcomes (answers (calculates op (Word p) (Word q))) (λ K so_far heap. Calculates see types C op (Word p) (Word q) so_far heap K) no_cut
        by Add = at_once t size outcomes (wrapped (p +ℤ q))
        by Subtract = at_once t size outcomes (wrapped (p -ℤ q))
        by Multiply = at_once t size outcomes (wrapped (p *ℤ q))
        by (Divide site) = divided site (int_div p q) (int_eq q (pos 0))
        by (Remainder site) = divided site (p -ℤ int_div p q *ℤ q) (int_eq q (pos 0))
    calculated_part op (Word p) Null = departs t size outcomes
    calculated_part op (Word p) (Block n) = departs t size outcomes
    calculated_part op (Word p) Unwritten = departs t size outcomes
    calculated_part op Null y = departs t size outcomes
    calculated_part op (Block n) y = departs t size outcomes
    calculated_part op Unwritten y = departs t size outcomes

    pub loads_part : (p : Value) (field : FieldId) (b : TypeId) (site : Site) → Confines t size outcomes (loads p field b site) (λ K so_far heap. Loads see types C p field b site so_far heap K) no_cut
    loads_part p field b site =
        pointer_part b.0 p (mark_first Access site (error_once t size outcomes NullDereference site)) (mark_first Access site (error_once t size outcomes UseAfterFree site))
        (λ n cells. given t size (λ s. IsTaken s.heap n) (mark_first Access site (uses_part (value_at cells field.0) site)))
        (λ n cells. (mark_first Access site (uses_part (value_at cells field.0) site)).shrinks)

    pub reaches_part : (p : Value) (b : TypeId) (site : Site) → Confines t size (ways ⊤) (reaches p b site) (λ K so_far heap. Reaches see types C p b site so_far heap K.0 (λ so_far heap. K.1 so_far tt heap)) no_cut
    reaches_part p b site =
        pointer_part b.0 p (mark_first Access site (error_once t size (ways ⊤) NullDereference site)) (mark_first Access site (error_once t size (ways ⊤) UseAfterFree site))
        (λ n cells. given t size (λ s. IsTaken s.heap n) (mark_first Access site (at_once t size (ways ⊤) tt))) (λ n cells. (mark_first Access site (at_once t size (ways ⊤) tt)).shrinks)

    fails_at : (l : Locals) (kind : Kind) (site : Site) → Confines t size exits (answers (Err (stop.Failed kind site))) (λ K so_far heap. K so_far (fails (error kind) site) l heap) no_cut
    fails_at l kind site = error_at t size exits kind site (λ K so_far heap. K so_far (fails (error kind) site) l heap) (λ K a heap d. (l, d))

    pub stores_part : (p : Value) (field : FieldId) (b : TypeId) (site : Site) (v : Value) (l : Locals) →
        Confines t size exits (stores p field b site v l) (λ K so_far heap. Stores see types C p field b site v l so_far heap K) no_cut
    stores_part p field b site v l =
        pointer_part b.0 p (mark_first Access site (fails_at l NullDereference site)) (mark_first Access site (fails_at l UseAfterFree site))
        (λ n cells. writing_part exits Access site n (live_block b.0 (slice_set cells field.0 v)) (Falls, l))
        (λ n cells. writing_shrinks exits Access site n (live_block b.0 (slice_set cells field.0 v)) (Falls, l))

    pub frees_part : (p : Value) (b : TypeId) (site : Site) (l : Locals) → Confines t size exits (frees p b site l) (λ K so_far heap. Frees see types C p b site l so_far heap K) no_cut
    frees_part p b site l =
        pointer_part b.0 p (mark_first FreeNull site (at_once t size exits (Falls, l))) (mark_first Freed site (fails_at l DoubleFree site))
        (λ n cells. writing_part exits Freed site n (freed_block b.0) (Falls, l)) (λ n cells. writing_shrinks exits Freed site n (freed_block b.0) (Falls, l))
