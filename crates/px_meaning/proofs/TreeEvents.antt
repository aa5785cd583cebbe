-- Each execution of a tree that is seen as a trace is one that is seen as events with these marks.
use Rattle.std.proofs.Common.{◌≡◌, ℕ, zero, suc, Option, Some, None, List, [], ◌∷◌, ◌++◌, map, slice_set, refl, sym, ap, ◌∙◌, inl, inr, pos, IsSomeAnd}
use Rattle.std.proofs.lemmas.List.{map-append}
use Rattle.px_base.specs.declared.trace.Site.{Site}
use Rattle.px_base.specs.declared.trace.Kind.TheVariants.{NullDereference, UseAfterFree, DoubleFree, UninitialisedRead}
use Rattle.px_base.specs.declared.trace.Mark.{Mark}
use Rattle.px_base.specs.declared.trace.MarkKind.{MarkKind}
use Rattle.px_base.specs.declared.trace.MarkKind.TheVariants.{Then, Else, NoBlock, Iter, Done, Access, Freed, FreeNull, Enter, Leave}
use Rattle.px_base.specs.declared.trace.ProcId.{ProcId}
use Rattle.px_base.specs.declared.trace.FieldId.{FieldId}
use Rattle.px_core.specs.declared.command.Operator.TheVariants.{Neg}
use Rattle.px_meaning.specs.Values.{TypeId, BlockType, Value, Word, Null, Block, Unwritten}
use Rattle.px_meaning.specs.Heaps.{HeapMap, HeapBlockState, with_block}
use Rattle.px_meaning.specs.Heaps as heap
use Rattle.px_meaning.specs.Calls.{Halt, error, outside, Ending, Returned, Failed}
use Rattle.px_meaning.specs.Execution.{Locals, with_local}
use Rattle.px_meaning.specs.Events.{Event, reads, makes, mark_of}
use Rattle.px_meaning.specs.Operations.{value_at, result_of, on_words}
use Rattle.px_meaning.specs.Steps.{ProcedureCalls, marking, by_state, by_pointer, by_written, live_block, freed_block}
use Rattle.px_meaning.specs.TypedProgram.{TypedProgram}
use Rattle.px_syntax.specs.TypedTree.{Expression, constant, null, local, negated, arithmetic, truth, cell, allocate, get_char, call, stop, Expressions, no_expressions, an_expression, Arguments, no_arguments, an_argument, passed, erased, Condition, compare, word, pointer, both, either, opposite, Place, local_place, cell_place, Statement, block, declare, assign, update, run_call, free, input, choose, loop, break, continue, return, evaluate, access, Statements, no_statements, a_statement}
use Rattle.px_syntax.specs.declared.typed_expression.Arithmetic.{Arithmetic}
use Rattle.px_meaning.specs.TreeExecution.{gives, errs, Outcomes, with_value, by_outcome, yes, no, fault, Verdicts, with_verdict, Exit, falls, breaks, continues, returns, fails, Exits, with_fall, behind_body, Uses, Loads, calculation, Calculates, Reaches, Stores, Returns, CallsProcedure, Branches, Evaluates, EvaluatesAll, PassesAll, Tests, failing, Takes, Declares, Assigns, Updates, Frees, TestsIf, Loops, GivesBack, Executes, ExecutesAll}
use Rattle.px_meaning.specs.TreeCalls.{first_locals, closes, TreeCallsWithin, SeenTreeCalls}
use Rattle.px_meaning.proofs.TreePairs.{see}

module _ (X : Type 0) where
  pub some_pick : {A : Type 0} (o : Option A) (P : A → Type 0) (Q : X → A → Type 0) → ((a : A) → P a → (z : X) × Q z a) → IsSomeAnd o P → (z : X) × IsSomeAnd o (Q z)
  some_pick None P Q f h = absurd h
  some_pick (Some a) P Q f h = f a h

  pub state_pick : (s : HeapBlockState) (F : Type 0) (F' : X → Type 0) (G : List Value → Type 0) (G' : X → List Value → Type 0) → (F → (z : X) × F' z) → ((cells : List Value) → G cells → (z : X) × G' z cells) →
      by_state s F G → (z : X) × by_state s (F' z) (G' z)
  state_pick (heap.Live cells) F F' G G' f g h = g cells h
  state_pick heap.Freed F F' G G' f g h = f h

  pub pointer_pick : (heap : HeapMap) (t : ℕ) (v : Value) (N : Type 0) (N' : X → Type 0) (F : Type 0) (F' : X → Type 0) (G : ℕ → List Value → Type 0) (G' : X → ℕ → List Value → Type 0) →
      (N → (z : X) × N' z) → (F → (z : X) × F' z) → ((n : ℕ) (cells : List Value) → G n cells → (z : X) × G' z n cells) → by_pointer heap t v N F G → (z : X) × by_pointer heap t v (N' z) (F' z) (G' z)
  pointer_pick heap t (Word i) N N' F F' G G' n f g h = absurd h
  pointer_pick heap t Null N N' F F' G G' n f g h = n h
  pointer_pick heap t (Block b) N N' F F' G G' n f g h =
      some_pick (heap b) (λ c. (c.block_type ≡ t) × by_state c.state F (G b)) (λ z c. (c.block_type ≡ t) × by_state c.state (F' z) (G' z b))
      (λ c h. let (z, k) = state_pick c.state F F' (G b) (λ z. G' z b) f (g b) h.1 in (z, (h.0, k))) h
  pointer_pick heap t Unwritten N N' F F' G G' n f g h = absurd h

  pub written_pick : (v : Value) (F : Type 0) (F' : X → Type 0) (G : Type 0) (G' : X → Type 0) → (F → (z : X) × F' z) → (G → (z : X) × G' z) → by_written v F G → (z : X) × by_written v (F' z) (G' z)
  written_pick (Word i) F F' G G' f g h = f h
  written_pick Null F F' G G' f g h = f h
  written_pick (Block n) F F' G G' f g h = f h
  written_pick Unwritten F F' G G' f g h = g h

module _ (X : Type 0) where
  -- the events so far have these marks
  abbrev Same : List Mark → List Event → Type 0
  Same a b = map mark_of b ≡ a

  same_more : (a : List Mark) (b m : List Event) → Same a b → Same (a ++ map mark_of m) (b ++ m)
  same_more a b m s = map-append mark_of b m ∙ ap (λ x. x ++ map mark_of m) s

  -- where the one goal is reached, some of the other goals is
  abbrev To : {A : Type 0} → (List Mark → A → HeapMap → Type 0) → (X → List Event → A → HeapMap → Type 0) → Type 0
  To {A} G H = (a : List Mark) (b : List Event) (x : A) (h : HeapMap) → Same a b → G a x h → (z : X) × H z b x h

  abbrev ToErr : (List Mark → Halt → Site → HeapMap → Type 0) → (X → List Event → Halt → Site → HeapMap → Type 0) → Type 0
  ToErr G H = (a : List Mark) (b : List Event) (kind : Halt) (site : Site) (h : HeapMap) → Same a b → G a kind site h → (z : X) × H z b kind site h

  abbrev ToOn : (List Mark → HeapMap → Type 0) → (X → List Event → HeapMap → Type 0) → Type 0
  ToOn G H = (a : List Mark) (b : List Event) (h : HeapMap) → Same a b → G a h → (z : X) × H z b h

  abbrev ToExits : Exits Mark → (X → Exits Event) → Type 0
  ToExits G H = (a : List Mark) (b : List Event) (x : Exit) (l : Locals) (h : HeapMap) → Same a b → G a x l h → (z : X) × H z b x l h

  abbrev ToAfter : (List Mark → Locals → HeapMap → Type 0) → (X → List Event → Locals → HeapMap → Type 0) → Type 0
  ToAfter G H = (a : List Mark) (b : List Event) (l : Locals) (h : HeapMap) → Same a b → G a l h → (z : X) × H z b l h

  value_to : (K : Outcomes Mark) (L : X → Outcomes Event) (f : List Mark → Value → HeapMap → Type 0) (g : X → List Event → Value → HeapMap → Type 0) → To K L → To f g → To (with_value K f) (λ z. with_value (L z) (g z))
  value_to K L f g o m a b (gives v) h s k = m a b v h s k
  value_to K L f g o m a b (errs kind site) h s k = o a b (errs kind site) h s k

  outcome_to : (err : List Mark → Halt → Site → HeapMap → Type 0) (err' : X → List Event → Halt → Site → HeapMap → Type 0) (f : List Mark → Value → HeapMap → Type 0) (g : X → List Event → Value → HeapMap → Type 0) → ToErr err err' → To f g →
      To (by_outcome err f) (λ z. by_outcome (err' z) (g z))
  outcome_to err err' f g o m a b (gives v) h s k = m a b v h s k
  outcome_to err err' f g o m a b (errs kind site) h s k = o a b kind site h s k

  verdict_to : (err : List Mark → Halt → Site → HeapMap → Type 0) (err' : X → List Event → Halt → Site → HeapMap → Type 0) (f g : List Mark → HeapMap → Type 0) (f' g' : X → List Event → HeapMap → Type 0) → ToErr err err' → ToOn f f' → ToOn g g' →
      To (with_verdict err f g) (λ z. with_verdict (err' z) (f' z) (g' z))
  verdict_to err err' f g f' g' o mf mg a b yes h s k = mf a b h s k
  verdict_to err err' f g f' g' o mf mg a b no h s k = mg a b h s k
  verdict_to err err' f g f' g' o mf mg a b (fault kind site) h s k = o a b kind site h s k

  fall_to : (K : Exits Mark) (L : X → Exits Event) (f : List Mark → Locals → HeapMap → Type 0) (g : X → List Event → Locals → HeapMap → Type 0) → ToExits K L → ToAfter f g → ToExits (with_fall K f) (λ z. with_fall (L z) (g z))
  fall_to K L f g o m a b falls l h s k = m a b l h s k
  fall_to K L f g o m a b breaks l h s k = o a b breaks l h s k
  fall_to K L f g o m a b continues l h s k = o a b continues l h s k
  fall_to K L f g o m a b (returns v) l h s k = o a b (returns v) l h s k
  fall_to K L f g o m a b (fails kind site) l h s k = o a b (fails kind site) l h s k

  module _ (types : List BlockType) (C : ProcedureCalls Mark) (D : ProcedureCalls Event)
      (more : (f : ℕ) (arguments : List Value) (heap : HeapMap) (t : List Mark) (ending : Ending) (end : HeapMap) → C f arguments heap t ending end →
      (t' : List Event) × (map mark_of t' ≡ t) × D f arguments heap t' ending end) where
    body_to : (K : Exits Mark) (L : X → Exits Event) (f : List Mark → Locals → HeapMap → Type 0) (g : X → List Event → Locals → HeapMap → Type 0) → ToExits K L → ToAfter f g → ToExits (behind_body mark_of types C f K) (λ z. behind_body see types D (g z) (L z))
    body_to K L f g o m a b falls l h s k = m a b l h s k
    body_to K L f g o m a b continues l h s k = m a b l h s k
    body_to K L f g o m a b breaks l h s k = o a b falls l h s k
    body_to K L f g o m a b (returns v) l h s k = o a b (returns v) l h s k
    body_to K L f g o m a b (fails kind site) l h s k = o a b (fails kind site) l h s k

    same_mark : (a : List Mark) (b : List Event) (kind : MarkKind) (site : Site) → Same a b → Same (a ++ marking mark_of kind site) (b ++ marking see kind site)
    same_mark a b kind site s = same_more a b (marking see kind site) s

    uses_to : (v : Value) (site : Site) (a : List Mark) (b : List Event) (heap : HeapMap) (K : Outcomes Mark) (L : X → Outcomes Event) → Same a b → To K L → Uses mark_of types C v site a heap K → (z : X) × Uses see types D v site b heap (L z)
    uses_to v site a b heap K L s o h =
        written_pick X v (K a (gives v) heap) (λ z. L z b (gives v) heap) (K a (errs (error UninitialisedRead) site) heap) (λ z. L z b (errs (error UninitialisedRead) site) heap) (o _ _ _ _ s) (o _ _ _ _ s) h

    calculates_to : (op : Arithmetic) (x y : Value) (a : List Mark) (b : List Event) (heap : HeapMap) (K : Outcomes Mark) (L : X → Outcomes Event) → Same a b → To K L → Calculates mark_of types C op x y a heap K → (z : X) × Calculates see types D op x y b heap (L z)
    calculates_to op x y a b heap K L s o h = some_pick X (on_words (calculation op) x y) (λ r. K a r heap) (λ z r. L z b r heap) (λ r. o a b r heap s) h

    loads_to : (v : Value) (field : FieldId) (t : TypeId) (site : Site) (a : List Mark) (b : List Event) (heap : HeapMap) (K : Outcomes Mark) (L : X → Outcomes Event) → Same a b → To K L → Loads mark_of types C v field t site a heap K → (z : X) × Loads see types D v field t site b heap (L z)
    loads_to v field t site a b heap K L s o h =
        let s' = same_mark a b Access site s in
        pointer_pick X heap t.0 v (K (a ++ marking mark_of Access site) (errs (error NullDereference) site) heap) (λ z. L z (b ++ marking see Access site) (errs (error NullDereference) site) heap)
        (K (a ++ marking mark_of Access site) (errs (error UseAfterFree) site) heap) (λ z. L z (b ++ marking see Access site) (errs (error UseAfterFree) site) heap)
        (λ n cells. Uses mark_of types C (value_at cells field.0) site (a ++ marking mark_of Access site) heap K) (λ z n cells. Uses see types D (value_at cells field.0) site (b ++ marking see Access site) heap (L z))
        (o _ _ _ _ s') (o _ _ _ _ s') (λ n cells. uses_to (value_at cells field.0) site (a ++ marking mark_of Access site) (b ++ marking see Access site) heap K L s' o) h

    reaches_to : (v : Value) (t : TypeId) (site : Site) (a : List Mark) (b : List Event) (heap : HeapMap) (err : List Mark → Halt → Site → HeapMap → Type 0) (err' : X → List Event → Halt → Site → HeapMap → Type 0) (f : List Mark → HeapMap → Type 0) (g : X → List Event → HeapMap → Type 0) →
        Same a b → ToErr err err' → ToOn f g → Reaches mark_of types C v t site a heap err f → (z : X) × Reaches see types D v t site b heap (err' z) (g z)
    reaches_to v t site a b heap err err' f g s oe o h =
        let s' = same_mark a b Access site s in
        pointer_pick X heap t.0 v (err (a ++ marking mark_of Access site) (error NullDereference) site heap) (λ z. err' z (b ++ marking see Access site) (error NullDereference) site heap)
        (err (a ++ marking mark_of Access site) (error UseAfterFree) site heap) (λ z. err' z (b ++ marking see Access site) (error UseAfterFree) site heap)
        (λ n cells. f (a ++ marking mark_of Access site) heap) (λ z n cells. g z (b ++ marking see Access site) heap)
        (oe _ _ _ _ _ s') (oe _ _ _ _ _ s') (λ n cells. o _ _ _ s') h

    stores_to : (v : Value) (field : FieldId) (t : TypeId) (site : Site) (w : Value) (l : Locals) (a : List Mark) (b : List Event) (heap : HeapMap) (K : Exits Mark) (L : X → Exits Event) → Same a b → ToExits K L →
        Stores mark_of types C v field t site w l a heap K → (z : X) × Stores see types D v field t site w l b heap (L z)
    stores_to v field t site w l a b heap K L s o h =
        let s' = same_mark a b Access site s in
        pointer_pick X heap t.0 v (K (a ++ marking mark_of Access site) (fails (error NullDereference) site) l heap) (λ z. L z (b ++ marking see Access site) (fails (error NullDereference) site) l heap)
        (K (a ++ marking mark_of Access site) (fails (error UseAfterFree) site) l heap) (λ z. L z (b ++ marking see Access site) (fails (error UseAfterFree) site) l heap)
        (λ n cells. K (a ++ marking mark_of Access site) falls l (with_block heap n (live_block t.0 (slice_set cells field.0 w))))
        (λ z n cells. L z (b ++ marking see Access site) falls l (with_block heap n (live_block t.0 (slice_set cells field.0 w))))
        (o _ _ _ _ _ s') (o _ _ _ _ _ s') (λ n cells. o _ _ _ _ _ s') h

    frees_to : (v : Value) (t : TypeId) (site : Site) (l : Locals) (a : List Mark) (b : List Event) (heap : HeapMap) (K : Exits Mark) (L : X → Exits Event) → Same a b → ToExits K L → Frees mark_of types C v t site l a heap K → (z : X) × Frees see types D v t site l b heap (L z)
    frees_to v t site l a b heap K L s o h =
        pointer_pick X heap t.0 v (K (a ++ marking mark_of FreeNull site) falls l heap) (λ z. L z (b ++ marking see FreeNull site) falls l heap)
        (K (a ++ marking mark_of Freed site) (fails (error DoubleFree) site) l heap) (λ z. L z (b ++ marking see Freed site) (fails (error DoubleFree) site) l heap)
        (λ n cells. K (a ++ marking mark_of Freed site) falls l (with_block heap n (freed_block t.0))) (λ z n cells. L z (b ++ marking see Freed site) falls l (with_block heap n (freed_block t.0)))
        (o _ _ _ _ _ (same_mark a b FreeNull site s)) (o _ _ _ _ _ (same_mark a b Freed site s)) (λ n cells. o _ _ _ _ _ (same_mark a b Freed site s)) h

    returns_to : (proc : ProcId) (site : Site) (a t : List Mark) (b t' : List Event) (heap : HeapMap) (err : List Mark → Halt → Site → HeapMap → Type 0) (err' : X → List Event → Halt → Site → HeapMap → Type 0) (f : List Mark → Value → HeapMap → Type 0) (g : X → List Event → Value → HeapMap → Type 0) (ending : Ending) →
        map mark_of t' ≡ t → Same a b → ToErr err err' → To f g → Returns mark_of types C proc site a t heap err f ending → (z : X) × Returns see types D proc site b t' heap (err' z) (g z) ending
    returns_to proc site a t b t' heap err err' f g (Returned v) q s oe o h =
        o _ _ _ _ (same_more a b (marking see (Enter proc) site ++ (t' ++ marking see Leave site)) s
        ∙ ap (λ u. a ++ (marking mark_of (Enter proc) site ++ u)) (map-append mark_of t' (marking see Leave site) ∙ ap (λ u. u ++ marking mark_of Leave site) q)) h
    returns_to proc site a t b t' heap err err' f g (Failed kind at) q s oe o h =
        oe _ _ _ _ _ (same_more a b (marking see (Enter proc) site ++ t') s ∙ ap (λ u. a ++ (marking mark_of (Enter proc) site ++ u)) q) h

    call_to : (proc : ProcId) (site : Site) (vs : List Value) (a : List Mark) (b : List Event) (heap : HeapMap) (err : List Mark → Halt → Site → HeapMap → Type 0) (err' : X → List Event → Halt → Site → HeapMap → Type 0) (f : List Mark → Value → HeapMap → Type 0) (g : X → List Event → Value → HeapMap → Type 0) →
        Same a b → ToErr err err' → To f g → CallsProcedure mark_of types C proc site vs a heap err f → (z : X) × CallsProcedure see types D proc site vs b heap (err' z) (g z)
    call_to proc site vs a b heap err err' f g s oe o (t, ending, heap', c, h) =
        let (t', q, c') = more proc.0 vs heap t ending heap' c in
        let (z, r) = returns_to proc site a t b t' heap' err err' f g ending q s oe o h in
        (z, (t', ending, heap', c', r))

    branches_to : (Yes No : Type 0) (site : Site) (a : List Mark) (b : List Event) (heap : HeapMap) (K : Verdicts Mark) (L : X → Verdicts Event) → Same a b → To K L → Branches mark_of types C Yes No site a heap K → (z : X) × Branches see types D Yes No site b heap (L z)
    branches_to Yes No site a b heap K L s o (inl h) = let (z, r) = o _ _ _ _ (same_mark a b Then site s) h.1 in (z, inl (h.0, r))
    branches_to Yes No site a b heap K L s o (inr h) = let (z, r) = o _ _ _ _ (same_mark a b Else site s) h.1 in (z, inr (h.0, r))

    mutual
      eval_to : (e : Expression) (l : Locals) (a : List Mark) (b : List Event) (heap : HeapMap) (K : Outcomes Mark) (L : X → Outcomes Event) → Same a b → To K L → Evaluates mark_of types C e l a heap K → (z : X) × Evaluates see types D e l b heap (L z)
      eval_to (constant z) l a b heap K L s o h = o _ _ _ _ s h
      eval_to null l a b heap K L s o h = o _ _ _ _ s h
      eval_to (local n site) l a b heap K L s o h = uses_to (l n) site a b heap K L s o h
      eval_to (negated e) l a b heap K L s o h =
          eval_to e l a b heap _ _ s (value_to K L _ _ o (λ a b x h s. some_pick X (result_of Neg x (Word (pos 0))) (λ v. K a (gives v) h) (λ z v. L z b (gives v) h) (λ v. o a b (gives v) h s))) h
      eval_to (arithmetic op c d) l a b heap K L s o h =
          eval_to c l a b heap _ _ s (value_to K L _ _ o (λ a b x h s. eval_to d l a b h _ _ s (value_to K L _ _ o (λ a b y h s.
          calculates_to op x y a b h K L s o)))) h
      eval_to (truth c) l a b heap K L s o h =
          test_to c l a b heap _ _ s (verdict_to _ _ _ _ _ _ (λ a b kind at h s. o a b (errs kind at) h s) (λ a b h s. o a b (gives (Word (pos 1))) h s) (λ a b h s. o a b (gives (Word (pos 0))) h s)) h
      eval_to (cell e field t site) l a b heap K L s o h = eval_to e l a b heap _ _ s (value_to K L _ _ o (λ a b x h s. loads_to x field t site a b h K L s o)) h
      eval_to (allocate t site) l a b heap K L s o (inl h) = let (z, r) = o _ _ _ _ (same_mark a b NoBlock site s) h in (z, inl r)
      eval_to (allocate t site) l a b heap K L s o (inr (n, out, h)) = let (z, r) = o _ _ _ _ (same_more a b (makes site n ∷ []) s) h in (z, inr (n, out, r))
      eval_to (get_char site) l a b heap K L s o (i, low, high, h) = let (z, r) = o _ _ _ _ (same_more a b (reads site i ∷ []) s) h in (z, (i, low, high, r))
      eval_to (call proc es result site) l a b heap K L s o h =
          all_to es l a b heap _ _ _ _ s (λ a b kind at h s. o a b (errs kind at) h s)
          (λ a b vs h s. call_to proc site vs a b h _ _ _ _ s (λ a b kind at h s. o a b (errs kind at) h s) (λ a b v h s. uses_to v site a b h K L s o)) h
      eval_to (stop number site es) l a b heap K L s o h =
          passes_to es l a b heap _ _ _ _ s (λ a b kind at h s. o a b (errs kind at) h s) (λ a b h s. o a b (errs (outside number) site) h s) h

      all_to : (es : Arguments) (l : Locals) (a : List Mark) (b : List Event) (heap : HeapMap) (err : List Mark → Halt → Site → HeapMap → Type 0) (err' : X → List Event → Halt → Site → HeapMap → Type 0) (f : List Mark → List Value → HeapMap → Type 0) (g : X → List Event → List Value → HeapMap → Type 0) →
          Same a b → ToErr err err' → To f g → EvaluatesAll mark_of types C es l a heap err f → (z : X) × EvaluatesAll see types D es l b heap (err' z) (g z)
      all_to no_arguments l a b heap err err' f g s oe o h = o _ _ _ _ s h
      all_to (an_argument (passed e) rest) l a b heap err err' f g s oe o h =
          eval_to e l a b heap _ _ s (outcome_to err err' _ _ oe (λ a b v h s. all_to rest l a b h err err' _ _ s oe (λ a b vs h s. o a b (v ∷ vs) h s))) h
      all_to (an_argument (erased parts) rest) l a b heap err err' f g s oe o h =
          passes_to parts l a b heap err err' _ _ s oe (λ a b h s. all_to rest l a b h err err' f g s oe o) h

      passes_to : (es : Expressions) (l : Locals) (a : List Mark) (b : List Event) (heap : HeapMap) (err : List Mark → Halt → Site → HeapMap → Type 0) (err' : X → List Event → Halt → Site → HeapMap → Type 0) (f : List Mark → HeapMap → Type 0) (g : X → List Event → HeapMap → Type 0) →
          Same a b → ToErr err err' → ToOn f g → PassesAll mark_of types C es l a heap err f → (z : X) × PassesAll see types D es l b heap (err' z) (g z)
      passes_to no_expressions l a b heap err err' f g s oe o h = o _ _ _ s h
      passes_to (an_expression (local n site) rest) l a b heap err err' f g s oe o h = passes_to rest l a b heap err err' f g s oe o h
      passes_to (an_expression (cell e field t site) rest) l a b heap err err' f g s oe o h =
          eval_to e l a b heap _ _ s (outcome_to err err' _ _ oe (λ a b x h s. reaches_to x t site a b h err err' _ _ s oe (λ a b h s. passes_to rest l a b h err err' f g s oe o))) h
      passes_to (an_expression (call proc es result site) rest) l a b heap err err' f g s oe o h =
          all_to es l a b heap err err' _ _ s oe (λ a b vs h s. call_to proc site vs a b h err err' _ _ s oe (λ a b v h s. passes_to rest l a b h err err' f g s oe o)) h
      passes_to (an_expression e rest) l a b heap err err' f g s oe o h =
          eval_to e l a b heap _ _ s (outcome_to err err' _ _ oe (λ a b v h s. passes_to rest l a b h err err' f g s oe o)) h

      test_to : (c : Condition) (l : Locals) (a : List Mark) (b : List Event) (heap : HeapMap) (K : Verdicts Mark) (L : X → Verdicts Event) → Same a b → To K L → Tests mark_of types C c l a heap K → (z : X) × Tests see types D c l b heap (L z)
      test_to (compare r c d site) l a b heap K L s o h =
          eval_to c l a b heap _ _ s (outcome_to _ _ _ _ (λ a b kind at h s. o a b (fault kind at) h s) (λ a b x h s.
          eval_to d l a b h _ _ s (outcome_to _ _ _ _ (λ a b kind at h s. o a b (fault kind at) h s) (λ a b y h s. branches_to _ _ site a b h K L s o)))) h
      test_to (word e site) l a b heap K L s o h = eval_to e l a b heap _ _ s (outcome_to _ _ _ _ (λ a b kind at h s. o a b (fault kind at) h s) (λ a b y h s. branches_to _ _ site a b h K L s o)) h
      test_to (pointer e site) l a b heap K L s o h = eval_to e l a b heap _ _ s (outcome_to _ _ _ _ (λ a b kind at h s. o a b (fault kind at) h s) (λ a b y h s. branches_to _ _ site a b h K L s o)) h
      test_to (both c d) l a b heap K L s o h = test_to c l a b heap _ _ s (verdict_to _ _ _ _ _ _ (λ a b kind at h s. o a b (fault kind at) h s) (λ a b h s. test_to d l a b h K L s o) (λ a b h s. o a b no h s)) h
      test_to (either c d) l a b heap K L s o h = test_to c l a b heap _ _ s (verdict_to _ _ _ _ _ _ (λ a b kind at h s. o a b (fault kind at) h s) (λ a b h s. o a b yes h s) (λ a b h s. test_to d l a b h K L s o)) h
      test_to (opposite c) l a b heap K L s o h = test_to c l a b heap _ _ s (verdict_to _ _ _ _ _ _ (λ a b kind at h s. o a b (fault kind at) h s) (λ a b h s. o a b no h s) (λ a b h s. o a b yes h s)) h

    takes_to : (e : Expression) (l : Locals) (a : List Mark) (b : List Event) (heap : HeapMap) (K : Exits Mark) (L : X → Exits Event) (f : List Mark → Value → HeapMap → Type 0) (g : X → List Event → Value → HeapMap → Type 0) → Same a b → ToExits K L → To f g →
        Takes mark_of types C e l a heap K f → (z : X) × Takes see types D e l b heap (L z) (g z)
    takes_to e l a b heap K L f g s o m h = eval_to e l a b heap _ _ s (outcome_to (failing mark_of types C l K) (λ z. failing see types D l (L z)) f g (λ a b kind site h s. o a b (fails kind site) l h s) m) h

    declares_to : (n : ℕ) (e : Option Expression) (l : Locals) (a : List Mark) (b : List Event) (heap : HeapMap) (K : Exits Mark) (L : X → Exits Event) → Same a b → ToExits K L → Declares mark_of types C n e l a heap K → (z : X) × Declares see types D n e l b heap (L z)
    declares_to n None l a b heap K L s o h = o _ _ _ _ _ s h
    declares_to n (Some e) l a b heap K L s o h = takes_to e (with_local l n Unwritten) a b heap K L _ _ s o (λ a b v h s. o a b falls (with_local (with_local l n Unwritten) n v) h s) h

    assigns_to : (w : Place) (e : Expression) (l : Locals) (a : List Mark) (b : List Event) (heap : HeapMap) (K : Exits Mark) (L : X → Exits Event) → Same a b → ToExits K L → Assigns mark_of types C w e l a heap K → (z : X) × Assigns see types D w e l b heap (L z)
    assigns_to (local_place n at) e l a b heap K L s o h = takes_to e l a b heap K L _ _ s o (λ a b v h s. o a b falls (with_local l n v) h s) h
    assigns_to (cell_place w field t site) e l a b heap K L s o h =
        takes_to w l a b heap K L _ _ s o (λ a b x h s. takes_to e l a b h K L _ _ s o (λ a b v h s. stores_to x field t site v l a b h K L s o)) h

    updates_to : (op : Arithmetic) (w : Place) (e : Expression) (l : Locals) (a : List Mark) (b : List Event) (heap : HeapMap) (K : Exits Mark) (L : X → Exits Event) → Same a b → ToExits K L → Updates mark_of types C op w e l a heap K → (z : X) × Updates see types D op w e l b heap (L z)
    updates_to op (local_place n at) e l a b heap K L s o h =
        uses_to (l n) at a b heap _ _ s (outcome_to (failing mark_of types C l K) (λ z. failing see types D l (L z)) _ _ (λ a b kind site h s. o a b (fails kind site) l h s) (λ a b x h s.
        takes_to e l a b h K L _ _ s o (λ a b y h s.
        calculates_to op x y a b h _ _ s (outcome_to (failing mark_of types C l K) (λ z. failing see types D l (L z)) _ _ (λ a b kind site h s. o a b (fails kind site) l h s) (λ a b v h s. o a b falls (with_local l n v) h s))))) h
    updates_to op (cell_place w field t site) e l a b heap K L s o h =
        takes_to w l a b heap K L _ _ s o (λ a b place h s. loads_to place field t site a b h _ _ s (outcome_to (failing mark_of types C l K) (λ z. failing see types D l (L z)) _ _ (λ a b kind site h s. o a b (fails kind site) l h s) (λ a b x h s.
        takes_to e l a b h K L _ _ s o (λ a b y h s.
        calculates_to op x y a b h _ _ s (outcome_to (failing mark_of types C l K) (λ z. failing see types D l (L z)) _ _ (λ a b kind site h s. o a b (fails kind site) l h s) (λ a b v h s. stores_to place field t site v l a b h K L s o)))))) h

    tests_if_to : (c : Option Condition) (l : Locals) (a : List Mark) (b : List Event) (heap : HeapMap) (K : Verdicts Mark) (L : X → Verdicts Event) → Same a b → To K L → TestsIf mark_of types C c l a heap K → (z : X) × TestsIf see types D c l b heap (L z)
    tests_if_to None l a b heap K L s o h = o _ _ _ _ s h
    tests_if_to (Some c) l a b heap K L s o h = test_to c l a b heap K L s o h

    gives_to : (e : Option Expression) (l : Locals) (a : List Mark) (b : List Event) (heap : HeapMap) (K : Exits Mark) (L : X → Exits Event) → Same a b → ToExits K L → GivesBack mark_of types C e l a heap K → (z : X) × GivesBack see types D e l b heap (L z)
    gives_to None l a b heap K L s o h = o _ _ _ _ _ s h
    gives_to (Some e) l a b heap K L s o h = takes_to e l a b heap K L _ _ s o (λ a b v h s. o a b (returns v) l h s) h

    module _ (bound : Option ℕ) where
      abbrev ToAll : (Locals → List Mark → HeapMap → Exits Mark → Type 0) → (Locals → List Event → HeapMap → Exits Event → Type 0) → Type 1
      ToAll V Y = (l : Locals) (a : List Mark) (b : List Event) (heap : HeapMap) (K : Exits Mark) (L : X → Exits Event) → Same a b → ToExits K L → V l a heap K → (z : X) × Y l b heap (L z)

      loops_to : (n made : ℕ) (site : Site) (c : Option Condition) (body after_body : Locals → List Mark → HeapMap → Exits Mark → Type 0) (body' after_body' : Locals → List Event → HeapMap → Exits Event → Type 0) → ToAll body body' → ToAll after_body after_body' →
          ToAll (Loops mark_of types C bound n made site c body after_body) (Loops see types D bound n made site c body' after_body')
      loops_to zero made site c body after_body body' after_body' m f l a b heap K L s o h = absurd h
      loops_to (suc n) made site c body after_body body' after_body' m f l a b heap K L s o h =
          tests_if_to c l a b heap _ _ s (verdict_to (failing mark_of types C l K) (λ z. failing see types D l (L z)) _ _ _ _ (λ a b kind site h s. o a b (fails kind site) l h s)
          (λ a b h s k. let (z, r) = m l (a ++ marking mark_of Iter site) (b ++ marking see Iter site) h _ _ (same_mark a b Iter site s) (body_to K L _ _ o (λ a b l h s. f l a b h _ _ s (fall_to K L _ _ o
          (λ a b l h s. loops_to n (suc made) site c body after_body body' after_body' m f l a b h K L s o)))) k.1 in (z, (k.0, r)))
          (λ a b h s. o (a ++ marking mark_of Done site) (b ++ marking see Done site) falls l h (same_mark a b Done site s))) h

      mutual
        runs_to : (n : ℕ) (w : Statement) → ToAll (Executes mark_of types C bound n w) (Executes see types D bound n w)
        runs_to n (block ss) l a b heap K L s o h = all_runs_to n ss l a b heap K L s o h
        runs_to n (declare i e) l a b heap K L s o h = declares_to i e l a b heap K L s o h
        runs_to n (assign w e) l a b heap K L s o h = assigns_to w e l a b heap K L s o h
        runs_to n (update op w e) l a b heap K L s o h = updates_to op w e l a b heap K L s o h
        runs_to n (run_call proc es site) l a b heap K L s o h =
            all_to es l a b heap (failing mark_of types C l K) (λ z. failing see types D l (L z)) _ _ s (λ a b kind site h s. o a b (fails kind site) l h s)
            (λ a b vs h s. call_to proc site vs a b h (failing mark_of types C l K) (λ z. failing see types D l (L z)) (λ a v h. K a falls l h) (λ z b v h. L z b falls l h) s (λ a b kind site h s. o a b (fails kind site) l h s) (λ a b v h s. o a b falls l h s)) h
        runs_to n (free e t site) l a b heap K L s o h = takes_to e l a b heap K L _ _ s o (λ a b v h s. frees_to v t site l a b h K L s o) h
        runs_to n (input site) l a b heap K L s o h = takes_to (get_char site) l a b heap K L _ _ s o (λ a b v h s. o a b falls l h s) h
        runs_to n (choose c first second) l a b heap K L s o h =
            test_to c l a b heap _ _ s (verdict_to (failing mark_of types C l K) (λ z. failing see types D l (L z)) _ _ _ _ (λ a b kind site h s. o a b (fails kind site) l h s)
            (λ a b h s. runs_to n first l a b h K L s o) (λ a b h s. runs_to n second l a b h K L s o)) h
        runs_to n (loop site c body after_body) l a b heap K L s o h =
            loops_to n 0 site c (Executes mark_of types C bound n body) (Executes mark_of types C bound n after_body) (Executes see types D bound n body) (Executes see types D bound n after_body)
            (runs_to n body) (runs_to n after_body) l a b heap K L s o h
        runs_to n break l a b heap K L s o h = o _ _ _ _ _ s h
        runs_to n continue l a b heap K L s o h = o _ _ _ _ _ s h
        runs_to n (return e) l a b heap K L s o h = gives_to e l a b heap K L s o h
        runs_to n (evaluate e) l a b heap K L s o h =
            passes_to (an_expression e no_expressions) l a b heap (failing mark_of types C l K) (λ z. failing see types D l (L z)) _ _ s (λ a b kind site h s. o a b (fails kind site) l h s) (λ a b h s. o a b falls l h s) h
        runs_to n (access e parts field t site) l a b heap K L s o h =
            takes_to e l a b heap K L _ _ s o (λ a b x h s.
            passes_to parts l a b h (failing mark_of types C l K) (λ z. failing see types D l (L z)) _ _ s (λ a b kind site h s. o a b (fails kind site) l h s) (λ a b h s.
            reaches_to x t site a b h (failing mark_of types C l K) (λ z. failing see types D l (L z)) (λ a h. K a falls l h) (λ z b h. L z b falls l h) s (λ a b kind site h s. o a b (fails kind site) l h s) (λ a b h s. o a b falls l h s))) h

        all_runs_to : (n : ℕ) (ss : Statements) → ToAll (ExecutesAll mark_of types C bound n ss) (ExecutesAll see types D bound n ss)
        all_runs_to n no_statements l a b heap K L s o h = o _ _ _ _ _ s h
        all_runs_to n (a_statement w rest) l a b heap K L s o h =
            runs_to n w l a b heap _ _ s (fall_to K L _ _ o (λ a b l h s. all_runs_to n rest l a b h K L s o)) h

-- the events of a trace
abbrev EventsOf : List Mark → Type 0
EventsOf t = (events : List Event) × (map mark_of events ≡ t)

closes_to : (t : List Mark) (ending : Ending) (end : HeapMap) → ToExits (EventsOf t) (closes t ending end) (λ z. closes z.0 ending end)
closes_to t ending end a b falls l h s k = ((b, s ∙ sym k.0), (refl, k.1, k.2))
closes_to t ending end a b (returns v) l h s k = ((b, s ∙ sym k.0), (refl, k.1, k.2))
closes_to t ending end a b (fails kind site) l h s k = ((b, s ∙ sym k.0), (refl, k.1, k.2))
closes_to t ending end a b breaks l h s k = absurd k
closes_to t ending end a b continues l h s k = absurd k

module _ (bound : Option ℕ) (P : TypedProgram) where
  within_to : (n f : ℕ) (arguments : List Value) (heap : HeapMap) (t : List Mark) (ending : Ending) (end : HeapMap) → TreeCallsWithin mark_of bound P n f arguments heap t ending end →
      (events : List Event) × (map mark_of events ≡ t) × TreeCallsWithin see bound P n f arguments heap events ending end
  within_to zero f arguments heap t ending end c = absurd c
  within_to (suc n) f arguments heap t ending end c =
      let (z, r) = some_pick (EventsOf t) (P.procedures f)
      (λ p. Executes mark_of P.types (TreeCallsWithin mark_of bound P n) bound n p.body (first_locals arguments) [] heap (closes t ending end))
      (λ z p. Executes see P.types (TreeCallsWithin see bound P n) bound n p.body (first_locals arguments) [] heap (closes z.0 ending end))
      (λ p. runs_to (EventsOf t) P.types (TreeCallsWithin mark_of bound P n) (TreeCallsWithin see bound P n) (within_to n) bound n p.body (first_locals arguments) [] [] heap (closes t ending end) (λ z. closes z.0 ending end) refl
      (closes_to t ending end)) c in
      (z.0, z.1, r)

  -- a call with a trace is one with events of these marks
  pub trace_has_events : (f : ℕ) (arguments : List Value) (heap : HeapMap) (t : List Mark) (ending : Ending) (end : HeapMap) → SeenTreeCalls mark_of bound P f arguments heap t ending end →
      (events : List Event) × (map mark_of events ≡ t) × SeenTreeCalls see bound P f arguments heap events ending end
  trace_has_events f arguments heap t ending end (n, c) = let (events, same, c') = within_to n f arguments heap t ending end c in (events, same, (n, c'))
