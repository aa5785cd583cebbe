-- What is seen of an execution of a tree, seen in less detail.
use Rattle.std.proofs.Common.{◌≡◌, ℕ, zero, suc, Option, Some, None, List, [], ◌∷◌, ◌++◌, map, slice_set, refl, ap, ◌∙◌, inl, inr, pos}
use Rattle.std.proofs.lemmas.List.{map-append}
use Rattle.px_base.specs.declared.trace.Site.{Site}
use Rattle.px_base.specs.declared.trace.Kind.TheVariants.{NullDereference, UseAfterFree, DoubleFree, UninitialisedRead}
use Rattle.px_base.specs.declared.trace.MarkKind.{MarkKind}
use Rattle.px_base.specs.declared.trace.MarkKind.TheVariants.{Then, Else, NoBlock, Iter, Done, Access, Freed, FreeNull, Enter, Leave}
use Rattle.px_base.specs.declared.trace.ProcId.{ProcId}
use Rattle.px_base.specs.declared.trace.FieldId.{FieldId}
use Rattle.px_core.specs.declared.command.Operator.TheVariants.{Neg}
use Rattle.px_meaning.specs.Values.{TypeId, BlockType, Value, Word, Unwritten}
use Rattle.px_meaning.specs.Heaps.{HeapMap, with_block}
use Rattle.px_meaning.specs.Calls.{Halt, error, outside, Ending, Returned, Failed}
use Rattle.px_meaning.specs.Execution.{Locals, with_local}
use Rattle.px_meaning.specs.Events.{Event, reads, makes}
use Rattle.px_meaning.specs.Operations.{value_at, result_of, on_words}
use Rattle.px_meaning.specs.Steps.{ProcedureCalls, marking, live_block, freed_block}
use Rattle.px_meaning.specs.TypedProgram.{TypedProgram}
use Rattle.px_syntax.specs.TypedTree.{Expression, constant, null, local, negated, arithmetic, truth, cell, allocate, get_char, call, stop, Expressions, no_expressions, an_expression, Arguments, no_arguments, an_argument, passed, erased, Condition, compare, word, pointer, both, either, opposite, Place, local_place, cell_place, Statement, block, declare, assign, update, run_call, free, input, choose, loop, break, continue, return, evaluate, access, Statements, no_statements, a_statement}
use Rattle.px_syntax.specs.declared.typed_expression.Arithmetic.{Arithmetic}
use Rattle.px_meaning.specs.TreeExecution.{gives, errs, Outcomes, with_value, by_outcome, yes, no, fault, Verdicts, with_verdict, Exit, falls, breaks, continues, returns, fails, Exits, with_fall, behind_body, Uses, Loads, calculation, Calculates, Reaches, Stores, Returns, CallsProcedure, Branches, Evaluates, EvaluatesAll, PassesAll, Tests, failing, Takes, Declares, Assigns, Updates, Frees, TestsIf, Loops, GivesBack, Executes, ExecutesAll}
use Rattle.px_meaning.specs.TreeCalls.{first_locals, closes, TreeCallsWithin, SeenTreeCalls}
use Rattle.px_meaning.proofs.Steps.{some_more, pointer_more, written_more}

module _ {E F : Type 0} (less : E → F) (seen : Event → E) where
  abbrev seen' : Event → F
  seen' e = less (seen e)

  -- what was seen so far
  abbrev Same : List E → List F → Type 0
  Same a b = map less a ≡ b

  same_more : (a : List E) (b : List F) (m : List E) → Same a b → Same (a ++ m) (b ++ map less m)
  same_more a b m s = map-append less a m ∙ ap (λ x. x ++ map less m) s

  abbrev To : {X : Type 0} → (List E → X → HeapMap → Type 0) → (List F → X → HeapMap → Type 0) → Type 0
  To {X} G H = (a : List E) (b : List F) (x : X) (h : HeapMap) → Same a b → G a x h → H b x h

  abbrev ToErr : (List E → Halt → Site → HeapMap → Type 0) → (List F → Halt → Site → HeapMap → Type 0) → Type 0
  ToErr G H = (a : List E) (b : List F) (kind : Halt) (site : Site) (h : HeapMap) → Same a b → G a kind site h → H b kind site h

  abbrev ToOn : (List E → HeapMap → Type 0) → (List F → HeapMap → Type 0) → Type 0
  ToOn G H = (a : List E) (b : List F) (h : HeapMap) → Same a b → G a h → H b h

  abbrev ToExits : Exits E → Exits F → Type 0
  ToExits G H = (a : List E) (b : List F) (x : Exit) (l : Locals) (h : HeapMap) → Same a b → G a x l h → H b x l h

  abbrev ToAfter : (List E → Locals → HeapMap → Type 0) → (List F → Locals → HeapMap → Type 0) → Type 0
  ToAfter G H = (a : List E) (b : List F) (l : Locals) (h : HeapMap) → Same a b → G a l h → H b l h

  value_to : (K : Outcomes E) (L : Outcomes F) (f : List E → Value → HeapMap → Type 0) (g : List F → Value → HeapMap → Type 0) → To K L → To f g → To (with_value K f) (with_value L g)
  value_to K L f g o m a b (gives v) h s k = m a b v h s k
  value_to K L f g o m a b (errs kind site) h s k = o a b (errs kind site) h s k

  outcome_to : (err : List E → Halt → Site → HeapMap → Type 0) (err' : List F → Halt → Site → HeapMap → Type 0) (f : List E → Value → HeapMap → Type 0) (g : List F → Value → HeapMap → Type 0) → ToErr err err' → To f g → To (by_outcome err f) (by_outcome err' g)
  outcome_to err err' f g o m a b (gives v) h s k = m a b v h s k
  outcome_to err err' f g o m a b (errs kind site) h s k = o a b kind site h s k

  verdict_to : (err : List E → Halt → Site → HeapMap → Type 0) (err' : List F → Halt → Site → HeapMap → Type 0) (f g : List E → HeapMap → Type 0) (f' g' : List F → HeapMap → Type 0) → ToErr err err' → ToOn f f' → ToOn g g' →
      To (with_verdict err f g) (with_verdict err' f' g')
  verdict_to err err' f g f' g' o mf mg a b yes h s k = mf a b h s k
  verdict_to err err' f g f' g' o mf mg a b no h s k = mg a b h s k
  verdict_to err err' f g f' g' o mf mg a b (fault kind site) h s k = o a b kind site h s k

  fall_to : (K : Exits E) (L : Exits F) (f : List E → Locals → HeapMap → Type 0) (g : List F → Locals → HeapMap → Type 0) → ToExits K L → ToAfter f g → ToExits (with_fall K f) (with_fall L g)
  fall_to K L f g o m a b falls l h s k = m a b l h s k
  fall_to K L f g o m a b breaks l h s k = o a b breaks l h s k
  fall_to K L f g o m a b continues l h s k = o a b continues l h s k
  fall_to K L f g o m a b (returns v) l h s k = o a b (returns v) l h s k
  fall_to K L f g o m a b (fails kind site) l h s k = o a b (fails kind site) l h s k

  module _ (types : List BlockType) (C : ProcedureCalls E) (D : ProcedureCalls F)
      (more : (f : ℕ) (arguments : List Value) (heap : HeapMap) (t : List E) (ending : Ending) (end : HeapMap) → C f arguments heap t ending end → D f arguments heap (map less t) ending end) where
    body_to : (K : Exits E) (L : Exits F) (f : List E → Locals → HeapMap → Type 0) (g : List F → Locals → HeapMap → Type 0) → ToExits K L → ToAfter f g → ToExits (behind_body seen types C f K) (behind_body seen' types D g L)
    body_to K L f g o m a b falls l h s k = m a b l h s k
    body_to K L f g o m a b continues l h s k = m a b l h s k
    body_to K L f g o m a b breaks l h s k = o a b falls l h s k
    body_to K L f g o m a b (returns v) l h s k = o a b (returns v) l h s k
    body_to K L f g o m a b (fails kind site) l h s k = o a b (fails kind site) l h s k

    same_mark : (a : List E) (b : List F) (kind : MarkKind) (site : Site) → Same a b → Same (a ++ marking seen kind site) (b ++ marking seen' kind site)
    same_mark a b kind site s = same_more a b (marking seen kind site) s

    uses_to : (v : Value) (site : Site) (a : List E) (b : List F) (heap : HeapMap) (K : Outcomes E) (L : Outcomes F) → Same a b → To K L → Uses seen types C v site a heap K → Uses seen' types D v site b heap L
    uses_to v site a b heap K L s o h =
        written_more v (K a (gives v) heap) (L b (gives v) heap) (K a (errs (error UninitialisedRead) site) heap) (L b (errs (error UninitialisedRead) site) heap) (o _ _ _ _ s) (o _ _ _ _ s) h

    calculates_to : (op : Arithmetic) (x y : Value) (a : List E) (b : List F) (heap : HeapMap) (K : Outcomes E) (L : Outcomes F) → Same a b → To K L → Calculates seen types C op x y a heap K → Calculates seen' types D op x y b heap L
    calculates_to op x y a b heap K L s o h = some_more (on_words (calculation op) x y) (λ r. K a r heap) (λ r. L b r heap) (λ r. o a b r heap s) h

    loads_to : (v : Value) (field : FieldId) (t : TypeId) (site : Site) (a : List E) (b : List F) (heap : HeapMap) (K : Outcomes E) (L : Outcomes F) → Same a b → To K L → Loads seen types C v field t site a heap K → Loads seen' types D v field t site b heap L
    loads_to v field t site a b heap K L s o h =
        let s' = same_mark a b Access site s in
        pointer_more heap t.0 v (K (a ++ marking seen Access site) (errs (error NullDereference) site) heap) (L (b ++ marking seen' Access site) (errs (error NullDereference) site) heap)
        (K (a ++ marking seen Access site) (errs (error UseAfterFree) site) heap) (L (b ++ marking seen' Access site) (errs (error UseAfterFree) site) heap)
        (λ n cells. Uses seen types C (value_at cells field.0) site (a ++ marking seen Access site) heap K) (λ n cells. Uses seen' types D (value_at cells field.0) site (b ++ marking seen' Access site) heap L)
        (o _ _ _ _ s') (o _ _ _ _ s') (λ n cells. uses_to (value_at cells field.0) site (a ++ marking seen Access site) (b ++ marking seen' Access site) heap K L s' o) h

    reaches_to : (v : Value) (t : TypeId) (site : Site) (a : List E) (b : List F) (heap : HeapMap) (err : List E → Halt → Site → HeapMap → Type 0) (err' : List F → Halt → Site → HeapMap → Type 0) (f : List E → HeapMap → Type 0) (g : List F → HeapMap → Type 0) →
        Same a b → ToErr err err' → ToOn f g → Reaches seen types C v t site a heap err f → Reaches seen' types D v t site b heap err' g
    reaches_to v t site a b heap err err' f g s oe o h =
        let s' = same_mark a b Access site s in
        pointer_more heap t.0 v (err (a ++ marking seen Access site) (error NullDereference) site heap) (err' (b ++ marking seen' Access site) (error NullDereference) site heap)
        (err (a ++ marking seen Access site) (error UseAfterFree) site heap) (err' (b ++ marking seen' Access site) (error UseAfterFree) site heap)
        (λ n cells. f (a ++ marking seen Access site) heap) (λ n cells. g (b ++ marking seen' Access site) heap)
        (oe _ _ _ _ _ s') (oe _ _ _ _ _ s') (λ n cells. o _ _ _ s') h

    stores_to : (v : Value) (field : FieldId) (t : TypeId) (site : Site) (w : Value) (l : Locals) (a : List E) (b : List F) (heap : HeapMap) (K : Exits E) (L : Exits F) → Same a b → ToExits K L →
        Stores seen types C v field t site w l a heap K → Stores seen' types D v field t site w l b heap L
    stores_to v field t site w l a b heap K L s o h =
        let s' = same_mark a b Access site s in
        pointer_more heap t.0 v (K (a ++ marking seen Access site) (fails (error NullDereference) site) l heap) (L (b ++ marking seen' Access site) (fails (error NullDereference) site) l heap)
        (K (a ++ marking seen Access site) (fails (error UseAfterFree) site) l heap) (L (b ++ marking seen' Access site) (fails (error UseAfterFree) site) l heap)
        (λ n cells. K (a ++ marking seen Access site) falls l (with_block heap n (live_block t.0 (slice_set cells field.0 w))))
        (λ n cells. L (b ++ marking seen' Access site) falls l (with_block heap n (live_block t.0 (slice_set cells field.0 w))))
        (o _ _ _ _ _ s') (o _ _ _ _ _ s') (λ n cells. o _ _ _ _ _ s') h

    frees_to : (v : Value) (t : TypeId) (site : Site) (l : Locals) (a : List E) (b : List F) (heap : HeapMap) (K : Exits E) (L : Exits F) → Same a b → ToExits K L → Frees seen types C v t site l a heap K → Frees seen' types D v t site l b heap L
    frees_to v t site l a b heap K L s o h =
        pointer_more heap t.0 v (K (a ++ marking seen FreeNull site) falls l heap) (L (b ++ marking seen' FreeNull site) falls l heap)
        (K (a ++ marking seen Freed site) (fails (error DoubleFree) site) l heap) (L (b ++ marking seen' Freed site) (fails (error DoubleFree) site) l heap)
        (λ n cells. K (a ++ marking seen Freed site) falls l (with_block heap n (freed_block t.0))) (λ n cells. L (b ++ marking seen' Freed site) falls l (with_block heap n (freed_block t.0)))
        (o _ _ _ _ _ (same_mark a b FreeNull site s)) (o _ _ _ _ _ (same_mark a b Freed site s)) (λ n cells. o _ _ _ _ _ (same_mark a b Freed site s)) h

    returns_to : (proc : ProcId) (site : Site) (a t : List E) (b : List F) (heap : HeapMap) (err : List E → Halt → Site → HeapMap → Type 0) (err' : List F → Halt → Site → HeapMap → Type 0) (f : List E → Value → HeapMap → Type 0) (g : List F → Value → HeapMap → Type 0) (ending : Ending) →
        Same a b → ToErr err err' → To f g → Returns seen types C proc site a t heap err f ending → Returns seen' types D proc site b (map less t) heap err' g ending
    returns_to proc site a t b heap err err' f g (Returned v) s oe o h =
        o _ _ _ _ (same_more a b (marking seen (Enter proc) site ++ (t ++ marking seen Leave site)) s ∙ ap (λ u. b ++ (marking seen' (Enter proc) site ++ u)) (map-append less t (marking seen Leave site))) h
    returns_to proc site a t b heap err err' f g (Failed kind at) s oe o h = oe _ _ _ _ _ (same_more a b (marking seen (Enter proc) site ++ t) s) h

    call_to : (proc : ProcId) (site : Site) (vs : List Value) (a : List E) (b : List F) (heap : HeapMap) (err : List E → Halt → Site → HeapMap → Type 0) (err' : List F → Halt → Site → HeapMap → Type 0) (f : List E → Value → HeapMap → Type 0) (g : List F → Value → HeapMap → Type 0) →
        Same a b → ToErr err err' → To f g → CallsProcedure seen types C proc site vs a heap err f → CallsProcedure seen' types D proc site vs b heap err' g
    call_to proc site vs a b heap err err' f g s oe o (t, ending, heap', c, h) =
        (map less t, ending, heap', more proc.0 vs heap t ending heap' c, returns_to proc site a t b heap' err err' f g ending s oe o h)

    branches_to : (Yes No : Type 0) (site : Site) (a : List E) (b : List F) (heap : HeapMap) (K : Verdicts E) (L : Verdicts F) → Same a b → To K L → Branches seen types C Yes No site a heap K → Branches seen' types D Yes No site b heap L
    branches_to Yes No site a b heap K L s o (inl h) = inl (h.0, o _ _ _ _ (same_mark a b Then site s) h.1)
    branches_to Yes No site a b heap K L s o (inr h) = inr (h.0, o _ _ _ _ (same_mark a b Else site s) h.1)

    mutual
      eval_to : (e : Expression) (l : Locals) (a : List E) (b : List F) (heap : HeapMap) (K : Outcomes E) (L : Outcomes F) → Same a b → To K L → Evaluates seen types C e l a heap K → Evaluates seen' types D e l b heap L
      eval_to (constant z) l a b heap K L s o h = o _ _ _ _ s h
      eval_to null l a b heap K L s o h = o _ _ _ _ s h
      eval_to (local n site) l a b heap K L s o h = uses_to (l n) site a b heap K L s o h
      eval_to (negated e) l a b heap K L s o h =
          eval_to e l a b heap _ _ s (value_to K L _ _ o (λ a b x h s. some_more (result_of Neg x (Word (pos 0))) (λ v. K a (gives v) h) (λ v. L b (gives v) h) (λ v. o a b (gives v) h s))) h
      eval_to (arithmetic op c d) l a b heap K L s o h =
          eval_to c l a b heap _ _ s (value_to K L _ _ o (λ a b x h s. eval_to d l a b h _ _ s (value_to K L _ _ o (λ a b y h s.
          calculates_to op x y a b h K L s o)))) h
      eval_to (truth c) l a b heap K L s o h =
          test_to c l a b heap _ _ s (verdict_to _ _ _ _ _ _ (λ a b kind at h s. o a b (errs kind at) h s) (λ a b h s. o a b (gives (Word (pos 1))) h s) (λ a b h s. o a b (gives (Word (pos 0))) h s)) h
      eval_to (cell e field t site) l a b heap K L s o h = eval_to e l a b heap _ _ s (value_to K L _ _ o (λ a b x h s. loads_to x field t site a b h K L s o)) h
      eval_to (allocate t site) l a b heap K L s o (inl h) = inl (o _ _ _ _ (same_mark a b NoBlock site s) h)
      eval_to (allocate t site) l a b heap K L s o (inr (n, out, h)) = inr (n, out, o _ _ _ _ (same_more a b (seen (makes site n) ∷ []) s) h)
      eval_to (get_char site) l a b heap K L s o (z, low, high, h) = (z, low, high, o _ _ _ _ (same_more a b (seen (reads site z) ∷ []) s) h)
      eval_to (call proc es result site) l a b heap K L s o h =
          all_to es l a b heap _ _ _ _ s (λ a b kind at h s. o a b (errs kind at) h s)
          (λ a b vs h s. call_to proc site vs a b h _ _ _ _ s (λ a b kind at h s. o a b (errs kind at) h s) (λ a b v h s. uses_to v site a b h K L s o)) h
      eval_to (stop number site es) l a b heap K L s o h =
          passes_to es l a b heap _ _ _ _ s (λ a b kind at h s. o a b (errs kind at) h s) (λ a b h s. o a b (errs (outside number) site) h s) h

      all_to : (es : Arguments) (l : Locals) (a : List E) (b : List F) (heap : HeapMap) (err : List E → Halt → Site → HeapMap → Type 0) (err' : List F → Halt → Site → HeapMap → Type 0) (f : List E → List Value → HeapMap → Type 0) (g : List F → List Value → HeapMap → Type 0) →
          Same a b → ToErr err err' → To f g → EvaluatesAll seen types C es l a heap err f → EvaluatesAll seen' types D es l b heap err' g
      all_to no_arguments l a b heap err err' f g s oe o h = o _ _ _ _ s h
      all_to (an_argument (passed e) rest) l a b heap err err' f g s oe o h =
          eval_to e l a b heap _ _ s (outcome_to err err' _ _ oe (λ a b v h s. all_to rest l a b h err err' _ _ s oe (λ a b vs h s. o a b (v ∷ vs) h s))) h
      all_to (an_argument (erased parts) rest) l a b heap err err' f g s oe o h =
          passes_to parts l a b heap err err' _ _ s oe (λ a b h s. all_to rest l a b h err err' f g s oe o) h

      passes_to : (es : Expressions) (l : Locals) (a : List E) (b : List F) (heap : HeapMap) (err : List E → Halt → Site → HeapMap → Type 0) (err' : List F → Halt → Site → HeapMap → Type 0) (f : List E → HeapMap → Type 0) (g : List F → HeapMap → Type 0) →
          Same a b → ToErr err err' → ToOn f g → PassesAll seen types C es l a heap err f → PassesAll seen' types D es l b heap err' g
      passes_to no_expressions l a b heap err err' f g s oe o h = o _ _ _ s h
      passes_to (an_expression (local n site) rest) l a b heap err err' f g s oe o h = passes_to rest l a b heap err err' f g s oe o h
      passes_to (an_expression (cell e field t site) rest) l a b heap err err' f g s oe o h =
          eval_to e l a b heap _ _ s (outcome_to err err' _ _ oe (λ a b x h s. reaches_to x t site a b h err err' _ _ s oe (λ a b h s. passes_to rest l a b h err err' f g s oe o))) h
      passes_to (an_expression (call proc es result site) rest) l a b heap err err' f g s oe o h =
          all_to es l a b heap err err' _ _ s oe (λ a b vs h s. call_to proc site vs a b h err err' _ _ s oe (λ a b v h s. passes_to rest l a b h err err' f g s oe o)) h
      passes_to (an_expression e rest) l a b heap err err' f g s oe o h =
          eval_to e l a b heap _ _ s (outcome_to err err' _ _ oe (λ a b v h s. passes_to rest l a b h err err' f g s oe o)) h

      test_to : (c : Condition) (l : Locals) (a : List E) (b : List F) (heap : HeapMap) (K : Verdicts E) (L : Verdicts F) → Same a b → To K L → Tests seen types C c l a heap K → Tests seen' types D c l b heap L
      test_to (compare r c d site) l a b heap K L s o h =
          eval_to c l a b heap _ _ s (outcome_to _ _ _ _ (λ a b kind at h s. o a b (fault kind at) h s) (λ a b x h s.
          eval_to d l a b h _ _ s (outcome_to _ _ _ _ (λ a b kind at h s. o a b (fault kind at) h s) (λ a b y h s. branches_to _ _ site a b h K L s o)))) h
      test_to (word e site) l a b heap K L s o h = eval_to e l a b heap _ _ s (outcome_to _ _ _ _ (λ a b kind at h s. o a b (fault kind at) h s) (λ a b y h s. branches_to _ _ site a b h K L s o)) h
      test_to (pointer e site) l a b heap K L s o h = eval_to e l a b heap _ _ s (outcome_to _ _ _ _ (λ a b kind at h s. o a b (fault kind at) h s) (λ a b y h s. branches_to _ _ site a b h K L s o)) h
      test_to (both c d) l a b heap K L s o h = test_to c l a b heap _ _ s (verdict_to _ _ _ _ _ _ (λ a b kind at h s. o a b (fault kind at) h s) (λ a b h s. test_to d l a b h K L s o) (λ a b h s. o a b no h s)) h
      test_to (either c d) l a b heap K L s o h = test_to c l a b heap _ _ s (verdict_to _ _ _ _ _ _ (λ a b kind at h s. o a b (fault kind at) h s) (λ a b h s. o a b yes h s) (λ a b h s. test_to d l a b h K L s o)) h
      test_to (opposite c) l a b heap K L s o h = test_to c l a b heap _ _ s (verdict_to _ _ _ _ _ _ (λ a b kind at h s. o a b (fault kind at) h s) (λ a b h s. o a b no h s) (λ a b h s. o a b yes h s)) h

    takes_to : (e : Expression) (l : Locals) (a : List E) (b : List F) (heap : HeapMap) (K : Exits E) (L : Exits F) (f : List E → Value → HeapMap → Type 0) (g : List F → Value → HeapMap → Type 0) → Same a b → ToExits K L → To f g →
        Takes seen types C e l a heap K f → Takes seen' types D e l b heap L g
    takes_to e l a b heap K L f g s o m h = eval_to e l a b heap _ _ s (outcome_to (failing seen types C l K) (failing seen' types D l L) f g (λ a b kind site h s. o a b (fails kind site) l h s) m) h

    declares_to : (n : ℕ) (e : Option Expression) (l : Locals) (a : List E) (b : List F) (heap : HeapMap) (K : Exits E) (L : Exits F) → Same a b → ToExits K L → Declares seen types C n e l a heap K → Declares seen' types D n e l b heap L
    declares_to n None l a b heap K L s o h = o _ _ _ _ _ s h
    declares_to n (Some e) l a b heap K L s o h = takes_to e (with_local l n Unwritten) a b heap K L _ _ s o (λ a b v h s. o a b falls (with_local (with_local l n Unwritten) n v) h s) h

    assigns_to : (w : Place) (e : Expression) (l : Locals) (a : List E) (b : List F) (heap : HeapMap) (K : Exits E) (L : Exits F) → Same a b → ToExits K L → Assigns seen types C w e l a heap K → Assigns seen' types D w e l b heap L
    assigns_to (local_place n at) e l a b heap K L s o h = takes_to e l a b heap K L _ _ s o (λ a b v h s. o a b falls (with_local l n v) h s) h
    assigns_to (cell_place w field t site) e l a b heap K L s o h =
        takes_to w l a b heap K L _ _ s o (λ a b x h s. takes_to e l a b h K L _ _ s o (λ a b v h s. stores_to x field t site v l a b h K L s o)) h

    updates_to : (op : Arithmetic) (w : Place) (e : Expression) (l : Locals) (a : List E) (b : List F) (heap : HeapMap) (K : Exits E) (L : Exits F) → Same a b → ToExits K L → Updates seen types C op w e l a heap K → Updates seen' types D op w e l b heap L
    updates_to op (local_place n at) e l a b heap K L s o h =
        uses_to (l n) at a b heap _ _ s (outcome_to (failing seen types C l K) (failing seen' types D l L) _ _ (λ a b kind site h s. o a b (fails kind site) l h s) (λ a b x h s.
        takes_to e l a b h K L _ _ s o (λ a b y h s.
        calculates_to op x y a b h _ _ s (outcome_to (failing seen types C l K) (failing seen' types D l L) _ _ (λ a b kind site h s. o a b (fails kind site) l h s) (λ a b v h s. o a b falls (with_local l n v) h s))))) h
    updates_to op (cell_place w field t site) e l a b heap K L s o h =
        takes_to w l a b heap K L _ _ s o (λ a b place h s. loads_to place field t site a b h _ _ s (outcome_to (failing seen types C l K) (failing seen' types D l L) _ _ (λ a b kind site h s. o a b (fails kind site) l h s) (λ a b x h s.
        takes_to e l a b h K L _ _ s o (λ a b y h s.
        calculates_to op x y a b h _ _ s (outcome_to (failing seen types C l K) (failing seen' types D l L) _ _ (λ a b kind site h s. o a b (fails kind site) l h s) (λ a b v h s. stores_to place field t site v l a b h K L s o)))))) h

    tests_if_to : (c : Option Condition) (l : Locals) (a : List E) (b : List F) (heap : HeapMap) (K : Verdicts E) (L : Verdicts F) → Same a b → To K L → TestsIf seen types C c l a heap K → TestsIf seen' types D c l b heap L
    tests_if_to None l a b heap K L s o h = o _ _ _ _ s h
    tests_if_to (Some c) l a b heap K L s o h = test_to c l a b heap K L s o h

    gives_to : (e : Option Expression) (l : Locals) (a : List E) (b : List F) (heap : HeapMap) (K : Exits E) (L : Exits F) → Same a b → ToExits K L → GivesBack seen types C e l a heap K → GivesBack seen' types D e l b heap L
    gives_to None l a b heap K L s o h = o _ _ _ _ _ s h
    gives_to (Some e) l a b heap K L s o h = takes_to e l a b heap K L _ _ s o (λ a b v h s. o a b (returns v) l h s) h

    module _ (bound : Option ℕ) where
      abbrev ToAll : (Locals → List E → HeapMap → Exits E → Type 0) → (Locals → List F → HeapMap → Exits F → Type 0) → Type 1
      ToAll X Y = (l : Locals) (a : List E) (b : List F) (heap : HeapMap) (K : Exits E) (L : Exits F) → Same a b → ToExits K L → X l a heap K → Y l b heap L

      loops_to : (n made : ℕ) (site : Site) (c : Option Condition) (body after_body : Locals → List E → HeapMap → Exits E → Type 0) (body' after_body' : Locals → List F → HeapMap → Exits F → Type 0) → ToAll body body' → ToAll after_body after_body' →
          ToAll (Loops seen types C bound n made site c body after_body) (Loops seen' types D bound n made site c body' after_body')
      loops_to zero made site c body after_body body' after_body' m f l a b heap K L s o h = absurd h
      loops_to (suc n) made site c body after_body body' after_body' m f l a b heap K L s o h =
          tests_if_to c l a b heap _ _ s (verdict_to (failing seen types C l K) (failing seen' types D l L) _ _ _ _ (λ a b kind site h s. o a b (fails kind site) l h s)
          (λ a b h s k. (
            k.0,
            m l (a ++ marking seen Iter site) (b ++ marking seen' Iter site) h _ _ (same_mark a b Iter site s) (body_to K L _ _ o (λ a b l h s. f l a b h _ _ s (fall_to K L _ _ o
                (λ a b l h s. loops_to n (suc made) site c body after_body body' after_body' m f l a b h K L s o)))) k.1,
          ))
          (λ a b h s. o (a ++ marking seen Done site) (b ++ marking seen' Done site) falls l h (same_mark a b Done site s))) h

      mutual
        runs_to : (n : ℕ) (w : Statement) → ToAll (Executes seen types C bound n w) (Executes seen' types D bound n w)
        runs_to n (block ss) l a b heap K L s o h = all_runs_to n ss l a b heap K L s o h
        runs_to n (declare i e) l a b heap K L s o h = declares_to i e l a b heap K L s o h
        runs_to n (assign w e) l a b heap K L s o h = assigns_to w e l a b heap K L s o h
        runs_to n (update op w e) l a b heap K L s o h = updates_to op w e l a b heap K L s o h
        runs_to n (run_call proc es site) l a b heap K L s o h =
            all_to es l a b heap (failing seen types C l K) (failing seen' types D l L) _ _ s (λ a b kind site h s. o a b (fails kind site) l h s)
            (λ a b vs h s. call_to proc site vs a b h (failing seen types C l K) (failing seen' types D l L) (λ a v h. K a falls l h) (λ b v h. L b falls l h) s (λ a b kind site h s. o a b (fails kind site) l h s) (λ a b v h s. o a b falls l h s)) h
        runs_to n (free e t site) l a b heap K L s o h = takes_to e l a b heap K L _ _ s o (λ a b v h s. frees_to v t site l a b h K L s o) h
        runs_to n (input site) l a b heap K L s o h = takes_to (get_char site) l a b heap K L _ _ s o (λ a b v h s. o a b falls l h s) h
        runs_to n (choose c first second) l a b heap K L s o h =
            test_to c l a b heap _ _ s (verdict_to (failing seen types C l K) (failing seen' types D l L) _ _ _ _ (λ a b kind site h s. o a b (fails kind site) l h s)
            (λ a b h s. runs_to n first l a b h K L s o) (λ a b h s. runs_to n second l a b h K L s o)) h
        runs_to n (loop site c body after_body) l a b heap K L s o h =
            loops_to n 0 site c (Executes seen types C bound n body) (Executes seen types C bound n after_body) (Executes seen' types D bound n body) (Executes seen' types D bound n after_body)
            (runs_to n body) (runs_to n after_body) l a b heap K L s o h
        runs_to n break l a b heap K L s o h = o _ _ _ _ _ s h
        runs_to n continue l a b heap K L s o h = o _ _ _ _ _ s h
        runs_to n (return e) l a b heap K L s o h = gives_to e l a b heap K L s o h
        runs_to n (evaluate e) l a b heap K L s o h =
            passes_to (an_expression e no_expressions) l a b heap (failing seen types C l K) (failing seen' types D l L) _ _ s (λ a b kind site h s. o a b (fails kind site) l h s) (λ a b h s. o a b falls l h s) h
        runs_to n (access e parts field t site) l a b heap K L s o h =
            takes_to e l a b heap K L _ _ s o (λ a b x h s.
            passes_to parts l a b h (failing seen types C l K) (failing seen' types D l L) _ _ s (λ a b kind site h s. o a b (fails kind site) l h s) (λ a b h s.
            reaches_to x t site a b h (failing seen types C l K) (failing seen' types D l L) (λ a h. K a falls l h) (λ b h. L b falls l h) s (λ a b kind site h s. o a b (fails kind site) l h s) (λ a b h s. o a b falls l h s))) h

        all_runs_to : (n : ℕ) (ss : Statements) → ToAll (ExecutesAll seen types C bound n ss) (ExecutesAll seen' types D bound n ss)
        all_runs_to n no_statements l a b heap K L s o h = o _ _ _ _ _ s h
        all_runs_to n (a_statement w rest) l a b heap K L s o h =
            runs_to n w l a b heap _ _ s (fall_to K L _ _ o (λ a b l h s. all_runs_to n rest l a b h K L s o)) h

  closes_to : (t : List E) (ending : Ending) (end : HeapMap) → ToExits (closes t ending end) (closes (map less t) ending end)
  closes_to t ending end a b falls l h s k = (ap (map less) k.0 ∙ s, k.1, k.2)
  closes_to t ending end a b (returns v) l h s k = (ap (map less) k.0 ∙ s, k.1, k.2)
  closes_to t ending end a b (fails kind site) l h s k = (ap (map less) k.0 ∙ s, k.1, k.2)
  closes_to t ending end a b breaks l h s k = absurd k
  closes_to t ending end a b continues l h s k = absurd k

  module _ (bound : Option ℕ) (P : TypedProgram) where
    within_to : (n f : ℕ) (arguments : List Value) (heap : HeapMap) (t : List E) (ending : Ending) (end : HeapMap) → TreeCallsWithin seen bound P n f arguments heap t ending end →
        TreeCallsWithin seen' bound P n f arguments heap (map less t) ending end
    within_to zero f arguments heap t ending end c = absurd c
    within_to (suc n) f arguments heap t ending end c =
        some_more (P.procedures f)
        (λ p. Executes seen P.types (TreeCallsWithin seen bound P n) bound n p.body (first_locals arguments) [] heap (closes t ending end))
        (λ p. Executes seen' P.types (TreeCallsWithin seen' bound P n) bound n p.body (first_locals arguments) [] heap (closes (map less t) ending end))
        (λ p. runs_to P.types (TreeCallsWithin seen bound P n) (TreeCallsWithin seen' bound P n) (within_to n) bound n p.body (first_locals arguments) [] [] heap (closes t ending end) (closes (map less t) ending end) refl
        (closes_to t ending end)) c

    -- a call is one with less seen of it
    pub tree_calls_to : (f : ℕ) (arguments : List Value) (heap : HeapMap) (t : List E) (ending : Ending) (end : HeapMap) → SeenTreeCalls seen bound P f arguments heap t ending end →
        SeenTreeCalls seen' bound P f arguments heap (map less t) ending end
    tree_calls_to f arguments heap t ending end (n, c) = (n, within_to n f arguments heap t ending end c)
