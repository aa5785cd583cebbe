-- An execution of a tree by some calls is one by others, as far as those go: where a call of the others comes to what isn't understood
-- before it has done what the first did, the execution ends there.
use Rattle.std.proofs.Common.{◌≡◌, ◌⊎◌, ℕ, zero, suc, Option, Some, None, IsSomeAnd, List, [], ◌∷◌, ◌++◌, slice_set, sym, ap, ◌∙◌, subst, inl, inr, pos, append_assoc}
use Rattle.px_base.specs.declared.trace.Site.{Site}
use Rattle.px_base.specs.declared.trace.Kind.TheVariants.{NullDereference, UseAfterFree, DoubleFree, UninitialisedRead}
use Rattle.px_base.specs.declared.trace.MarkKind.TheVariants.{Then, Else, Iter, Done, NoBlock, Access, Freed, FreeNull, Enter, Leave}
use Rattle.px_base.specs.declared.trace.ProcId.{ProcId}
use Rattle.px_base.specs.declared.trace.FieldId.{FieldId}
use Rattle.px_core.specs.declared.command.Operator.TheVariants.{Neg}
use Rattle.px_meaning.specs.Values.{TypeId, BlockType, Value, Word, Unwritten}
use Rattle.px_meaning.specs.Heaps.{HeapMap, with_block}
use Rattle.px_meaning.specs.Calls.{Halt, error, outside, Ending, Returned, Failed}
use Rattle.px_meaning.specs.Execution.{Locals, with_local}
use Rattle.px_meaning.specs.Events.{Event, reads, makes}
use Rattle.px_meaning.specs.Operations.{value_at, result_of, on_words}
use Rattle.px_meaning.specs.Steps.{ProcedureCalls, marking, live_block, freed_block}
use Rattle.px_syntax.specs.TypedTree.{Expression, constant, null, local, negated, arithmetic, truth, cell, allocate, get_char, call, stop, Expressions, no_expressions, an_expression, Arguments, no_arguments, an_argument, passed, erased, Condition, compare, word, pointer, both, either, opposite, Place, local_place, cell_place, Statement, block, declare, assign, update, run_call, free, input, choose, loop, break, continue, return, evaluate, access, Statements, no_statements, a_statement}
use Rattle.px_syntax.specs.declared.typed_expression.Arithmetic.{Arithmetic}
use Rattle.px_meaning.specs.TreeExecution.{gives, errs, Outcomes, with_value, by_outcome, yes, no, fault, Verdicts, with_verdict, Exit, falls, breaks, continues, returns, fails, Exits, with_fall, behind_body, Uses, Loads, calculation, Calculates, Reaches, Stores, Returns, CallsProcedure, Branches, Evaluates, EvaluatesAll, PassesAll, Tests, failing, Takes, Declares, Assigns, Updates, Frees, TestsIf, Loops, GivesBack, Executes, ExecutesAll}
use Rattle.px_meaning.proofs.TreeBegins.{Begins, shorter}
use Rattle.px_meaning.proofs.TreeEvents.{some_pick, pointer_pick, written_pick}

-- a call is one of the others; or, where calls may be cut off, one of the others comes to what isn't understood at a beginning of what was
-- seen; or, where this may be left out, the call itself comes there
abbrev pub Splits : {E : Type 0} → Type 0 → Type 0 → ProcedureCalls E → ℕ → List Value → HeapMap → List E → Ending → HeapMap → Type 0
Splits {E} M N D f arguments heap u ending end =
    D f arguments heap u ending end
    ⊎ ((M × ((first : List E) × (more : List E) × (w : ℕ) × (s : Site) × (there : HeapMap) × (u ≡ first ++ more) × D f arguments heap first (Failed (outside w) s) there))
    ⊎ (N × ((w : ℕ) × (s : Site) × (ending ≡ Failed (outside w) s))))

module _ {E : Type 0} (seen : Event → E) (types : List BlockType) (C D : ProcedureCalls E) (t : List E) (X M N : Type 0)
    (split : (f : ℕ) (arguments : List Value) (heap : HeapMap) (u : List E) (ending : Ending) (end : HeapMap) → C f arguments heap u ending end → Splits M N D f arguments heap u ending end) where
  -- t begins with a, and one of the goals is chosen
  abbrev pub At : List E → Type 0
  At a = Begins t a × X

  abbrev pub Pick : List E → (X → Type 0) → Type 0
  Pick a Y = (q : At a) × Y q.1

  earlier : (a m : List E) (Y : X → Type 0) → Pick (a ++ m) Y → Pick a Y
  earlier a m Y ((b, z), r) = ((shorter t a m b, z), r)

  -- wherever the one goal is reached, t has begun so, and some of the other goals is reached
  abbrev To : {A : Type 0} → (List E → A → HeapMap → Type 0) → (X → List E → A → HeapMap → Type 0) → Type 0
  To {A} G H = (a : List E) (x : A) (h : HeapMap) → G a x h → Pick a (λ z. H z a x h)

  abbrev ToOn : (List E → HeapMap → Type 0) → (X → List E → HeapMap → Type 0) → Type 0
  ToOn G H = (a : List E) (h : HeapMap) → G a h → Pick a (λ z. H z a h)

  abbrev ToAfter : (List E → Locals → HeapMap → Type 0) → (X → List E → Locals → HeapMap → Type 0) → Type 0
  ToAfter G H = (a : List E) (l : Locals) (h : HeapMap) → G a l h → Pick a (λ z. H z a l h)

  abbrev ToExits : Exits E → (X → Exits E) → Type 0
  ToExits G H = (a : List E) (x : Exit) (l : Locals) (h : HeapMap) → G a x l h → Pick a (λ z. H z a x l h)

  -- the same of halts, at which an execution may also be cut off, or never is
  pub record ToErr (G : List E → Halt → Site → HeapMap → Type 0) (H : X → List E → Halt → Site → HeapMap → Type 0) : Type 0 where
    pub to : (a : List E) (kind : Halt) (site : Site) (h : HeapMap) → G a kind site h → Pick a (λ z. H z a kind site h)
    pub cut : M → (a : List E) (w : ℕ) (site : Site) (h : HeapMap) → Begins t a → (z : X) × H z a (outside w) site h
    pub never : N → (a : List E) (w : ℕ) (site : Site) (h : HeapMap) → G a (outside w) site h → ⊥

  abbrev errors : Outcomes E → List E → Halt → Site → HeapMap → Type 0
  errors K a kind site h = K a (errs kind site) h

  abbrev faults : Verdicts E → List E → Halt → Site → HeapMap → Type 0
  faults K a kind site h = K a (fault kind site) h

  abbrev AtErrors : Outcomes E → (X → Outcomes E) → Type 0
  AtErrors K L = ToErr (errors K) (λ z. errors (L z))

  abbrev AtFaults : Verdicts E → (X → Verdicts E) → Type 0
  AtFaults K L = ToErr (faults K) (λ z. faults (L z))

  abbrev AtFailures : Exits E → (X → Exits E) → Type 0
  AtFailures K L = (l : Locals) → ToErr (failing seen types C l K) (λ z. failing seen types D l (L z))

  value_to : (K : Outcomes E) (L : X → Outcomes E) (f : List E → Value → HeapMap → Type 0) (g : X → List E → Value → HeapMap → Type 0) → To K L → To f g → To (with_value K f) (λ z. with_value (L z) (g z))
  value_to K L f g o m a (gives v) h k = m a v h k
  value_to K L f g o m a (errs kind site) h k = o a (errs kind site) h k

  outcome_to : (err : List E → Halt → Site → HeapMap → Type 0) (err' : X → List E → Halt → Site → HeapMap → Type 0) (f : List E → Value → HeapMap → Type 0) (g : X → List E → Value → HeapMap → Type 0) → ToErr err err' → To f g →
      To (by_outcome err f) (λ z. by_outcome (err' z) (g z))
  outcome_to err err' f g o m a (gives v) h k = m a v h k
  outcome_to err err' f g o m a (errs kind site) h k = o.to a kind site h k

  verdict_to : (err : List E → Halt → Site → HeapMap → Type 0) (err' : X → List E → Halt → Site → HeapMap → Type 0) (f g : List E → HeapMap → Type 0) (f' g' : X → List E → HeapMap → Type 0) → ToErr err err' → ToOn f f' → ToOn g g' →
      To (with_verdict err f g) (λ z. with_verdict (err' z) (f' z) (g' z))
  verdict_to err err' f g f' g' o mf mg a yes h k = mf a h k
  verdict_to err err' f g f' g' o mf mg a no h k = mg a h k
  verdict_to err err' f g f' g' o mf mg a (fault kind site) h k = o.to a kind site h k

  fall_to : (K : Exits E) (L : X → Exits E) (f : List E → Locals → HeapMap → Type 0) (g : X → List E → Locals → HeapMap → Type 0) → ToExits K L → ToAfter f g → ToExits (with_fall K f) (λ z. with_fall (L z) (g z))
  fall_to K L f g o m a falls l h k = m a l h k
  fall_to K L f g o m a breaks l h k = o a breaks l h k
  fall_to K L f g o m a continues l h k = o a continues l h k
  fall_to K L f g o m a (returns v) l h k = o a (returns v) l h k
  fall_to K L f g o m a (fails kind site) l h k = o a (fails kind site) l h k

  body_to : (K : Exits E) (L : X → Exits E) (f : List E → Locals → HeapMap → Type 0) (g : X → List E → Locals → HeapMap → Type 0) → ToExits K L → ToAfter f g → ToExits (behind_body seen types C f K) (λ z. behind_body seen types D (g z) (L z))
  body_to K L f g o m a falls l h k = m a l h k
  body_to K L f g o m a continues l h k = m a l h k
  body_to K L f g o m a breaks l h k = o a falls l h k
  body_to K L f g o m a (returns v) l h k = o a (returns v) l h k
  body_to K L f g o m a (fails kind site) l h k = o a (fails kind site) l h k

  uses_to : (v : Value) (site : Site) (a : List E) (heap : HeapMap) (K : Outcomes E) (L : X → Outcomes E) → To K L → Uses seen types C v site a heap K → Pick a (λ z. Uses seen types D v site a heap (L z))
  uses_to v site a heap K L o h =
      written_pick (At a) v (K a (gives v) heap) (λ q. L q.1 a (gives v) heap) (K a (errs (error UninitialisedRead) site) heap) (λ q. L q.1 a (errs (error UninitialisedRead) site) heap) (o _ _ _) (o _ _ _) h

  calculates_to : (op : Arithmetic) (x y : Value) (a : List E) (heap : HeapMap) (K : Outcomes E) (L : X → Outcomes E) → To K L → Calculates seen types C op x y a heap K → Pick a (λ z. Calculates seen types D op x y a heap (L z))
  calculates_to op x y a heap K L o h = some_pick (At a) (on_words (calculation op) x y) (λ r. K a r heap) (λ q r. L q.1 a r heap) (λ r. o a r heap) h

  loads_to : (v : Value) (field : FieldId) (b : TypeId) (site : Site) (a : List E) (heap : HeapMap) (K : Outcomes E) (L : X → Outcomes E) → To K L → Loads seen types C v field b site a heap K → Pick a (λ z. Loads seen types D v field b site a heap (L z))
  loads_to v field b site a heap K L o h =
      pointer_pick (At a) heap b.0 v (K (a ++ marking seen Access site) (errs (error NullDereference) site) heap) (λ q. L q.1 (a ++ marking seen Access site) (errs (error NullDereference) site) heap)
      (K (a ++ marking seen Access site) (errs (error UseAfterFree) site) heap) (λ q. L q.1 (a ++ marking seen Access site) (errs (error UseAfterFree) site) heap)
      (λ n cells. Uses seen types C (value_at cells field.0) site (a ++ marking seen Access site) heap K) (λ q n cells. Uses seen types D (value_at cells field.0) site (a ++ marking seen Access site) heap (L q.1))
      (λ k. earlier a _ (λ z. L z (a ++ marking seen Access site) (errs (error NullDereference) site) heap) (o _ _ _ k))
      (λ k. earlier a _ (λ z. L z (a ++ marking seen Access site) (errs (error UseAfterFree) site) heap) (o _ _ _ k))
      (λ n cells k. earlier a _ (λ z. Uses seen types D (value_at cells field.0) site (a ++ marking seen Access site) heap (L z)) (uses_to (value_at cells field.0) site (a ++ marking seen Access site) heap K L o k)) h

  reaches_to : (v : Value) (b : TypeId) (site : Site) (a : List E) (heap : HeapMap) (err : List E → Halt → Site → HeapMap → Type 0) (err' : X → List E → Halt → Site → HeapMap → Type 0) (f : List E → HeapMap → Type 0) (g : X → List E → HeapMap → Type 0) →
      ToErr err err' → ToOn f g → Reaches seen types C v b site a heap err f → Pick a (λ z. Reaches seen types D v b site a heap (err' z) (g z))
  reaches_to v b site a heap err err' f g oe o h =
      pointer_pick (At a) heap b.0 v (err (a ++ marking seen Access site) (error NullDereference) site heap) (λ q. err' q.1 (a ++ marking seen Access site) (error NullDereference) site heap)
      (err (a ++ marking seen Access site) (error UseAfterFree) site heap) (λ q. err' q.1 (a ++ marking seen Access site) (error UseAfterFree) site heap)
      (λ n cells. f (a ++ marking seen Access site) heap) (λ q n cells. g q.1 (a ++ marking seen Access site) heap)
      (λ k. earlier a _ (λ z. err' z (a ++ marking seen Access site) (error NullDereference) site heap) (oe.to _ _ _ _ k))
      (λ k. earlier a _ (λ z. err' z (a ++ marking seen Access site) (error UseAfterFree) site heap) (oe.to _ _ _ _ k))
      (λ n cells k. earlier a _ (λ z. g z (a ++ marking seen Access site) heap) (o _ _ k)) h

  stores_to : (v : Value) (field : FieldId) (b : TypeId) (site : Site) (u : Value) (l : Locals) (a : List E) (heap : HeapMap) (K : Exits E) (L : X → Exits E) → ToExits K L →
      Stores seen types C v field b site u l a heap K → Pick a (λ z. Stores seen types D v field b site u l a heap (L z))
  stores_to v field b site u l a heap K L o h =
      pointer_pick (At a) heap b.0 v (K (a ++ marking seen Access site) (fails (error NullDereference) site) l heap) (λ q. L q.1 (a ++ marking seen Access site) (fails (error NullDereference) site) l heap)
      (K (a ++ marking seen Access site) (fails (error UseAfterFree) site) l heap) (λ q. L q.1 (a ++ marking seen Access site) (fails (error UseAfterFree) site) l heap)
      (λ n cells. K (a ++ marking seen Access site) falls l (with_block heap n (live_block b.0 (slice_set cells field.0 u))))
      (λ q n cells. L q.1 (a ++ marking seen Access site) falls l (with_block heap n (live_block b.0 (slice_set cells field.0 u))))
      (λ k. earlier a _ (λ z. L z (a ++ marking seen Access site) (fails (error NullDereference) site) l heap) (o _ _ _ _ k))
      (λ k. earlier a _ (λ z. L z (a ++ marking seen Access site) (fails (error UseAfterFree) site) l heap) (o _ _ _ _ k))
      (λ n cells k. earlier a _ (λ z. L z (a ++ marking seen Access site) falls l (with_block heap n (live_block b.0 (slice_set cells field.0 u)))) (o _ _ _ _ k)) h

  frees_to : (v : Value) (b : TypeId) (site : Site) (l : Locals) (a : List E) (heap : HeapMap) (K : Exits E) (L : X → Exits E) → ToExits K L → Frees seen types C v b site l a heap K → Pick a (λ z. Frees seen types D v b site l a heap (L z))
  frees_to v b site l a heap K L o h =
      pointer_pick (At a) heap b.0 v (K (a ++ marking seen FreeNull site) falls l heap) (λ q. L q.1 (a ++ marking seen FreeNull site) falls l heap)
      (K (a ++ marking seen Freed site) (fails (error DoubleFree) site) l heap) (λ q. L q.1 (a ++ marking seen Freed site) (fails (error DoubleFree) site) l heap)
      (λ n cells. K (a ++ marking seen Freed site) falls l (with_block heap n (freed_block b.0))) (λ q n cells. L q.1 (a ++ marking seen Freed site) falls l (with_block heap n (freed_block b.0)))
      (λ k. earlier a _ (λ z. L z (a ++ marking seen FreeNull site) falls l heap) (o _ _ _ _ k))
      (λ k. earlier a _ (λ z. L z (a ++ marking seen Freed site) (fails (error DoubleFree) site) l heap) (o _ _ _ _ k))
      (λ n cells k. earlier a _ (λ z. L z (a ++ marking seen Freed site) falls l (with_block heap n (freed_block b.0))) (o _ _ _ _ k)) h

  -- ---- calls

  longer : (m : E) (a first rest whole : List E) → whole ≡ first ++ rest → Begins t (a ++ (m ∷ whole)) → Begins t (a ++ (m ∷ first))
  longer m a first rest whole e b = shorter t (a ++ (m ∷ first)) rest (subst (Begins t) (ap (λ z. a ++ (m ∷ z)) e ∙ sym (append_assoc a (m ∷ first) rest)) b)

  returns_to : (proc : ProcId) (site : Site) (a u : List E) (heap : HeapMap) (err : List E → Halt → Site → HeapMap → Type 0) (err' : X → List E → Halt → Site → HeapMap → Type 0) (f : List E → Value → HeapMap → Type 0) (g : X → List E → Value → HeapMap → Type 0) (ending : Ending) →
      ToErr err err' → To f g → Returns seen types C proc site a u heap err f ending → Pick a (λ z. Returns seen types D proc site a u heap (err' z) (g z) ending)
  returns_to proc site a u heap err err' f g (Returned v) oe o h = earlier a _ (λ z. g z (a ++ (marking seen (Enter proc) site ++ (u ++ marking seen Leave site))) v heap) (o _ _ _ h)
  returns_to proc site a u heap err err' f g (Failed kind at) oe o h = earlier a _ (λ z. err' z (a ++ (marking seen (Enter proc) site ++ u)) kind at heap) (oe.to _ _ _ _ h)

  -- t begins with what was seen of the caller, and of the callee up to there
  begun : (proc : ProcId) (site : Site) (a u first more : List E) (heap : HeapMap) (err : List E → Halt → Site → HeapMap → Type 0) (err' : X → List E → Halt → Site → HeapMap → Type 0) (f : List E → Value → HeapMap → Type 0) (g : X → List E → Value → HeapMap → Type 0) (ending : Ending) →
      ToErr err err' → To f g → u ≡ first ++ more → Returns seen types C proc site a u heap err f ending → Begins t (a ++ (marking seen (Enter proc) site ++ first))
  begun proc site a u first more heap err err' f g (Returned v) oe o e h =
      let ((b, z), r) = o _ _ _ h in
      longer _ a first (more ++ marking seen Leave site) (u ++ marking seen Leave site) (ap (λ z. z ++ marking seen Leave site) e ∙ append_assoc first more (marking seen Leave site)) b
  begun proc site a u first more heap err err' f g (Failed kind at) oe o e h = let ((b, z), r) = oe.to _ _ _ _ h in longer _ a first more u e b

  call_to : (proc : ProcId) (site : Site) (vs : List Value) (a : List E) (heap : HeapMap) (err : List E → Halt → Site → HeapMap → Type 0) (err' : X → List E → Halt → Site → HeapMap → Type 0) (f : List E → Value → HeapMap → Type 0) (g : X → List E → Value → HeapMap → Type 0) →
      ToErr err err' → To f g → CallsProcedure seen types C proc site vs a heap err f → Pick a (λ z. CallsProcedure seen types D proc site vs a heap (err' z) (g z))
  call_to proc site vs a heap err err' f g oe o (u, ending, heap', c, h) = by (split proc.0 vs heap u ending heap' c)
    where
      by : Splits M N D proc.0 vs heap u ending heap' → Pick a (λ z. CallsProcedure seen types D proc site vs a heap (err' z) (g z))
      by (inl d) = let (q, r) = returns_to proc site a u heap' err err' f g ending oe o h in (q, (u, ending, heap', d, r))
      by (inr (inl (m, (first, more, w, s, there, e, d)))) =
          let b = begun proc site a u first more heap' err err' f g ending oe o e h in
          let (z, r) = oe.cut m (a ++ (marking seen (Enter proc) site ++ first)) w s there b in
          ((shorter t a _ b, z), (first, Failed (outside w) s, there, d, r))
      by (inr (inr (n, (w, s, e)))) = absurd (oe.never n _ w s heap' (subst (Returns seen types C proc site a u heap' err f) e h))

  branches_to : (Yes No : Type 0) (site : Site) (a : List E) (heap : HeapMap) (K : Verdicts E) (L : X → Verdicts E) → To K L → Branches seen types C Yes No site a heap K → Pick a (λ z. Branches seen types D Yes No site a heap (L z))
  branches_to Yes No site a heap K L o (inl h) = let (q, r) = earlier a _ (λ z. L z (a ++ marking seen Then site) yes heap) (o _ _ _ h.1) in (q, inl (h.0, r))
  branches_to Yes No site a heap K L o (inr h) = let (q, r) = earlier a _ (λ z. L z (a ++ marking seen Else site) no heap) (o _ _ _ h.1) in (q, inr (h.0, r))

  -- ---- expressions and conditions

  mutual
    eval_to : (e : Expression) (l : Locals) (a : List E) (heap : HeapMap) (K : Outcomes E) (L : X → Outcomes E) → To K L → AtErrors K L → Evaluates seen types C e l a heap K → Pick a (λ z. Evaluates seen types D e l a heap (L z))
    eval_to (constant z) l a heap K L o oe h = o _ _ _ h
    eval_to null l a heap K L o oe h = o _ _ _ h
    eval_to (local n site) l a heap K L o oe h = uses_to (l n) site a heap K L o h
    eval_to (negated e) l a heap K L o oe h =
        eval_to e l a heap (with_value K (λ a x h. IsSomeAnd (result_of Neg x (Word (pos 0))) (λ v. K a (gives v) h))) (λ z. with_value (L z) (λ a x h. IsSomeAnd (result_of Neg x (Word (pos 0))) (λ v. L z a (gives v) h)))
        (value_to K L _ _ o (λ a x h. some_pick (At a) (result_of Neg x (Word (pos 0))) (λ v. K a (gives v) h) (λ q v. L q.1 a (gives v) h) (λ v. o a (gives v) h))) oe h
    eval_to (arithmetic op c d) l a heap K L o oe h =
        eval_to c l a heap _ _ (value_to K L _ _ o (λ a x h. eval_to d l a h _ _ (value_to K L _ _ o (λ a y h.
        calculates_to op x y a h K L o)) oe)) oe h
    eval_to (truth c) l a heap K L o oe h =
        test_to c l a heap _ _ (verdict_to (errors K) (λ z. errors (L z)) _ _ _ _ oe (λ a h. o a (gives (Word (pos 1))) h) (λ a h. o a (gives (Word (pos 0))) h)) oe h
    eval_to (cell e field b site) l a heap K L o oe h = eval_to e l a heap _ _ (value_to K L _ _ o (λ a x h. loads_to x field b site a h K L o)) oe h
    eval_to (allocate b site) l a heap K L o oe (inl h) = let (q, r) = earlier a _ (λ z. L z (a ++ marking seen NoBlock site) (gives _) heap) (o _ _ _ h) in (q, inl r)
    eval_to (allocate b site) l a heap K L o oe (inr (n, out, h)) = let (q, r) = earlier a (seen (makes site n) ∷ []) (λ z. L z (a ++ seen (makes site n) ∷ []) (gives _) _) (o _ _ _ h) in (q, inr (n, out, r))
    eval_to (get_char site) l a heap K L o oe (i, low, high, h) = let (q, r) = earlier a (seen (reads site i) ∷ []) (λ z. L z (a ++ seen (reads site i) ∷ []) (gives (Word i)) heap) (o _ _ _ h) in (q, (i, low, high, r))
    eval_to (call proc es result site) l a heap K L o oe h =
        all_to es l a heap (errors K) (λ z. errors (L z)) _ _ oe (λ a vs h. call_to proc site vs a h (errors K) (λ z. errors (L z)) _ _ oe (λ a v h. uses_to v site a h K L o)) h
    eval_to (stop number site es) l a heap K L o oe h =
        passes_to es l a heap (errors K) (λ z. errors (L z)) _ _ oe (λ a h. o a (errs (outside number) site) h) h

    all_to : (es : Arguments) (l : Locals) (a : List E) (heap : HeapMap) (err : List E → Halt → Site → HeapMap → Type 0) (err' : X → List E → Halt → Site → HeapMap → Type 0) (f : List E → List Value → HeapMap → Type 0) (g : X → List E → List Value → HeapMap → Type 0) →
        ToErr err err' → To f g → EvaluatesAll seen types C es l a heap err f → Pick a (λ z. EvaluatesAll seen types D es l a heap (err' z) (g z))
    all_to no_arguments l a heap err err' f g oe o h = o _ _ _ h
    all_to (an_argument (passed e) rest) l a heap err err' f g oe o h =
        eval_to e l a heap _ _ (outcome_to err err' _ _ oe (λ a v h. all_to rest l a h err err' _ _ oe (λ a vs h. o a (v ∷ vs) h))) oe h
    all_to (an_argument (erased parts) rest) l a heap err err' f g oe o h =
        passes_to parts l a heap err err' _ _ oe (λ a h. all_to rest l a h err err' f g oe o) h

    passes_to : (es : Expressions) (l : Locals) (a : List E) (heap : HeapMap) (err : List E → Halt → Site → HeapMap → Type 0) (err' : X → List E → Halt → Site → HeapMap → Type 0) (f : List E → HeapMap → Type 0) (g : X → List E → HeapMap → Type 0) →
        ToErr err err' → ToOn f g → PassesAll seen types C es l a heap err f → Pick a (λ z. PassesAll seen types D es l a heap (err' z) (g z))
    passes_to no_expressions l a heap err err' f g oe o h = o _ _ h
    passes_to (an_expression (local n site) rest) l a heap err err' f g oe o h = passes_to rest l a heap err err' f g oe o h
    passes_to (an_expression (cell e field b site) rest) l a heap err err' f g oe o h =
        eval_to e l a heap _ _ (outcome_to err err' _ _ oe (λ a x h. reaches_to x b site a h err err' _ _ oe (λ a h. passes_to rest l a h err err' f g oe o))) oe h
    passes_to (an_expression (call proc es result site) rest) l a heap err err' f g oe o h =
        all_to es l a heap err err' _ _ oe (λ a vs h. call_to proc site vs a h err err' _ _ oe (λ a v h. passes_to rest l a h err err' f g oe o)) h
    passes_to (an_expression e rest) l a heap err err' f g oe o h =
        eval_to e l a heap _ _ (outcome_to err err' _ _ oe (λ a v h. passes_to rest l a h err err' f g oe o)) oe h

    test_to : (c : Condition) (l : Locals) (a : List E) (heap : HeapMap) (K : Verdicts E) (L : X → Verdicts E) → To K L → AtFaults K L → Tests seen types C c l a heap K → Pick a (λ z. Tests seen types D c l a heap (L z))
    test_to (compare r c d site) l a heap K L o oe h =
        eval_to c l a heap _ _ (outcome_to (faults K) (λ z. faults (L z)) _ _ oe (λ a x h.
        eval_to d l a h _ _ (outcome_to (faults K) (λ z. faults (L z)) _ _ oe (λ a y h. branches_to _ _ site a h K L o)) oe)) oe h
    test_to (word e site) l a heap K L o oe h = eval_to e l a heap _ _ (outcome_to (faults K) (λ z. faults (L z)) _ _ oe (λ a y h. branches_to _ _ site a h K L o)) oe h
    test_to (pointer e site) l a heap K L o oe h = eval_to e l a heap _ _ (outcome_to (faults K) (λ z. faults (L z)) _ _ oe (λ a y h. branches_to _ _ site a h K L o)) oe h
    test_to (both c d) l a heap K L o oe h = test_to c l a heap _ _ (verdict_to (faults K) (λ z. faults (L z)) _ _ _ _ oe (λ a h. test_to d l a h K L o oe) (λ a h. o a no h)) oe h
    test_to (either c d) l a heap K L o oe h = test_to c l a heap _ _ (verdict_to (faults K) (λ z. faults (L z)) _ _ _ _ oe (λ a h. o a yes h) (λ a h. test_to d l a h K L o oe)) oe h
    test_to (opposite c) l a heap K L o oe h = test_to c l a heap _ _ (verdict_to (faults K) (λ z. faults (L z)) _ _ _ _ oe (λ a h. o a no h) (λ a h. o a yes h)) oe h

  -- ---- statements

  takes_to : (e : Expression) (l : Locals) (a : List E) (heap : HeapMap) (K : Exits E) (L : X → Exits E) (f : List E → Value → HeapMap → Type 0) (g : X → List E → Value → HeapMap → Type 0) → AtFailures K L → To f g →
      Takes seen types C e l a heap K f → Pick a (λ z. Takes seen types D e l a heap (L z) (g z))
  takes_to e l a heap K L f g oe m h = eval_to e l a heap _ _ (outcome_to (failing seen types C l K) (λ z. failing seen types D l (L z)) f g (oe l) m) (oe l) h

  declares_to : (n : ℕ) (e : Option Expression) (l : Locals) (a : List E) (heap : HeapMap) (K : Exits E) (L : X → Exits E) → ToExits K L → AtFailures K L → Declares seen types C n e l a heap K → Pick a (λ z. Declares seen types D n e l a heap (L z))
  declares_to n None l a heap K L o oe h = o _ _ _ _ h
  declares_to n (Some e) l a heap K L o oe h = takes_to e (with_local l n Unwritten) a heap K L _ _ oe (λ a v h. o a falls (with_local (with_local l n Unwritten) n v) h) h

  assigns_to : (p : Place) (e : Expression) (l : Locals) (a : List E) (heap : HeapMap) (K : Exits E) (L : X → Exits E) → ToExits K L → AtFailures K L → Assigns seen types C p e l a heap K → Pick a (λ z. Assigns seen types D p e l a heap (L z))
  assigns_to (local_place n at) e l a heap K L o oe h = takes_to e l a heap K L _ _ oe (λ a v h. o a falls (with_local l n v) h) h
  assigns_to (cell_place p field b site) e l a heap K L o oe h =
      takes_to p l a heap K L _ _ oe (λ a x h. takes_to e l a h K L _ _ oe (λ a v h. stores_to x field b site v l a h K L o)) h

  updates_to : (op : Arithmetic) (p : Place) (e : Expression) (l : Locals) (a : List E) (heap : HeapMap) (K : Exits E) (L : X → Exits E) → ToExits K L → AtFailures K L → Updates seen types C op p e l a heap K → Pick a (λ z. Updates seen types D op p e l a heap (L z))
  updates_to op (local_place n at) e l a heap K L o oe h =
      uses_to (l n) at a heap _ _ (outcome_to (failing seen types C l K) (λ z. failing seen types D l (L z)) _ _ (oe l) (λ a x h.
      takes_to e l a h K L _ _ oe (λ a y h.
      calculates_to op x y a h _ _ (outcome_to (failing seen types C l K) (λ z. failing seen types D l (L z)) _ _ (oe l) (λ a v h. o a falls (with_local l n v) h))))) h
  updates_to op (cell_place p field b site) e l a heap K L o oe h =
      takes_to p l a heap K L _ _ oe (λ a place h. loads_to place field b site a h _ _ (outcome_to (failing seen types C l K) (λ z. failing seen types D l (L z)) _ _ (oe l) (λ a x h.
      takes_to e l a h K L _ _ oe (λ a y h.
      calculates_to op x y a h _ _ (outcome_to (failing seen types C l K) (λ z. failing seen types D l (L z)) _ _ (oe l) (λ a v h. stores_to place field b site v l a h K L o)))))) h

  tests_if_to : (c : Option Condition) (l : Locals) (a : List E) (heap : HeapMap) (K : Verdicts E) (L : X → Verdicts E) → To K L → AtFaults K L → TestsIf seen types C c l a heap K → Pick a (λ z. TestsIf seen types D c l a heap (L z))
  tests_if_to None l a heap K L o oe h = o _ _ _ h
  tests_if_to (Some c) l a heap K L o oe h = test_to c l a heap K L o oe h

  gives_to : (e : Option Expression) (l : Locals) (a : List E) (heap : HeapMap) (K : Exits E) (L : X → Exits E) → ToExits K L → AtFailures K L → GivesBack seen types C e l a heap K → Pick a (λ z. GivesBack seen types D e l a heap (L z))
  gives_to None l a heap K L o oe h = o _ _ _ _ h
  gives_to (Some e) l a heap K L o oe h = takes_to e l a heap K L _ _ oe (λ a v h. o a (returns v) l h) h

  module _ (bound : Option ℕ) where
    abbrev ToAll : (Locals → List E → HeapMap → Exits E → Type 0) → (Locals → List E → HeapMap → Exits E → Type 0) → Type 1
    ToAll V Y = (l : Locals) (a : List E) (heap : HeapMap) (K : Exits E) (L : X → Exits E) → ToExits K L → AtFailures K L → V l a heap K → Pick a (λ z. Y l a heap (L z))

    loops_to : (n made : ℕ) (site : Site) (c : Option Condition) (body after_body body' after_body' : Locals → List E → HeapMap → Exits E → Type 0) → ToAll body body' → ToAll after_body after_body' →
        ToAll (Loops seen types C bound n made site c body after_body) (Loops seen types D bound n made site c body' after_body')
    loops_to zero made site c body after_body body' after_body' m f l a heap K L o oe h = absurd h
    loops_to (suc n) made site c body after_body body' after_body' m f l a heap K L o oe h =
        tests_if_to c l a heap _ _ (verdict_to (failing seen types C l K) (λ z. failing seen types D l (L z)) _ _ _ _ (oe l)
        (λ a h k. let (q, r) = earlier a (marking seen Iter site) _ (m l (a ++ marking seen Iter site) h _ _ (body_to K L _ _ o (λ a l h. f l a h _ _ (fall_to K L _ _ o
        (λ a l h. loops_to n (suc made) site c body after_body body' after_body' m f l a h K L o oe)) oe)) oe k.1) in (q, (k.0, r)))
        (λ a h k. earlier a (marking seen Done site) (λ z. L z (a ++ marking seen Done site) falls l h) (o (a ++ marking seen Done site) falls l h k))) (oe l) h

    mutual
      pub runs_to : (n : ℕ) (x : Statement) → ToAll (Executes seen types C bound n x) (Executes seen types D bound n x)
      runs_to n (block ss) l a heap K L o oe h = all_runs_to n ss l a heap K L o oe h
      runs_to n (declare i e) l a heap K L o oe h = declares_to i e l a heap K L o oe h
      runs_to n (assign p e) l a heap K L o oe h = assigns_to p e l a heap K L o oe h
      runs_to n (update op p e) l a heap K L o oe h = updates_to op p e l a heap K L o oe h
      runs_to n (run_call proc es site) l a heap K L o oe h =
          all_to es l a heap (failing seen types C l K) (λ z. failing seen types D l (L z)) _ _ (oe l)
          (λ a vs h. call_to proc site vs a h (failing seen types C l K) (λ z. failing seen types D l (L z)) (λ a v h. K a falls l h) (λ z a v h. L z a falls l h) (oe l) (λ a v h. o a falls l h)) h
      runs_to n (free e b site) l a heap K L o oe h = takes_to e l a heap K L _ _ oe (λ a v h. frees_to v b site l a h K L o) h
      runs_to n (input site) l a heap K L o oe h = takes_to (get_char site) l a heap K L _ _ oe (λ a v h. o a falls l h) h
      runs_to n (choose c first second) l a heap K L o oe h =
          test_to c l a heap _ _ (verdict_to (failing seen types C l K) (λ z. failing seen types D l (L z)) _ _ _ _ (oe l)
          (λ a h. runs_to n first l a h K L o oe) (λ a h. runs_to n second l a h K L o oe)) (oe l) h
      runs_to n (loop site c body after_body) l a heap K L o oe h =
          loops_to n 0 site c (Executes seen types C bound n body) (Executes seen types C bound n after_body) (Executes seen types D bound n body) (Executes seen types D bound n after_body)
          (runs_to n body) (runs_to n after_body) l a heap K L o oe h
      runs_to n break l a heap K L o oe h = o _ _ _ _ h
      runs_to n continue l a heap K L o oe h = o _ _ _ _ h
      runs_to n (return e) l a heap K L o oe h = gives_to e l a heap K L o oe h
      runs_to n (evaluate e) l a heap K L o oe h =
          passes_to (an_expression e no_expressions) l a heap (failing seen types C l K) (λ z. failing seen types D l (L z)) _ _ (oe l) (λ a h. o a falls l h) h
      runs_to n (access e parts field b site) l a heap K L o oe h =
          takes_to e l a heap K L _ _ oe (λ a x h. passes_to parts l a h (failing seen types C l K) (λ z. failing seen types D l (L z)) _ _ (oe l) (λ a h.
          reaches_to x b site a h (failing seen types C l K) (λ z. failing seen types D l (L z)) (λ a h. K a falls l h) (λ z a h. L z a falls l h) (oe l) (λ a h. o a falls l h))) h

      all_runs_to : (n : ℕ) (ss : Statements) → ToAll (ExecutesAll seen types C bound n ss) (ExecutesAll seen types D bound n ss)
      all_runs_to n no_statements l a heap K L o oe h = o _ _ _ _ h
      all_runs_to n (a_statement x rest) l a heap K L o oe h =
          runs_to n x l a heap _ _ (fall_to K L _ _ o (λ a l h. all_runs_to n rest l a h K L o oe)) oe h
