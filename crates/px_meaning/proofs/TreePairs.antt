-- Two executions of a tree from one state are one, where both go on in the same way.
use Rattle.std.proofs.Common.{◌≡◌, ℕ, Option, Some, None, List, [], ◌∷◌, ◌++◌, sym, ap, ◌∙◌, subst, inl, inr, pos, IsSomeAnd, append_assoc}
use Rattle.std.proofs.lemmas.List.{append_cancel_left}
use Rattle.px_base.specs.declared.trace.Site.{Site}
use Rattle.px_base.specs.declared.trace.Kind.TheVariants.{NullDereference, UseAfterFree, UninitialisedRead}
use Rattle.px_base.specs.declared.trace.MarkKind.{MarkKind}
use Rattle.px_base.specs.declared.trace.MarkKind.TheVariants.{Then, Else, NoBlock, Access, Enter, Leave}
use Rattle.px_base.specs.declared.trace.ProcId.{ProcId}
use Rattle.px_base.specs.declared.trace.FieldId.{FieldId}
use Rattle.px_core.specs.declared.command.Operator.TheVariants.{Neg}
use Rattle.px_meaning.specs.Values.{TypeId, BlockType, Value, Word, Null, Block, Unwritten}
use Rattle.px_meaning.specs.Heaps.{HeapMap, HeapBlockState, with_block}
use Rattle.px_meaning.specs.Heaps as heap
use Rattle.px_meaning.specs.Calls.{Halt, error, outside, Ending, Returned, Failed}
use Rattle.px_meaning.specs.Execution.{Locals}
use Rattle.px_meaning.specs.Events.{Event, marks, reads, makes, mark}
use Rattle.px_meaning.specs.Operations.{value_at, result_of, on_words}
use Rattle.px_meaning.specs.Steps.{ProcedureCalls, marking, by_state, by_pointer, by_written, new_block}
use Rattle.px_syntax.specs.TypedTree.{Expression, constant, null, local, negated, arithmetic, truth, cell, allocate, get_char, call, stop, Expressions, no_expressions, an_expression, Arguments, no_arguments, an_argument, passed, erased, Condition, compare, word, pointer, both, either, opposite}
use Rattle.px_syntax.specs.declared.typed_expression.Arithmetic.{Arithmetic}
use Rattle.px_meaning.specs.TreeExecution.{gives, errs, Outcomes, with_value, by_outcome, yes, no, fault, Verdicts, with_verdict, Uses, Loads, calculation, Calculates, Reaches, Returns, CallsProcedure, Branches, Evaluates, EvaluatesAll, PassesAll, Tests}
use Rattle.px_meaning.proofs.Taken.{some_to}
use Rattle.px_meaning.proofs.Pairs.{Agree, first_or, rest_of, number_in, input_in, returned}
use Rattle.px_meaning.proofs.RenamedSteps.{differ}
use Rattle.px_meaning.proofs.TreeBegins.{Begins, Opens, OpensErr, OpensOn, value_opens, outcome_opens, verdict_opens, uses_begin, loads_begin, calculates_begin, reaches_begin, call_begins, branches_begin, eval_begins, all_begin, passes_begin, test_begins}

abbrev pub see : Event → Event
see e = e

module _ (R : Type 0) where
  -- where one goal holds, so does the other, and R holds
  abbrev pub Both : {X : Type 0} → (List Event → X → HeapMap → Type 0) → (List Event → X → HeapMap → Type 0) → Type 0
  Both {X} G G' = (a : List Event) (x : X) (h : HeapMap) → G a x h → G' a x h → R

  abbrev pub BothErr : (List Event → Halt → Site → HeapMap → Type 0) → (List Event → Halt → Site → HeapMap → Type 0) → Type 0
  BothErr G G' = (a : List Event) (kind : Halt) (site : Site) (h : HeapMap) → G a kind site h → G' a kind site h → R

  abbrev pub BothOn : (List Event → HeapMap → Type 0) → (List Event → HeapMap → Type 0) → Type 0
  BothOn G G' = (a : List Event) (h : HeapMap) → G a h → G' a h → R

  pub value_both : (K L : Outcomes Event) (f g : List Event → Value → HeapMap → Type 0) → Both K L → Both f g → Both (with_value K f) (with_value L g)
  value_both K L f g on fg a (gives v) h k k' = fg a v h k k'
  value_both K L f g on fg a (errs kind site) h k k' = on a (errs kind site) h k k'

  pub outcome_both : (err err' : List Event → Halt → Site → HeapMap → Type 0) (f g : List Event → Value → HeapMap → Type 0) → BothErr err err' → Both f g → Both (by_outcome err f) (by_outcome err' g)
  outcome_both err err' f g on fg a (gives v) h k k' = fg a v h k k'
  outcome_both err err' f g on fg a (errs kind site) h k k' = on a kind site h k k'

  pub verdict_both : (err err' : List Event → Halt → Site → HeapMap → Type 0) (f f' g g' : List Event → HeapMap → Type 0) → BothErr err err' → BothOn f f' → BothOn g g' →
      Both (with_verdict err f g) (with_verdict err' f' g')
  verdict_both err err' f f' g g' on ff gg a yes h k k' = ff a h k k'
  verdict_both err err' f f' g g' on ff gg a no h k k' = gg a h k k'
  verdict_both err err' f f' g g' on ff gg a (fault kind site) h k k' = on a kind site h k k'

  pub some_two : {A : Type 0} (o : Option A) (P Q : A → Type 0) → ((a : A) → P a → Q a → R) → IsSomeAnd o P → IsSomeAnd o Q → R
  some_two None P Q f h k = absurd h
  some_two (Some a) P Q f h k = f a h k

  pub written_two : (v : Value) (X X' Y Y' : Type 0) → (X → X' → R) → (Y → Y' → R) → by_written v X Y → by_written v X' Y' → R
  written_two (Word z) X X' Y Y' f g h k = f h k
  written_two Null X X' Y Y' f g h k = f h k
  written_two (Block n) X X' Y Y' f g h k = f h k
  written_two Unwritten X X' Y Y' f g h k = g h k

  state_two : (s : HeapBlockState) (F F' : Type 0) (G G' : List Value → Type 0) → (F → F' → R) → ((cells : List Value) → G cells → G' cells → R) → by_state s F G → by_state s F' G' → R
  state_two (heap.Live cells) F F' G G' f g h k = g cells h k
  state_two heap.Freed F F' G G' f g h k = f h k

  pub pointer_two : (heap : HeapMap) (t : ℕ) (v : Value) (N N' F F' : Type 0) (G G' : ℕ → List Value → Type 0) →
      (N → N' → R) → (F → F' → R) → ((n : ℕ) (cells : List Value) → G n cells → G' n cells → R) → by_pointer heap t v N F G → by_pointer heap t v N' F' G' → R
  pointer_two heap t (Word z) N N' F F' G G' n f g h k = absurd h
  pointer_two heap t Null N N' F F' G G' n f g h k = n h k
  pointer_two heap t (Block b) N N' F F' G G' n f g h k =
      some_two (heap b) (λ c. (c.block_type ≡ t) × by_state c.state F (G b)) (λ c. (c.block_type ≡ t) × by_state c.state F' (G' b))
      (λ c h k. state_two c.state F F' (G b) (G' b) f (g b) h.1 k.1) h k
  pointer_two heap t Unwritten N N' F F' G G' n f g h k = absurd h

module _ (types : List BlockType) (C D : ProcedureCalls Event) (agree : Agree C D) (s t p q : List Event) (eq : s ++ p ≡ t ++ q) (R : Type 0) where
  -- what is seen after the same beginning goes on in the same way
  pub apart : (so_far m n : List Event) → Begins s (so_far ++ m) → Begins t (so_far ++ n) → (r : List Event) × (u : List Event) × (m ++ r ≡ n ++ u)
  apart so_far m n (r, e) (u, f) = (
    r ++ p,
    u ++ q,
    append_cancel_left so_far (m ++ (r ++ p)) (n ++ (u ++ q))
        (sym (whole so_far m r p) ∙ (ap (λ x. x ++ p) (sym e) ∙ (eq ∙ (ap (λ x. x ++ q) f ∙ whole so_far n u q)))),
  )
    where
      whole : (so_far a r p : List Event) → ((so_far ++ a) ++ r) ++ p ≡ so_far ++ (a ++ (r ++ p))
      whole so_far a r p = append_assoc (so_far ++ a) r p ∙ append_assoc so_far a (r ++ p)

  -- different marks can't both be
  pub not_apart : (so_far : List Event) (j k : MarkKind) (site : Site) → (j ≡ k → ⊥) → Begins s (so_far ++ marking see j site) → Begins t (so_far ++ marking see k site) → R
  not_apart so_far j k site f b c = let (r, u, e) = apart so_far (marking see j site) (marking see k site) b c in absurd (differ j k site site r u f e)

  pub uses_pair : (v : Value) (site : Site) (so_far : List Event) (heap : HeapMap) (K L : Outcomes Event) → Both R K L → Uses see types C v site so_far heap K → Uses see types D v site so_far heap L → R
  uses_pair v site so_far heap K L on h h' =
      written_two R v (K so_far (gives v) heap) (L so_far (gives v) heap) (K so_far (errs (error UninitialisedRead) site) heap) (L so_far (errs (error UninitialisedRead) site) heap) (on _ _ _) (on _ _ _) h h'

  pub loads_pair : (v : Value) (field : FieldId) (b : TypeId) (site : Site) (so_far : List Event) (heap : HeapMap) (K L : Outcomes Event) → Both R K L →
      Loads see types C v field b site so_far heap K → Loads see types D v field b site so_far heap L → R
  loads_pair v field b site so_far heap K L on h h' =
      pointer_two R heap b.0 v (K (so_far ++ marking see Access site) (errs (error NullDereference) site) heap) (L (so_far ++ marking see Access site) (errs (error NullDereference) site) heap)
      (K (so_far ++ marking see Access site) (errs (error UseAfterFree) site) heap) (L (so_far ++ marking see Access site) (errs (error UseAfterFree) site) heap)
      (λ n cells. Uses see types C (value_at cells field.0) site (so_far ++ marking see Access site) heap K) (λ n cells. Uses see types D (value_at cells field.0) site (so_far ++ marking see Access site) heap L)
      (on _ _ _) (on _ _ _) (λ n cells. uses_pair (value_at cells field.0) site (so_far ++ marking see Access site) heap K L on) h h'

  pub reaches_pair : (v : Value) (b : TypeId) (site : Site) (so_far : List Event) (heap : HeapMap) (err err' : List Event → Halt → Site → HeapMap → Type 0) (f f' : List Event → HeapMap → Type 0) → BothErr R err err' → BothOn R f f' →
      Reaches see types C v b site so_far heap err f → Reaches see types D v b site so_far heap err' f' → R
  reaches_pair v b site so_far heap err err' f f' be bf h h' =
      pointer_two R heap b.0 v (err (so_far ++ marking see Access site) (error NullDereference) site heap) (err' (so_far ++ marking see Access site) (error NullDereference) site heap)
      (err (so_far ++ marking see Access site) (error UseAfterFree) site heap) (err' (so_far ++ marking see Access site) (error UseAfterFree) site heap)
      (λ n cells. f (so_far ++ marking see Access site) heap) (λ n cells. f' (so_far ++ marking see Access site) heap)
      (be _ _ _ _) (be _ _ _ _) (λ n cells. bf _ _) h h'

  returns_pair : (proc : ProcId) (site : Site) (so_far u v : List Event) (m n : HeapMap) (err err' : List Event → Halt → Site → HeapMap → Type 0) (f f' : List Event → Value → HeapMap → Type 0) (d e : Ending) →
      OpensErr s err → OpensErr t err' → Opens s f → Opens t f' → BothErr R err err' → Both R f f' →
      ((x y : List Event) → u ++ x ≡ v ++ y → (u ≡ v) × (x ≡ y) × (d ≡ e) × (m ≡ n)) →
      Returns see types C proc site so_far u m err f d → Returns see types D proc site so_far v n err' f' e → R
  returns_pair proc site so_far u v m n err err' f f' (Returned x) (Returned y) oe oe' of of' be bf same h h' =
      let (r, w, e) = apart so_far (marks (mark (Enter proc) site) ∷ (u ++ marks (mark Leave site) ∷ [])) (marks (mark (Enter proc) site) ∷ (v ++ marks (mark Leave site) ∷ [])) (of _ _ _ h) (of' _ _ _ h') in
      let (uv, rest, xy, mn) = same (marks (mark Leave site) ∷ r) (marks (mark Leave site) ∷ w)
      (sym (append_assoc u (marks (mark Leave site) ∷ []) r) ∙ (ap rest_of e ∙ append_assoc v (marks (mark Leave site) ∷ []) w)) in
      let back : List Event → Value → HeapMap → Type 0 = λ v y n. f' (so_far ++ (marks (mark (Enter proc) site) ∷ (v ++ marks (mark Leave site) ∷ []))) y n in
      bf _ _ _ h (subst (λ z. back z x m) (sym uv) (subst (λ z. back v z m) (sym (ap (returned x) xy)) (subst (λ z. back v y z) (sym mn) h')))
  returns_pair proc site so_far u v m n err err' f f' (Failed kind at) (Failed kind' at') oe oe' of of' be bf same h h' =
      let (r, w, e) = apart so_far (marks (mark (Enter proc) site) ∷ u) (marks (mark (Enter proc) site) ∷ v) (oe _ _ _ _ h) (oe' _ _ _ _ h') in
      let (uv, rest, de, mn) = same r w (ap rest_of e) in
      let back : List Event → Ending → HeapMap → Type 0 = λ v d n. failed err' (so_far ++ (marks (mark (Enter proc) site) ∷ v)) d n in
      be _ _ _ _ h (subst (λ z. back z (Failed kind at) m) (sym uv) (subst (λ z. back v z m) (sym de) (subst (λ z. back v (Failed kind' at') z) (sym mn) h')))
    where
      failed : (List Event → Halt → Site → HeapMap → Type 0) → List Event → Ending → HeapMap → Type 0
      failed err a (Returned v) h = ⊥
      failed err a (Failed kind at) h = err a kind at h
  returns_pair proc site so_far u v m n err err' f f' (Returned x) (Failed kind at) oe oe' of of' be bf same h h' =
      let (r, w, e) = apart so_far (marks (mark (Enter proc) site) ∷ (u ++ marks (mark Leave site) ∷ [])) (marks (mark (Enter proc) site) ∷ v) (of _ _ _ h) (oe' _ _ _ _ h') in
      let (uv, rest, de, mn) = same (marks (mark Leave site) ∷ r) w (sym (append_assoc u (marks (mark Leave site) ∷ []) r) ∙ ap rest_of e) in
      let d : Returned x ≡ Failed kind at = de in cc
  returns_pair proc site so_far u v m n err err' f f' (Failed kind at) (Returned x) oe oe' of of' be bf same h h' =
      let (r, w, e) = apart so_far (marks (mark (Enter proc) site) ∷ u) (marks (mark (Enter proc) site) ∷ (v ++ marks (mark Leave site) ∷ [])) (oe _ _ _ _ h) (of' _ _ _ h') in
      let (uv, rest, de, mn) = same r (marks (mark Leave site) ∷ w) (ap rest_of e ∙ append_assoc v (marks (mark Leave site) ∷ []) w) in
      let d : Failed kind at ≡ Returned x = de in cc

  pub call_pair : (proc : ProcId) (site : Site) (vs : List Value) (so_far : List Event) (heap : HeapMap) (err err' : List Event → Halt → Site → HeapMap → Type 0) (f f' : List Event → Value → HeapMap → Type 0) →
      OpensErr s err → OpensErr t err' → Opens s f → Opens t f' → BothErr R err err' → Both R f f' →
      CallsProcedure see types C proc site vs so_far heap err f → CallsProcedure see types D proc site vs so_far heap err' f' → R
  call_pair proc site vs so_far heap err err' f f' oe oe' of of' be bf (u, d, m, c, h) (v, e, n, c', h') =
      returns_pair proc site so_far u v m n err err' f f' d e oe oe' of of' be bf (agree proc.0 vs heap u v d e m n c c') h h'

  branches_pair : (Yes No : Type 0) (site : Site) (so_far : List Event) (heap : HeapMap) (K L : Verdicts Event) → Opens s K → Opens t L → Both R K L →
      Branches see types C Yes No site so_far heap K → Branches see types D Yes No site so_far heap L → R
  branches_pair Yes No site so_far heap K L o o' on (inl h) (inl h') = on _ _ _ h.1 h'.1
  branches_pair Yes No site so_far heap K L o o' on (inr h) (inr h') = on _ _ _ h.1 h'.1
  branches_pair Yes No site so_far heap K L o o' on (inl h) (inr h') = not_apart so_far Then Else site (λ d. cc) (o _ _ _ h.1) (o' _ _ _ h'.1)
  branches_pair Yes No site so_far heap K L o o' on (inr h) (inl h') = not_apart so_far Else Then site (λ d. cc) (o _ _ _ h.1) (o' _ _ _ h'.1)

  pub calculates_pair : (op : Arithmetic) (x y : Value) (so_far : List Event) (heap : HeapMap) (K L : Outcomes Event) → Both R K L →
      Calculates see types C op x y so_far heap K → Calculates see types D op x y so_far heap L → R
  calculates_pair op x y so_far heap K L on h h' = some_two R (on_words (calculation op) x y) (λ r. K so_far r heap) (λ r. L so_far r heap) (λ r. on so_far r heap) h h'

  mutual
    pub eval_pair : (e : Expression) (l : Locals) (so_far : List Event) (heap : HeapMap) (K L : Outcomes Event) → Opens s K → Opens t L → Both R K L →
        Evaluates see types C e l so_far heap K → Evaluates see types D e l so_far heap L → R
    eval_pair (constant z) l so_far heap K L o o' on h h' = on _ _ _ h h'
    eval_pair null l so_far heap K L o o' on h h' = on _ _ _ h h'
    eval_pair (local n site) l so_far heap K L o o' on h h' = uses_pair (l n) site so_far heap K L on h h'
    eval_pair (negated e) l so_far heap K L o o' on h h' =
        eval_pair e l so_far heap _ _
        (value_opens s K _ o (λ a x h k. some_to (result_of Neg x (Word (pos 0))) (λ v. K a (gives v) h) (Begins s a) (λ v e. o a (gives v) h) k))
        (value_opens t L _ o' (λ a x h k. some_to (result_of Neg x (Word (pos 0))) (λ v. L a (gives v) h) (Begins t a) (λ v e. o' a (gives v) h) k))
        (value_both R K L _ _ on (λ a x h k k'. some_two R (result_of Neg x (Word (pos 0))) (λ v. K a (gives v) h) (λ v. L a (gives v) h) (λ v. on a (gives v) h) k k')) h h'
    eval_pair (arithmetic op c d) l so_far heap K L o o' on h h' =
        eval_pair c l so_far heap _ _
        (value_opens s K _ o (λ a x h k. eval_begins see types C s d l a h _ (value_opens s K _ o (λ a y h. calculates_begin see types C s op x y a h K o)) k))
        (value_opens t L _ o' (λ a x h k. eval_begins see types D t d l a h _ (value_opens t L _ o' (λ a y h. calculates_begin see types D t op x y a h L o')) k))
        (value_both R K L _ _ on (λ a x h k k'. eval_pair d l a h _ _
        (value_opens s K _ o (λ a y h. calculates_begin see types C s op x y a h K o))
        (value_opens t L _ o' (λ a y h. calculates_begin see types D t op x y a h L o'))
        (value_both R K L _ _ on (λ a y h k k'. calculates_pair op x y a h K L on k k')) k k')) h h'
    eval_pair (truth c) l so_far heap K L o o' on h h' =
        test_pair c l so_far heap _ _
        (verdict_opens s _ _ _ (λ a kind at h. o a (errs kind at) h) (λ a h. o a (gives (Word (pos 1))) h) (λ a h. o a (gives (Word (pos 0))) h))
        (verdict_opens t _ _ _ (λ a kind at h. o' a (errs kind at) h) (λ a h. o' a (gives (Word (pos 1))) h) (λ a h. o' a (gives (Word (pos 0))) h))
        (verdict_both R _ _ _ _ _ _ (λ a kind at h. on a (errs kind at) h) (λ a h. on a (gives (Word (pos 1))) h) (λ a h. on a (gives (Word (pos 0))) h)) h h'
    eval_pair (cell e field b site) l so_far heap K L o o' on h h' =
        eval_pair e l so_far heap _ _
        (value_opens s K _ o (λ a x h. loads_begin see types C s x field b site a h K o)) (value_opens t L _ o' (λ a x h. loads_begin see types D t x field b site a h L o'))
        (value_both R K L _ _ on (λ a x h. loads_pair x field b site a h K L on)) h h'
    eval_pair (allocate b site) l so_far heap K L o o' on (inl h) (inl h') = on _ _ _ h h'
    eval_pair (allocate b site) l so_far heap K L o o' on (inl h) (inr (n, out, h')) =
        let (r, u, e) = apart so_far (marks (mark NoBlock site) ∷ []) (makes site n ∷ []) (o _ _ _ h) (o' _ _ _ h') in
        let d : marks (mark NoBlock site) ≡ makes site n = ap (first_or (makes site n)) e in cc
    eval_pair (allocate b site) l so_far heap K L o o' on (inr (n, out, h)) (inl h') =
        let (r, u, e) = apart so_far (makes site n ∷ []) (marks (mark NoBlock site) ∷ []) (o _ _ _ h) (o' _ _ _ h') in
        let d : makes site n ≡ marks (mark NoBlock site) = ap (first_or (makes site n)) e in cc
    eval_pair (allocate b site) l so_far heap K L o o' on (inr (m, out, h)) (inr (n, out', h')) =
        let (r, u, e) = apart so_far (makes site m ∷ []) (makes site n ∷ []) (o _ _ _ h) (o' _ _ _ h') in
        let d : m ≡ n = ap (λ es. number_in (first_or (makes site m) es)) e in
        on _ _ _ h (subst (λ i. L (so_far ++ makes site i ∷ []) (gives (Block i)) (with_block heap i (new_block types b.0))) (sym d) h')
    eval_pair (get_char site) l so_far heap K L o o' on (y, low, high, h) (z, low', high', h') =
        let (r, u, e) = apart so_far (reads site y ∷ []) (reads site z ∷ []) (o _ _ _ h) (o' _ _ _ h') in
        let d : y ≡ z = ap (λ es. input_in (first_or (reads site y) es)) e in
        on _ _ _ h (subst (λ i. L (so_far ++ reads site i ∷ []) (gives (Word i)) heap) (sym d) h')
    eval_pair (call proc es result site) l so_far heap K L o o' on h h' =
        all_pair es l so_far heap _ _ _ _ (λ a kind at h. o a (errs kind at) h) (λ a kind at h. o' a (errs kind at) h)
        (λ a vs h. call_begins see types C s proc site vs a h _ _ (λ a kind at h. o a (errs kind at) h) (λ a v h. uses_begin see types C s v site a h K o))
        (λ a vs h. call_begins see types D t proc site vs a h _ _ (λ a kind at h. o' a (errs kind at) h) (λ a v h. uses_begin see types D t v site a h L o'))
        (λ a kind at h. on a (errs kind at) h)
        (λ a vs h. call_pair proc site vs a h _ _ _ _ (λ a kind at h. o a (errs kind at) h) (λ a kind at h. o' a (errs kind at) h)
        (λ a v h. uses_begin see types C s v site a h K o) (λ a v h. uses_begin see types D t v site a h L o') (λ a kind at h. on a (errs kind at) h) (λ a v h. uses_pair v site a h K L on)) h h'
    eval_pair (stop number site es) l so_far heap K L o o' on h h' =
        passes_pair es l so_far heap _ _ _ _ (λ a kind at h. o a (errs kind at) h) (λ a kind at h. o' a (errs kind at) h)
        (λ a h. o a (errs (outside number) site) h) (λ a h. o' a (errs (outside number) site) h) (λ a kind at h. on a (errs kind at) h) (λ a h. on a (errs (outside number) site) h) h h'

    pub all_pair : (es : Arguments) (l : Locals) (so_far : List Event) (heap : HeapMap) (err err' : List Event → Halt → Site → HeapMap → Type 0) (f f' : List Event → List Value → HeapMap → Type 0) →
        OpensErr s err → OpensErr t err' → Opens s f → Opens t f' → BothErr R err err' → Both R f f' →
        EvaluatesAll see types C es l so_far heap err f → EvaluatesAll see types D es l so_far heap err' f' → R
    all_pair no_arguments l so_far heap err err' f f' oe oe' of of' be bf h h' = bf _ _ _ h h'
    all_pair (an_argument (passed e) rest) l so_far heap err err' f f' oe oe' of of' be bf h h' =
        eval_pair e l so_far heap _ _
        (outcome_opens s err _ oe (λ a v h. all_begin see types C s rest l a h err _ oe (λ a vs h. of a (v ∷ vs) h)))
        (outcome_opens t err' _ oe' (λ a v h. all_begin see types D t rest l a h err' _ oe' (λ a vs h. of' a (v ∷ vs) h)))
        (outcome_both R err err' _ _ be (λ a v h. all_pair rest l a h err err' _ _ oe oe' (λ a vs h. of a (v ∷ vs) h) (λ a vs h. of' a (v ∷ vs) h) be (λ a vs h. bf a (v ∷ vs) h))) h h'
    all_pair (an_argument (erased parts) rest) l so_far heap err err' f f' oe oe' of of' be bf h h' =
        passes_pair parts l so_far heap err err' _ _ oe oe'
        (λ a h. all_begin see types C s rest l a h err f oe of) (λ a h. all_begin see types D t rest l a h err' f' oe' of') be
        (λ a h. all_pair rest l a h err err' f f' oe oe' of of' be bf) h h'

    pub passes_pair : (es : Expressions) (l : Locals) (so_far : List Event) (heap : HeapMap) (err err' : List Event → Halt → Site → HeapMap → Type 0) (f f' : List Event → HeapMap → Type 0) →
        OpensErr s err → OpensErr t err' → OpensOn s f → OpensOn t f' → BothErr R err err' → BothOn R f f' →
        PassesAll see types C es l so_far heap err f → PassesAll see types D es l so_far heap err' f' → R
    passes_pair no_expressions l so_far heap err err' f f' oe oe' of of' be bf h h' = bf _ _ h h'
    passes_pair (an_expression (local n site) rest) l so_far heap err err' f f' oe oe' of of' be bf h h' = passes_pair rest l so_far heap err err' f f' oe oe' of of' be bf h h'
    passes_pair (an_expression (cell e field b site) rest) l so_far heap err err' f f' oe oe' of of' be bf h h' =
        eval_pair e l so_far heap _ _
        (outcome_opens s err _ oe (λ a x h. reaches_begin see types C s x b site a h err _ oe (λ a h. passes_begin see types C s rest l a h err f oe of)))
        (outcome_opens t err' _ oe' (λ a x h. reaches_begin see types D t x b site a h err' _ oe' (λ a h. passes_begin see types D t rest l a h err' f' oe' of')))
        (outcome_both R err err' _ _ be (λ a x h. reaches_pair x b site a h err err' _ _ be (λ a h. passes_pair rest l a h err err' f f' oe oe' of of' be bf))) h h'
    passes_pair (an_expression (call proc es result site) rest) l so_far heap err err' f f' oe oe' of of' be bf h h' =
        all_pair es l so_far heap err err' _ _ oe oe'
        (λ a vs h. call_begins see types C s proc site vs a h err _ oe (λ a v h. passes_begin see types C s rest l a h err f oe of))
        (λ a vs h. call_begins see types D t proc site vs a h err' _ oe' (λ a v h. passes_begin see types D t rest l a h err' f' oe' of'))
        be
        (λ a vs h. call_pair proc site vs a h err err' _ _ oe oe' (λ a v h. passes_begin see types C s rest l a h err f oe of) (λ a v h. passes_begin see types D t rest l a h err' f' oe' of')
        be (λ a v h. passes_pair rest l a h err err' f f' oe oe' of of' be bf)) h h'
    passes_pair (an_expression e rest) l so_far heap err err' f f' oe oe' of of' be bf h h' =
        eval_pair e l so_far heap _ _
        (outcome_opens s err _ oe (λ a v h. passes_begin see types C s rest l a h err f oe of)) (outcome_opens t err' _ oe' (λ a v h. passes_begin see types D t rest l a h err' f' oe' of'))
        (outcome_both R err err' _ _ be (λ a v h. passes_pair rest l a h err err' f f' oe oe' of of' be bf)) h h'

    pub test_pair : (c : Condition) (l : Locals) (so_far : List Event) (heap : HeapMap) (K L : Verdicts Event) → Opens s K → Opens t L → Both R K L →
        Tests see types C c l so_far heap K → Tests see types D c l so_far heap L → R
    test_pair (compare r c d site) l so_far heap K L o o' on h h' =
        eval_pair c l so_far heap _ _
        (outcome_opens s _ _ (λ a kind at h. o a (fault kind at) h) (λ a x h. eval_begins see types C s d l a h _ (outcome_opens s _ _ (λ a kind at h. o a (fault kind at) h) (λ a y h. branches_begin see types C s _ _ site a h K o))))
        (outcome_opens t _ _ (λ a kind at h. o' a (fault kind at) h) (λ a x h. eval_begins see types D t d l a h _ (outcome_opens t _ _ (λ a kind at h. o' a (fault kind at) h) (λ a y h. branches_begin see types D t _ _ site a h L o'))))
        (outcome_both R _ _ _ _ (λ a kind at h. on a (fault kind at) h) (λ a x h. eval_pair d l a h _ _
        (outcome_opens s _ _ (λ a kind at h. o a (fault kind at) h) (λ a y h. branches_begin see types C s _ _ site a h K o))
        (outcome_opens t _ _ (λ a kind at h. o' a (fault kind at) h) (λ a y h. branches_begin see types D t _ _ site a h L o'))
        (outcome_both R _ _ _ _ (λ a kind at h. on a (fault kind at) h) (λ a y h. branches_pair _ _ site a h K L o o' on)))) h h'
    test_pair (word e site) l so_far heap K L o o' on h h' =
        eval_pair e l so_far heap _ _
        (outcome_opens s _ _ (λ a kind at h. o a (fault kind at) h) (λ a y h. branches_begin see types C s _ _ site a h K o))
        (outcome_opens t _ _ (λ a kind at h. o' a (fault kind at) h) (λ a y h. branches_begin see types D t _ _ site a h L o'))
        (outcome_both R _ _ _ _ (λ a kind at h. on a (fault kind at) h) (λ a y h. branches_pair _ _ site a h K L o o' on)) h h'
    test_pair (pointer e site) l so_far heap K L o o' on h h' =
        eval_pair e l so_far heap _ _
        (outcome_opens s _ _ (λ a kind at h. o a (fault kind at) h) (λ a y h. branches_begin see types C s _ _ site a h K o))
        (outcome_opens t _ _ (λ a kind at h. o' a (fault kind at) h) (λ a y h. branches_begin see types D t _ _ site a h L o'))
        (outcome_both R _ _ _ _ (λ a kind at h. on a (fault kind at) h) (λ a y h. branches_pair _ _ site a h K L o o' on)) h h'
    test_pair (both c d) l so_far heap K L o o' on h h' =
        test_pair c l so_far heap _ _
        (verdict_opens s _ _ _ (λ a kind at h. o a (fault kind at) h) (λ a h. test_begins see types C s d l a h K o) (λ a h. o a no h))
        (verdict_opens t _ _ _ (λ a kind at h. o' a (fault kind at) h) (λ a h. test_begins see types D t d l a h L o') (λ a h. o' a no h))
        (verdict_both R _ _ _ _ _ _ (λ a kind at h. on a (fault kind at) h) (λ a h. test_pair d l a h K L o o' on) (λ a h. on a no h)) h h'
    test_pair (either c d) l so_far heap K L o o' on h h' =
        test_pair c l so_far heap _ _
        (verdict_opens s _ _ _ (λ a kind at h. o a (fault kind at) h) (λ a h. o a yes h) (λ a h. test_begins see types C s d l a h K o))
        (verdict_opens t _ _ _ (λ a kind at h. o' a (fault kind at) h) (λ a h. o' a yes h) (λ a h. test_begins see types D t d l a h L o'))
        (verdict_both R _ _ _ _ _ _ (λ a kind at h. on a (fault kind at) h) (λ a h. on a yes h) (λ a h. test_pair d l a h K L o o' on)) h h'
    test_pair (opposite c) l so_far heap K L o o' on h h' =
        test_pair c l so_far heap _ _
        (verdict_opens s _ _ _ (λ a kind at h. o a (fault kind at) h) (λ a h. o a no h) (λ a h. o a yes h))
        (verdict_opens t _ _ _ (λ a kind at h. o' a (fault kind at) h) (λ a h. o' a no h) (λ a h. o' a yes h))
        (verdict_both R _ _ _ _ _ _ (λ a kind at h. on a (fault kind at) h) (λ a h. on a no h) (λ a h. on a yes h)) h h'
