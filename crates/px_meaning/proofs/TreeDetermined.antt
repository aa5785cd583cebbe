-- Events determine the executions of statements and the calls of trees.
use Rattle.std.proofs.Common.{◌≡◌, ℕ, zero, suc, Option, Some, None, List, [], ◌++◌, slice_set, sym, ap, ◌∙◌, append-nil}
use Rattle.std.proofs.lemmas.List.{append_cancel_left}
use Rattle.px_base.specs.declared.trace.Site.{Site}
use Rattle.px_base.specs.declared.trace.Kind.TheVariants.{NullDereference, UseAfterFree, DoubleFree}
use Rattle.px_base.specs.declared.trace.MarkKind.TheVariants.{Iter, Done, Access, Freed, FreeNull}
use Rattle.px_base.specs.declared.trace.FieldId.{FieldId}
use Rattle.px_meaning.specs.Values.{TypeId, BlockType, Value, Unwritten}
use Rattle.px_meaning.specs.Heaps.{HeapMap, with_block}
use Rattle.px_meaning.specs.Calls.{error, Ending, Returned, Failed}
use Rattle.px_meaning.specs.Execution.{Locals, with_local}
use Rattle.px_meaning.specs.Events.{Event}
use Rattle.px_meaning.specs.Steps.{ProcedureCalls, marking, live_block, freed_block}
use Rattle.px_meaning.specs.TypedProgram.{TypedProgram}
use Rattle.px_syntax.specs.TypedTree.{Expression, Expressions, get_char, no_expressions, an_expression, Condition, Place, local_place, cell_place, Statement, block, declare, assign, update, run_call, free, input, choose, loop, break, continue, return, evaluate, access, Statements, no_statements, a_statement}
use Rattle.px_syntax.specs.declared.typed_expression.Arithmetic.{Arithmetic}
use Rattle.px_meaning.specs.TreeExecution.{Verdicts, Exit, falls, breaks, continues, returns, fails, Exits, with_fall, behind_body, Stores, failing, Takes, Declares, Assigns, Updates, Accesses, Frees, TestsIf, Loops, GivesBack, Executes, ExecutesAll, Calculates, Reaches, by_outcome}
use Rattle.px_meaning.specs.TreeCalls.{first_locals, closes, TreeCallsWithin, TreeEvents}
use Rattle.px_meaning.proofs.Pairs.{Agree}
use Rattle.px_meaning.proofs.TreeBegins.{Begins, Opens, OpensExits, BeginsAll, shorter, outcome_opens, verdict_opens, fall_opens, body_opens, failing_opens, loads_begin, calculates_begin, reaches_begin, stores_begin, frees_begin, call_begins, takes_begin, passes_begin, loops_begin, runs_begin, all_runs_begin}
use Rattle.px_meaning.proofs.TreePairs.{see, Both, outcome_both, verdict_both, some_two, pointer_two, uses_pair, loads_pair, calculates_pair, reaches_pair, call_pair, eval_pair, all_pair, passes_pair, test_pair}

abbrev BothExits : Type 0 → Exits Event → Exits Event → Type 0
BothExits R K L = (a : List Event) (x : Exit) (l : Locals) (h : HeapMap) → K a x l h → L a x l h → R

abbrev OpensAfter : List Event → (List Event → Locals → HeapMap → Type 0) → Type 0
OpensAfter t f = (a : List Event) (l : Locals) (h : HeapMap) → f a l h → Begins t a

module _ (types : List BlockType) (C D : ProcedureCalls Event) (agree : Agree C D) (s t p q : List Event) (eq : s ++ p ≡ t ++ q) (R : Type 0) where
  fall_both : (K L : Exits Event) (f g : List Event → Locals → HeapMap → Type 0) → BothExits R K L → ((a : List Event) (l : Locals) (h : HeapMap) → f a l h → g a l h → R) →
      BothExits R (with_fall K f) (with_fall L g)
  fall_both K L f g on fg a falls l h k k' = fg a l h k k'
  fall_both K L f g on fg a breaks l h k k' = on a breaks l h k k'
  fall_both K L f g on fg a continues l h k k' = on a continues l h k k'
  fall_both K L f g on fg a (returns v) l h k k' = on a (returns v) l h k k'
  fall_both K L f g on fg a (fails kind site) l h k k' = on a (fails kind site) l h k k'

  body_both : (K L : Exits Event) (f g : List Event → Locals → HeapMap → Type 0) → BothExits R K L → ((a : List Event) (l : Locals) (h : HeapMap) → f a l h → g a l h → R) →
      BothExits R (behind_body see types C f K) (behind_body see types D g L)
  body_both K L f g on fg a falls l h k k' = fg a l h k k'
  body_both K L f g on fg a continues l h k k' = fg a l h k k'
  body_both K L f g on fg a breaks l h k k' = on a falls l h k k'
  body_both K L f g on fg a (returns v) l h k k' = on a (returns v) l h k k'
  body_both K L f g on fg a (fails kind site) l h k k' = on a (fails kind site) l h k k'

  takes_pair : (e : Expression) (l : Locals) (so_far : List Event) (heap : HeapMap) (K L : Exits Event) (f g : List Event → Value → HeapMap → Type 0) → OpensExits s K → OpensExits t L → BothExits R K L →
      Opens s f → Opens t g → Both R f g → Takes see types C e l so_far heap K f → Takes see types D e l so_far heap L g → R
  takes_pair e l so_far heap K L f g o o' on of og fg h h' =
      eval_pair types C D agree s t p q eq R e l so_far heap _ _
      (outcome_opens s (failing see types C l K) f (failing_opens see types C s l K o) of) (outcome_opens t (failing see types D l L) g (failing_opens see types D t l L o') og)
      (outcome_both R (failing see types C l K) (failing see types D l L) f g (λ a kind site h. on a (fails kind site) l h) fg) h h'

  stores_pair : (v : Value) (field : FieldId) (b : TypeId) (site : Site) (w : Value) (l : Locals) (so_far : List Event) (heap : HeapMap) (K L : Exits Event) → BothExits R K L →
      Stores see types C v field b site w l so_far heap K → Stores see types D v field b site w l so_far heap L → R
  stores_pair v field b site w l so_far heap K L on h h' =
      pointer_two R heap b.0 v (K (so_far ++ marking see Access site) (fails (error NullDereference) site) l heap) (L (so_far ++ marking see Access site) (fails (error NullDereference) site) l heap)
      (K (so_far ++ marking see Access site) (fails (error UseAfterFree) site) l heap) (L (so_far ++ marking see Access site) (fails (error UseAfterFree) site) l heap)
      (λ n cells. K (so_far ++ marking see Access site) falls l (with_block heap n (live_block b.0 (slice_set cells field.0 w))))
      (λ n cells. L (so_far ++ marking see Access site) falls l (with_block heap n (live_block b.0 (slice_set cells field.0 w))))
      (on _ _ _ _) (on _ _ _ _) (λ n cells. on _ _ _ _) h h'

  frees_pair : (v : Value) (b : TypeId) (site : Site) (l : Locals) (so_far : List Event) (heap : HeapMap) (K L : Exits Event) → BothExits R K L →
      Frees see types C v b site l so_far heap K → Frees see types D v b site l so_far heap L → R
  frees_pair v b site l so_far heap K L on h h' =
      pointer_two R heap b.0 v (K (so_far ++ marking see FreeNull site) falls l heap) (L (so_far ++ marking see FreeNull site) falls l heap)
      (K (so_far ++ marking see Freed site) (fails (error DoubleFree) site) l heap) (L (so_far ++ marking see Freed site) (fails (error DoubleFree) site) l heap)
      (λ n cells. K (so_far ++ marking see Freed site) falls l (with_block heap n (freed_block b.0))) (λ n cells. L (so_far ++ marking see Freed site) falls l (with_block heap n (freed_block b.0)))
      (on _ _ _ _) (on _ _ _ _) (λ n cells. on _ _ _ _) h h'

  declares_pair : (n : ℕ) (e : Option Expression) (l : Locals) (so_far : List Event) (heap : HeapMap) (K L : Exits Event) → OpensExits s K → OpensExits t L → BothExits R K L →
      Declares see types C n e l so_far heap K → Declares see types D n e l so_far heap L → R
  declares_pair n None l so_far heap K L o o' on h h' = on _ _ _ _ h h'
  declares_pair n (Some e) l so_far heap K L o o' on h h' =
      takes_pair e (with_local l n Unwritten) so_far heap K L _ _ o o' on
      (λ a v h. o a falls (with_local (with_local l n Unwritten) n v) h) (λ a v h. o' a falls (with_local (with_local l n Unwritten) n v) h) (λ a v h. on a falls (with_local (with_local l n Unwritten) n v) h) h h'

  assigns_pair : (w : Place) (e : Expression) (l : Locals) (so_far : List Event) (heap : HeapMap) (K L : Exits Event) → OpensExits s K → OpensExits t L → BothExits R K L →
      Assigns see types C w e l so_far heap K → Assigns see types D w e l so_far heap L → R
  assigns_pair (local_place n at) e l so_far heap K L o o' on h h' =
      takes_pair e l so_far heap K L _ _ o o' on (λ a v h. o a falls (with_local l n v) h) (λ a v h. o' a falls (with_local l n v) h) (λ a v h. on a falls (with_local l n v) h) h h'
  assigns_pair (cell_place w field b site) e l so_far heap K L o o' on h h' =
      takes_pair w l so_far heap K L _ _ o o' on
      (λ a x h. takes_begin see types C s e l a h K _ o (λ a v h. stores_begin see types C s x field b site v l a h K o))
      (λ a x h. takes_begin see types D t e l a h L _ o' (λ a v h. stores_begin see types D t x field b site v l a h L o'))
      (λ a x h. takes_pair e l a h K L _ _ o o' on (λ a v h. stores_begin see types C s x field b site v l a h K o) (λ a v h. stores_begin see types D t x field b site v l a h L o')
      (λ a v h. stores_pair x field b site v l a h K L on)) h h'

  -- what is made of a value of an operator
  calculated_pair : (op : Arithmetic) (x y : Value) (l : Locals) (so_far : List Event) (heap : HeapMap) (K L : Exits Event) (f g : List Event → Value → HeapMap → Type 0) → BothExits R K L → Both R f g →
      Calculates see types C op x y so_far heap (by_outcome (failing see types C l K) f) → Calculates see types D op x y so_far heap (by_outcome (failing see types D l L) g) → R
  calculated_pair op x y l so_far heap K L f g on fg h h' =
      calculates_pair types C D agree s t p q eq R op x y so_far heap _ _ (outcome_both R (failing see types C l K) (failing see types D l L) f g (λ a kind site h. on a (fails kind site) l h) fg) h h'

  updates_pair : (op : Arithmetic) (w : Place) (e : Expression) (l : Locals) (so_far : List Event) (heap : HeapMap) (K L : Exits Event) → OpensExits s K → OpensExits t L → BothExits R K L →
      Updates see types C op w e l so_far heap K → Updates see types D op w e l so_far heap L → R
  updates_pair op (local_place n at) e l so_far heap K L o o' on h h' =
      uses_pair types C D agree s t p q eq R (l n) at so_far heap _ _
      (outcome_both R (failing see types C l K) (failing see types D l L) _ _ (λ a kind site h. on a (fails kind site) l h)
      (λ a x h. takes_pair e l a h K L _ _ o o' on
      (λ a y h. calculates_begin see types C s op x y a h _ (outcome_opens s (failing see types C l K) _ (failing_opens see types C s l K o) (λ a v h. o a falls (with_local l n v) h)))
      (λ a y h. calculates_begin see types D t op x y a h _ (outcome_opens t (failing see types D l L) _ (failing_opens see types D t l L o') (λ a v h. o' a falls (with_local l n v) h)))
      (λ a y h. calculated_pair op x y l a h K L _ _ on (λ a v h. on a falls (with_local l n v) h)))) h h'
  updates_pair op (cell_place w field b site) e l so_far heap K L o o' on h h' =
      takes_pair w l so_far heap K L _ _ o o' on
      (λ a place h. loads_begin see types C s place field b site a h _ (outcome_opens s (failing see types C l K) _ (failing_opens see types C s l K o) (λ a x h.
      takes_begin see types C s e l a h K _ o (stores_new C s K o place x))))
      (λ a place h. loads_begin see types D t place field b site a h _ (outcome_opens t (failing see types D l L) _ (failing_opens see types D t l L o') (λ a x h.
      takes_begin see types D t e l a h L _ o' (stores_new D t L o' place x))))
      (λ a place h. loads_pair types C D agree s t p q eq R place field b site a h _ _
      (outcome_both R (failing see types C l K) (failing see types D l L) _ _ (λ a kind site h. on a (fails kind site) l h)
      (λ a x h. takes_pair e l a h K L _ _ o o' on (stores_new C s K o place x) (stores_new D t L o' place x)
      (λ a y h. calculated_pair op x y l a h K L _ _ on (λ a v h. stores_pair place field b site v l a h K L on))))) h h'
    where
      stores_new : (calls : ProcedureCalls Event) (u : List Event) (G : Exits Event) → OpensExits u G → (place x : Value) →
          Opens u (λ a y h. Calculates see types calls op x y a h (by_outcome (failing see types calls l G) (λ a v h. Stores see types calls place field b site v l a h G)))
      stores_new calls u G o place x a y h =
          calculates_begin see types calls u op x y a h _ (outcome_opens u (failing see types calls l G) _ (failing_opens see types calls u l G o) (λ a v h. stores_begin see types calls u place field b site v l a h G o))

  accesses_pair : (e : Expression) (parts : Expressions) (b : TypeId) (site : Site) (l : Locals) (so_far : List Event) (heap : HeapMap) (K L : Exits Event) → OpensExits s K → OpensExits t L → BothExits R K L →
      Accesses see types C e parts b site l so_far heap K → Accesses see types D e parts b site l so_far heap L → R
  accesses_pair e parts b site l so_far heap K L o o' on h h' =
      takes_pair e l so_far heap K L _ _ o o' on
      (λ a x h. passes_begin see types C s parts l a h (failing see types C l K) _ (failing_opens see types C s l K o) (reached C s K o x))
      (λ a x h. passes_begin see types D t parts l a h (failing see types D l L) _ (failing_opens see types D t l L o') (reached D t L o' x))
      (λ a x h. passes_pair types C D agree s t p q eq R parts l a h (failing see types C l K) (failing see types D l L) _ _ (failing_opens see types C s l K o) (failing_opens see types D t l L o')
      (reached C s K o x) (reached D t L o' x) (λ a kind at h. on a (fails kind at) l h)
      (λ a h. reaches_pair types C D agree s t p q eq R x b site a h (failing see types C l K) (failing see types D l L) (λ a h. K a falls l h) (λ a h. L a falls l h) (λ a kind at h. on a (fails kind at) l h) (λ a h. on a falls l h))) h h'
    where
      reached : (calls : ProcedureCalls Event) (u : List Event) (G : Exits Event) → OpensExits u G → (x : Value) (a : List Event) (h : HeapMap) → Reaches see types calls x b site a h (failing see types calls l G) (λ a h. G a falls l h) → Begins u a
      reached calls u G o x a h = reaches_begin see types calls u x b site a h (failing see types calls l G) (λ a h. G a falls l h) (failing_opens see types calls u l G o) (λ a h. o a falls l h)

  tests_if_pair : (c : Option Condition) (l : Locals) (so_far : List Event) (heap : HeapMap) (K L : Verdicts Event) → Opens s K → Opens t L → Both R K L →
      TestsIf see types C c l so_far heap K → TestsIf see types D c l so_far heap L → R
  tests_if_pair None l so_far heap K L o o' on h h' = on _ _ _ h h'
  tests_if_pair (Some c) l so_far heap K L o o' on h h' = test_pair types C D agree s t p q eq R c l so_far heap K L o o' on h h'

  abbrev Does : Type 1
  Does = Locals → List Event → HeapMap → Exits Event → Type 0

  abbrev PairsAll : Does → Does → Type 1
  PairsAll X Y = (l : Locals) (so_far : List Event) (heap : HeapMap) (K L : Exits Event) → OpensExits s K → OpensExits t L → BothExits R K L → X l so_far heap K → Y l so_far heap L → R

  loops_pair : (bound bound' : Option ℕ) (n m made : ℕ) (site : Site) (c : Option Condition) (body body' after_body after_body' : Does) →
      BeginsAll see types C s body → BeginsAll see types D t body' → BeginsAll see types C s after_body → BeginsAll see types D t after_body' → PairsAll body body' → PairsAll after_body after_body' →
      (l : Locals) (so_far : List Event) (heap : HeapMap) (K L : Exits Event) → OpensExits s K → OpensExits t L → BothExits R K L →
      Loops see types C bound n made site c body after_body l so_far heap K → Loops see types D bound' m made site c body' after_body' l so_far heap L → R
  loops_pair bound bound' zero m made site c body body' after_body after_body' b b' f f' pb pf l so_far heap K L o o' on h h' = absurd h
  loops_pair bound bound' (suc n) zero made site c body body' after_body after_body' b b' f f' pb pf l so_far heap K L o o' on h h' = absurd h'
  loops_pair bound bound' (suc n) (suc m) made site c body body' after_body after_body' b b' f f' pb pf l so_far heap K L o o' on h h' =
      tests_if_pair c l so_far heap _ _
      (verdict_opens s (failing see types C l K) _ _ (failing_opens see types C s l K o)
      (λ a h k. shorter s a (marking see Iter site) (b l (a ++ marking see Iter site) h _ (body_opens see types C s K _ o first) k.1))
      (λ a h k. shorter s a (marking see Done site) (o (a ++ marking see Done site) falls l h k)))
      (verdict_opens t (failing see types D l L) _ _ (failing_opens see types D t l L o')
      (λ a h k. shorter t a (marking see Iter site) (b' l (a ++ marking see Iter site) h _ (body_opens see types D t L _ o' second) k.1))
      (λ a h k. shorter t a (marking see Done site) (o' (a ++ marking see Done site) falls l h k)))
      (verdict_both R (failing see types C l K) (failing see types D l L) _ _ _ _ (λ a kind at h. on a (fails kind at) l h)
      (λ a h k k'. pb l (a ++ marking see Iter site) h _ _ (body_opens see types C s K _ o first) (body_opens see types D t L _ o' second)
      (body_both K L _ _ on (λ a l h. pf l a h _ _ (fall_opens s K _ o third) (fall_opens t L _ o' fourth)
      (fall_both K L _ _ on (λ a l h. loops_pair bound bound' n m (suc made) site c body body' after_body after_body' b b' f f' pb pf l a h K L o o' on)))) k.1 k'.1)
      (λ a h. on (a ++ marking see Done site) falls l h)) h h'
    where
      third : OpensAfter s (λ a l h. Loops see types C bound n (suc made) site c body after_body l a h K)
      third a l h = loops_begin see types C s bound n (suc made) site c body after_body b f l a h K o

      fourth : OpensAfter t (λ a l h. Loops see types D bound' m (suc made) site c body' after_body' l a h L)
      fourth a l h = loops_begin see types D t bound' m (suc made) site c body' after_body' b' f' l a h L o'

      first : OpensAfter s (λ a l h. after_body l a h (with_fall K (λ a l h. Loops see types C bound n (suc made) site c body after_body l a h K)))
      first a l h = f l a h _ (fall_opens s K _ o third)

      second : OpensAfter t (λ a l h. after_body' l a h (with_fall L (λ a l h. Loops see types D bound' m (suc made) site c body' after_body' l a h L)))
      second a l h = f' l a h _ (fall_opens t L _ o' fourth)

  gives_pair : (e : Option Expression) (l : Locals) (so_far : List Event) (heap : HeapMap) (K L : Exits Event) → OpensExits s K → OpensExits t L → BothExits R K L →
      GivesBack see types C e l so_far heap K → GivesBack see types D e l so_far heap L → R
  gives_pair None l so_far heap K L o o' on h h' = on _ _ _ _ h h'
  gives_pair (Some e) l so_far heap K L o o' on h h' =
      takes_pair e l so_far heap K L _ _ o o' on (λ a v h. o a (returns v) l h) (λ a v h. o' a (returns v) l h) (λ a v h. on a (returns v) l h) h h'

  mutual
    runs_pair : (bound bound' : Option ℕ) (n m : ℕ) (w : Statement) → PairsAll (Executes see types C bound n w) (Executes see types D bound' m w)
    runs_pair bound bound' n m (block ss) l so_far heap K L o o' on h h' = all_runs_pair bound bound' n m ss l so_far heap K L o o' on h h'
    runs_pair bound bound' n m (declare i e) l so_far heap K L o o' on h h' = declares_pair i e l so_far heap K L o o' on h h'
    runs_pair bound bound' n m (assign w e) l so_far heap K L o o' on h h' = assigns_pair w e l so_far heap K L o o' on h h'
    runs_pair bound bound' n m (update op w e) l so_far heap K L o o' on h h' = updates_pair op w e l so_far heap K L o o' on h h'
    runs_pair bound bound' n m (run_call proc es site) l so_far heap K L o o' on h h' =
        all_pair types C D agree s t p q eq R es l so_far heap (failing see types C l K) (failing see types D l L) _ _ (failing_opens see types C s l K o) (failing_opens see types D t l L o')
        (λ a vs h. call_begins see types C s proc site vs a h (failing see types C l K) (λ a v h. K a falls l h) (failing_opens see types C s l K o) (λ a v h. o a falls l h))
        (λ a vs h. call_begins see types D t proc site vs a h (failing see types D l L) (λ a v h. L a falls l h) (failing_opens see types D t l L o') (λ a v h. o' a falls l h))
        (λ a kind at h. on a (fails kind at) l h)
        (λ a vs h. call_pair types C D agree s t p q eq R proc site vs a h (failing see types C l K) (failing see types D l L) (λ a v h. K a falls l h) (λ a v h. L a falls l h)
        (failing_opens see types C s l K o) (failing_opens see types D t l L o') (λ a v h. o a falls l h) (λ a v h. o' a falls l h) (λ a kind at h. on a (fails kind at) l h) (λ a v h. on a falls l h)) h h'
    runs_pair bound bound' n m (free e b site) l so_far heap K L o o' on h h' =
        takes_pair e l so_far heap K L _ _ o o' on (λ a v h. frees_begin see types C s v b site l a h K o) (λ a v h. frees_begin see types D t v b site l a h L o') (λ a v h. frees_pair v b site l a h K L on) h h'
    runs_pair bound bound' n m (input site) l so_far heap K L o o' on h h' =
        takes_pair (get_char site) l so_far heap K L _ _ o o' on (λ a v h. o a falls l h) (λ a v h. o' a falls l h) (λ a v h. on a falls l h) h h'
    runs_pair bound bound' n m (choose c first second) l so_far heap K L o o' on h h' =
        test_pair types C D agree s t p q eq R c l so_far heap _ _
        (verdict_opens s (failing see types C l K) _ _ (failing_opens see types C s l K o) (λ a h. runs_begin see types C s bound n first l a h K o) (λ a h. runs_begin see types C s bound n second l a h K o))
        (verdict_opens t (failing see types D l L) _ _ (failing_opens see types D t l L o') (λ a h. runs_begin see types D t bound' m first l a h L o') (λ a h. runs_begin see types D t bound' m second l a h L o'))
        (verdict_both R (failing see types C l K) (failing see types D l L) _ _ _ _ (λ a kind at h. on a (fails kind at) l h)
        (λ a h. runs_pair bound bound' n m first l a h K L o o' on) (λ a h. runs_pair bound bound' n m second l a h K L o o' on)) h h'
    runs_pair bound bound' n m (loop site c body after_body) l so_far heap K L o o' on h h' =
        loops_pair bound bound' n m 0 site c (Executes see types C bound n body) (Executes see types D bound' m body) (Executes see types C bound n after_body) (Executes see types D bound' m after_body)
        (runs_begin see types C s bound n body) (runs_begin see types D t bound' m body) (runs_begin see types C s bound n after_body) (runs_begin see types D t bound' m after_body)
        (runs_pair bound bound' n m body) (runs_pair bound bound' n m after_body) l so_far heap K L o o' on h h'
    runs_pair bound bound' n m break l so_far heap K L o o' on h h' = on _ _ _ _ h h'
    runs_pair bound bound' n m continue l so_far heap K L o o' on h h' = on _ _ _ _ h h'
    runs_pair bound bound' n m (return e) l so_far heap K L o o' on h h' = gives_pair e l so_far heap K L o o' on h h'
    runs_pair bound bound' n m (evaluate e) l so_far heap K L o o' on h h' =
        passes_pair types C D agree s t p q eq R (an_expression e no_expressions) l so_far heap (failing see types C l K) (failing see types D l L) _ _ (failing_opens see types C s l K o) (failing_opens see types D t l L o')
        (λ a h. o a falls l h) (λ a h. o' a falls l h) (λ a kind at h. on a (fails kind at) l h) (λ a h. on a falls l h) h h'
    runs_pair bound bound' n m (access e parts field b site) l so_far heap K L o o' on h h' = accesses_pair e parts b site l so_far heap K L o o' on h h'

    all_runs_pair : (bound bound' : Option ℕ) (n m : ℕ) (ss : Statements) → PairsAll (ExecutesAll see types C bound n ss) (ExecutesAll see types D bound' m ss)
    all_runs_pair bound bound' n m no_statements l so_far heap K L o o' on h h' = on _ _ _ _ h h'
    all_runs_pair bound bound' n m (a_statement w rest) l so_far heap K L o o' on h h' =
        runs_pair bound bound' n m w l so_far heap _ _
        (fall_opens s K _ o (λ a l h. all_runs_begin see types C s bound n rest l a h K o)) (fall_opens t L _ o' (λ a l h. all_runs_begin see types D t bound' m rest l a h L o'))
        (fall_both K L _ _ on (λ a l h. all_runs_pair bound bound' n m rest l a h K L o o' on)) h h'

-- ---- calls

closes_opens : (t : List Event) (d : Ending) (m : HeapMap) → OpensExits t (closes t d m)
closes_opens t d m a falls l h k = ([], k.0 ∙ sym (append-nil a))
closes_opens t d m a (returns v) l h k = ([], k.0 ∙ sym (append-nil a))
closes_opens t d m a (fails kind site) l h k = ([], k.0 ∙ sym (append-nil a))
closes_opens t d m a breaks l h k = absurd k
closes_opens t d m a continues l h k = absurd k

abbrev Same : List Event → List Event → List Event → List Event → Ending → Ending → HeapMap → HeapMap → Type 0
Same s t p q d e m n = (s ≡ t) × (p ≡ q) × (d ≡ e) × (m ≡ n)

same_end : (s t p q a : List Event) (d e c : Ending) (m n h : HeapMap) → s ++ p ≡ t ++ q → (s ≡ a) × (d ≡ c) × (m ≡ h) → (t ≡ a) × (e ≡ c) × (n ≡ h) → Same s t p q d e m n
same_end s t p q a d e c m n h eq (s1, d1, m1) (t1, e1, n1) =
    let st : s ≡ t = s1 ∙ sym t1 in
    (st, append_cancel_left s p q (eq ∙ ap (λ u. u ++ q) (sym st)), d1 ∙ sym e1, m1 ∙ sym n1)

closes_both : (s t p q : List Event) (d e : Ending) (m n : HeapMap) → s ++ p ≡ t ++ q → BothExits (Same s t p q d e m n) (closes s d m) (closes t e n)
closes_both s t p q d e m n eq a falls l h k k' = same_end s t p q a d e (Returned Unwritten) m n h eq k k'
closes_both s t p q d e m n eq a (returns v) l h k k' = same_end s t p q a d e (Returned v) m n h eq k k'
closes_both s t p q d e m n eq a (fails kind site) l h k k' = same_end s t p q a d e (Failed kind site) m n h eq k k'
closes_both s t p q d e m n eq a breaks l h k k' = absurd k
closes_both s t p q d e m n eq a continues l h k k' = absurd k

module _ (P : TypedProgram) where
  calls_agree : (i j : ℕ) → Agree (TreeCallsWithin see None P i) (TreeCallsWithin see None P j)
  calls_agree zero j f arguments heap s t d e m n c c' p q eq = absurd c
  calls_agree (suc i) zero f arguments heap s t d e m n c c' p q eq = absurd c'
  calls_agree (suc i) (suc j) f arguments heap s t d e m n c c' p q eq =
      some_two (Same s t p q d e m n) (P.procedures f)
      (λ x. Executes see P.types (TreeCallsWithin see None P i) None i x.body (first_locals arguments) [] heap (closes s d m))
      (λ x. Executes see P.types (TreeCallsWithin see None P j) None j x.body (first_locals arguments) [] heap (closes t e n))
      (λ x. runs_pair P.types (TreeCallsWithin see None P i) (TreeCallsWithin see None P j) (calls_agree i j) s t p q eq (Same s t p q d e m n) None None i j x.body (first_locals arguments) [] heap
      (closes s d m) (closes t e n) (closes_opens s d m) (closes_opens t e n) (closes_both s t p q d e m n eq)) c c'

  pub tree_events_agree : Agree (TreeEvents P) (TreeEvents P)
  tree_events_agree f arguments heap s t d e m n (i, c) (j, c') p q eq = calls_agree i j f arguments heap s t d e m n c c' p q eq
