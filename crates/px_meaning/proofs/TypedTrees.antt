-- Executions of trees that keep the typing rules.
use Rattle.std.proofs.Common.{◌≡◌, ℕ, zero, suc, Bool, true, false, cond, nat_eq, Option, Some, None, List, [], ◌∷◌, ◌++◌, slice_set, slice_get, refl, sym, ap, ◌∙◌, subst, inl, inr, ℤ, pos, IfSome, ◌+ℤ◌, ◌-ℤ◌, ◌*ℤ◌, int_div, if◌then◌else◌}
use Rattle.std.specs.Prelude.{⊤, IsSome}
use Rattle.std.specs.Int.{w32}
use Rattle.std.proofs.lemmas.Bool.{eqb-true}
use Rattle.std.proofs.lemmas.Int.{SFits-int_wrap}
use Rattle.std.specs.Ordering.{int_eq}
use Rattle.px_base.specs.declared.trace.Site.{Site}
use Rattle.px_base.specs.declared.trace.Kind.TheVariants.{NullDereference, UseAfterFree, DoubleFree}
use Rattle.px_base.specs.declared.trace.MarkKind.TheVariants.{Iter, Done, Access, «Freed» as FreedMark, FreeNull}
use Rattle.px_base.specs.declared.trace.ProcId.{ProcId}
use Rattle.px_base.specs.declared.trace.FieldId.{FieldId}
use Rattle.px_terms.specs.Types.{types_of}
use Rattle.px_core.specs.declared.command.Operator.TheVariants.{Neg}
use Rattle.px_syntax.specs.declared.typed_expression.Arithmetic.{Arithmetic}
use Rattle.px_syntax.specs.declared.typed_expression.Arithmetic.TheVariants.{Add, Subtract, Multiply, Divide, Remainder}
use Rattle.px_syntax.specs.declared.typed_expression.Relation.{Relation}
use Rattle.px_syntax.specs.declared.typed_expression.Relation.TheVariants as relation
use Rattle.px_syntax.specs.TypedTree.{Expression, constant, null, local, negated, arithmetic, truth, cell, allocate, get_char, call, stop, Expressions, no_expressions, an_expression, Arguments, no_arguments, an_argument, passed, erased, Condition, compare, word, pointer, both, either, opposite, Place, local_place, cell_place, Statement, block, declare, assign, update, run_call, free, input, choose, loop, break, continue, return, evaluate, access, Statements, no_statements, a_statement}
use Rattle.px_syntax.specs.ProgramTree.{ProcedureTree}
use Rattle.px_meaning.specs.Values.{TypeId, ValueType, Int, Pointer, BlockType, One, Fields, Opaque, Value, Word, Null, Block, Unwritten}
use Rattle.px_meaning.specs.Heaps.{HeapMap, HeapBlock, Live, Freed, with_block, IsWritten, AreWritten, IsCell, IsWellTyped}
use Rattle.px_meaning.specs.Calls.{Halt, error, outside, Ending, Returned, Failed}
use Rattle.px_meaning.specs.Execution.{Locals, with_local}
use Rattle.px_meaning.specs.Events.{Event}
use Rattle.px_meaning.specs.Operations.{value_at, result_of, of_word, wrapped, on_words}
use Rattle.px_meaning.specs.Steps.{ProcedureCalls, marking, new_block, live_block, freed_block}
use Rattle.px_meaning.specs.TypedProgram.{TypedProgram}
use Rattle.px_meaning.specs.TreeExecution.{Outcome, gives, errs, Outcomes, with_value, by_outcome, yes, no, fault, Verdicts, with_verdict, Exit, falls, breaks, continues, returns, fails, Exits, with_fall, behind_body, Uses, Loads, division, calculation, Calculates, Reaches, Stores, Returns, CallsProcedure, Branches, Evaluates, EvaluatesAll, PassesAll, Tests, failing, Takes, Declares, Assigns, Updates, Frees, TestsIf, Loops, GivesBack, Executes, ExecutesAll}
use Rattle.px_meaning.specs.TreeCalls.{first_locals, closes, TreeCallsWithin, SeenTreeCalls}
use Rattle.px_meaning.specs.CoreLaws.{Grows, IsResult, EndsTyped}
use Rattle.px_meaning.specs.TreeTypes.{LocalTypes, type_of_cell, IsDefined, AgreesWith, IsOf, AreOf, ArePassed, IsCondition, IsPlaceOf, IsConditionIf, IsDeclared, IsReturned, IsStatement, AreStatements, local_types, KeepsTyping}
use Rattle.px_meaning.proofs.Taken.{some_to, pointer_to}
use Rattle.px_meaning.proofs.Grown.{grows_refl, grows_trans, grows_new, grows_live}
use Rattle.px_meaning.proofs.TypedHeaps.{written_grows, cell_grows, written_cell, cells_of, with_cells, freed_of, new_cells, cell_at, cell_put, typed_with, put_type}
use Rattle.px_meaning.proofs.TypedSteps.{nothing_returned, one_fits, none_fits, input_fits}
use Rattle.px_meaning.proofs.TreeGrown.{tree_calls_within_grow}

-- ---- values

word_written : (h : HeapMap) (f : ℤ → ℤ) (v w : Value) → of_word f v ≡ Some w → IsWritten h Int w
word_written h f (Word x) w e = subst (λ o. IfSome o (IsWritten h Int)) e (SFits-int_wrap w32 (f x))
word_written h f Null w e = let d : None ≡ Some w = e in cc
word_written h f (Block n) w e = let d : None ≡ Some w = e in cc
word_written h f Unwritten w e = let d : None ≡ Some w = e in cc

int_is : (h : HeapMap) (t : ValueType) (v : Value) → t ≡ Int → IsWritten h Int v → IsWritten h t v
int_is h t v e p = subst (λ u. IsWritten h u v) (sym e) p

pub defined_some : (o : Option BlockType) → IsDefined o → IsSome o
defined_some (Some (One t)) p = refl
defined_some (Some (Fields ts)) p = refl
defined_some (Some Opaque) p = absurd p
defined_some None p = absurd p

-- ---- locals

-- each local has a value of its type, or nothing written
abbrev pub AreLocals : LocalTypes → HeapMap → Locals → Type 0
AreLocals types h l = (n : ℕ) (t : ValueType) → types n ≡ Some t → IsCell h t (l n)

locals_grow : {h i : HeapMap} → Grows h i → (types : LocalTypes) (l : Locals) → AreLocals types h l → AreLocals types i l
locals_grow g types l s n t e = cell_grows g t (l n) (s n t e)

locals_put : (h : HeapMap) (types : LocalTypes) (l : Locals) (n : ℕ) (v : Value) → AreLocals types h l → ((t : ValueType) → types n ≡ Some t → IsCell h t v) → AreLocals types h (with_local l n v)
locals_put h types l n v s f m t e = at (nat_eq m n) refl
  where
    at : (q : Bool) → nat_eq m n ≡ q → IsCell h t (cond q v (l m))
    at true q = f t (ap types (sym (eqb-true m n q)) ∙ e)
    at false q = s m t e

-- a value of the local's type
of_local : (h : HeapMap) (types : LocalTypes) (n : ℕ) (t : ValueType) (v : Value) → types n ≡ Some t → IsWritten h t v → (u : ValueType) → types n ≡ Some u → IsCell h u v
of_local h types n t v e p u f =
    let d : Some t ≡ Some u = sym e ∙ f in subst (λ o. IfSome o (λ u. IsCell h u v)) d (written_cell h t v p)

pub first_are : (h : HeapMap) (parameters locals : List ValueType) (arguments : List Value) → AreWritten h parameters arguments → AreLocals (λ n. slice_get (parameters ++ locals) n) h (first_locals arguments)
first_are h [] locals [] p n t e = tt
first_are h (u ∷ us) locals (v ∷ vs) p zero t e =
    let d : Some u ≡ Some t = e in subst (λ o. IfSome o (λ u. IsCell h u v)) d (written_cell h u v p.0)
first_are h (u ∷ us) locals (v ∷ vs) p (suc n) t e = first_are h us locals vs p.1 n t e
first_are h [] locals (v ∷ vs) p n t e = absurd p
first_are h (u ∷ us) locals [] p n t e = absurd p

-- ---- executions

-- a value of the type is given
abbrev FitsOutcome : ValueType → HeapMap → Outcome → Type 0
FitsOutcome t h (gives v) = IsWritten h t v
FitsOutcome t h (errs kind site) = ⊤

division_fits : (h : HeapMap) (site : Site) (b : Bool) (z : ℤ) → FitsOutcome Int h (division site (if b then None else Some (wrapped z)))
division_fits h site true z = tt
division_fits h site false z = SFits-int_wrap w32 z

-- an operator gives an int
calculation_fits : (h : HeapMap) (op : Arithmetic) (x y : ℤ) → FitsOutcome Int h (calculation op x y)
calculation_fits h Add x y = SFits-int_wrap w32 (x +ℤ y)
calculation_fits h Subtract x y = SFits-int_wrap w32 (x -ℤ y)
calculation_fits h Multiply x y = SFits-int_wrap w32 (x *ℤ y)
calculation_fits h (Divide site) x y = division_fits h site (int_eq y (pos 0)) (int_div x y)
calculation_fits h (Remainder site) x y = division_fits h site (int_eq y (pos 0)) (x -ℤ int_div x y *ℤ y)

words_fit : (h : HeapMap) (op : Arithmetic) (u v : Value) (r : Outcome) → on_words (calculation op) u v ≡ Some r → FitsOutcome Int h r
words_fit h op (Word x) (Word y) r e = subst (λ o. IfSome o (FitsOutcome Int h)) e (calculation_fits h op x y)
words_fit h op (Word x) Null r e = let d : None ≡ Some r = e in cc
words_fit h op (Word x) (Block n) r e = let d : None ≡ Some r = e in cc
words_fit h op (Word x) Unwritten r e = let d : None ≡ Some r = e in cc
words_fit h op Null v r e = let d : None ≡ Some r = e in cc
words_fit h op (Block n) v r e = let d : None ≡ Some r = e in cc
words_fit h op Unwritten v r e = let d : None ≡ Some r = e in cc

-- a value of the result's type is returned
abbrev FitsExit : Option ValueType → HeapMap → Exit → Type 0
FitsExit result h (returns v) = IsResult h result v
FitsExit result h falls = ⊤
FitsExit result h breaks = ⊤
FitsExit result h continues = ⊤
FitsExit result h (fails kind site) = ⊤

-- a called procedure is a kept one; where its arguments are typed, it leaves a well-typed heap and gives what it says
abbrev Called : {E : Type 0} → TypedProgram → ProcedureCalls E → Type 0
Called {E} P calls = (f : ℕ) (arguments : List Value) (heap : HeapMap) (t : List E) (ending : Ending) (end : HeapMap) → calls f arguments heap t ending end → IsWellTyped P.types heap →
    (p : ProcedureTree) × (P.procedures f ≡ Some p) × Grows heap end × (AreWritten heap p.parameters arguments → IsWellTyped P.types end × EndsTyped end p.result ending)

module _ {E : Type 0} (seen : Event → E) (P : TypedProgram) (calls : ProcedureCalls E) (called : Called P calls) (locals : LocalTypes) (result : Option ValueType) (Z : Type 0) where
  abbrev Well : HeapMap → Type 0
  Well heap = IsWellTyped P.types heap

  -- wherever a goal is reached with what the types ask for, Z holds
  abbrev LeadsOutcome : HeapMap → ValueType → Outcomes E → Type 0
  LeadsOutcome heap t G = (a : List E) (x : Outcome) (h : HeapMap) → Grows heap h → Well h → FitsOutcome t h x → G a x h → Z

  abbrev LeadsValue : HeapMap → ValueType → (List E → Value → HeapMap → Type 0) → Type 0
  LeadsValue heap t G = (a : List E) (v : Value) (h : HeapMap) → Grows heap h → Well h → IsWritten h t v → G a v h → Z

  abbrev LeadsErr : HeapMap → (List E → Halt → Site → HeapMap → Type 0) → Type 0
  LeadsErr heap G = (a : List E) (kind : Halt) (site : Site) (h : HeapMap) → Grows heap h → Well h → G a kind site h → Z

  abbrev LeadsOn : HeapMap → (List E → HeapMap → Type 0) → Type 0
  LeadsOn heap G = (a : List E) (h : HeapMap) → Grows heap h → Well h → G a h → Z

  abbrev LeadsVerdict : HeapMap → Verdicts E → Type 0
  LeadsVerdict heap G = (a : List E) (x : _) (h : HeapMap) → Grows heap h → Well h → G a x h → Z

  abbrev LeadsExits : HeapMap → Exits E → Type 0
  LeadsExits heap G = (a : List E) (x : Exit) (l : Locals) (h : HeapMap) → Grows heap h → Well h → AreLocals locals h l → FitsExit result h x → G a x l h → Z

  abbrev LeadsAfter : HeapMap → (List E → Locals → HeapMap → Type 0) → Type 0
  LeadsAfter heap G = (a : List E) (l : Locals) (h : HeapMap) → Grows heap h → Well h → AreLocals locals h l → G a l h → Z

  value_leads : (heap : HeapMap) (t u : ValueType) (K : Outcomes E) (f : List E → Value → HeapMap → Type 0) → LeadsOutcome heap t K → LeadsValue heap u f → LeadsOutcome heap u (with_value K f)
  value_leads heap t u K f o g a (gives v) h w y q k = g a v h w y q k
  value_leads heap t u K f o g a (errs kind site) h w y q k = o a (errs kind site) h w y tt k

  outcome_leads : (heap : HeapMap) (t : ValueType) (err : List E → Halt → Site → HeapMap → Type 0) (f : List E → Value → HeapMap → Type 0) → LeadsErr heap err → LeadsValue heap t f → LeadsOutcome heap t (by_outcome err f)
  outcome_leads heap t err f o g a (gives v) h w y q k = g a v h w y q k
  outcome_leads heap t err f o g a (errs kind site) h w y q k = o a kind site h w y k

  verdict_leads : (heap : HeapMap) (err : List E → Halt → Site → HeapMap → Type 0) (f g : List E → HeapMap → Type 0) → LeadsErr heap err → LeadsOn heap f → LeadsOn heap g → LeadsVerdict heap (with_verdict err f g)
  verdict_leads heap err f g o of og a yes h w y k = of a h w y k
  verdict_leads heap err f g o of og a no h w y k = og a h w y k
  verdict_leads heap err f g o of og a (fault kind site) h w y k = o a kind site h w y k

  fall_leads : (heap : HeapMap) (K : Exits E) (f : List E → Locals → HeapMap → Type 0) → LeadsExits heap K → LeadsAfter heap f → LeadsExits heap (with_fall K f)
  fall_leads heap K f o g a falls l h w y s q k = g a l h w y s k
  fall_leads heap K f o g a breaks l h w y s q k = o a breaks l h w y s tt k
  fall_leads heap K f o g a continues l h w y s q k = o a continues l h w y s tt k
  fall_leads heap K f o g a (returns v) l h w y s q k = o a (returns v) l h w y s q k
  fall_leads heap K f o g a (fails kind site) l h w y s q k = o a (fails kind site) l h w y s tt k

  body_leads : (heap : HeapMap) (K : Exits E) (f : List E → Locals → HeapMap → Type 0) → LeadsExits heap K → LeadsAfter heap f → LeadsExits heap (behind_body seen P.types calls f K)
  body_leads heap K f o g a falls l h w y s q k = g a l h w y s k
  body_leads heap K f o g a continues l h w y s q k = g a l h w y s k
  body_leads heap K f o g a breaks l h w y s q k = o a falls l h w y s tt k
  body_leads heap K f o g a (returns v) l h w y s q k = o a (returns v) l h w y s q k
  body_leads heap K f o g a (fails kind site) l h w y s q k = o a (fails kind site) l h w y s tt k

  outcome_grown : (heap h : HeapMap) (t : ValueType) (K : Outcomes E) → Grows heap h → LeadsOutcome heap t K → LeadsOutcome h t K
  outcome_grown heap h t K w o a x i g y q k = o a x i (grows_trans w g) y q k

  verdict_grown : (heap h : HeapMap) (K : Verdicts E) → Grows heap h → LeadsVerdict heap K → LeadsVerdict h K
  verdict_grown heap h K w o a x i g y k = o a x i (grows_trans w g) y k

  exits_grown : (heap h : HeapMap) (K : Exits E) → Grows heap h → LeadsExits heap K → LeadsExits h K
  exits_grown heap h K w o a x l i g y s q k = o a x l i (grows_trans w g) y s q k

  uses_typed : (t : ValueType) (v : Value) (site : Site) (a : List E) (heap : HeapMap) (K : Outcomes E) → Well heap → IsCell heap t v → LeadsOutcome heap t K → Uses seen P.types calls v site a heap K → Z
  uses_typed t (Word z) site a heap K y q o h = o _ _ _ (grows_refl heap) y q h
  uses_typed t Null site a heap K y q o h = o _ _ _ (grows_refl heap) y q h
  uses_typed t (Block n) site a heap K y q o h = o _ _ _ (grows_refl heap) y q h
  uses_typed t Unwritten site a heap K y q o h = o _ _ _ (grows_refl heap) y tt h

  calculates_typed : (t : ValueType) (op : Arithmetic) (x z : Value) (a : List E) (heap : HeapMap) (K : Outcomes E) → t ≡ Int → Well heap → LeadsOutcome heap t K → Calculates seen P.types calls op x z a heap K → Z
  calculates_typed t op x z a heap K is y o h =
      some_to (on_words (calculation op) x z) (λ r. K a r heap) Z (λ r e. o a r heap (grows_refl heap) y (subst (λ u. FitsOutcome u heap r) (sym is) (words_fit heap op x z r e))) h

  loads_typed : (t : ValueType) (p : Value) (field : FieldId) (b : TypeId) (site : Site) (a : List E) (heap : HeapMap) (K : Outcomes E) → Well heap → type_of_cell P.types b field ≡ Some t → LeadsOutcome heap t K →
      Loads seen P.types calls p field b site a heap K → Z
  loads_typed t p field b site a heap K y is o h =
      pointer_to heap b.0 p (K (a ++ marking seen Access site) (errs (error NullDereference) site) heap) (K (a ++ marking seen Access site) (errs (error UseAfterFree) site) heap)
      (λ n cells. Uses seen P.types calls (value_at cells field.0) site (a ++ marking seen Access site) heap K) Z
      (o _ _ _ (grows_refl heap) y tt) (o _ _ _ (grows_refl heap) y tt)
      (λ n cells e h. uses_typed t (value_at cells field.0) site (a ++ marking seen Access site) heap K y
      (cell_at heap (types_of (slice_get P.types b.0)) cells field.0 t (cells_of heap (slice_get P.types b.0) cells (y.typed n (live_block b.0 cells) e)) is) o h) h

  reaches_typed : (p : Value) (b : TypeId) (site : Site) (a : List E) (heap : HeapMap) (err : List E → Halt → Site → HeapMap → Type 0) (on : List E → HeapMap → Type 0) → Well heap → LeadsErr heap err → LeadsOn heap on →
      Reaches seen P.types calls p b site a heap err on → Z
  reaches_typed p b site a heap err on y oe o h =
      pointer_to heap b.0 p (err (a ++ marking seen Access site) (error NullDereference) site heap) (err (a ++ marking seen Access site) (error UseAfterFree) site heap)
      (λ n cells. on (a ++ marking seen Access site) heap) Z
      (oe _ _ _ _ (grows_refl heap) y) (oe _ _ _ _ (grows_refl heap) y) (λ n cells e. o _ _ (grows_refl heap) y) h

  err_grown : (heap h : HeapMap) (err : List E → Halt → Site → HeapMap → Type 0) → Grows heap h → LeadsErr heap err → LeadsErr h err
  err_grown heap h err w o a kind at i g y k = o a kind at i (grows_trans w g) y k

  on_grown : (heap h : HeapMap) (on : List E → HeapMap → Type 0) → Grows heap h → LeadsOn heap on → LeadsOn h on
  on_grown heap h on w o a i g y k = o a i (grows_trans w g) y k

  stores_typed : (t : ValueType) (p : Value) (field : FieldId) (b : TypeId) (site : Site) (v : Value) (l : Locals) (a : List E) (heap : HeapMap) (K : Exits E) → Well heap → AreLocals locals heap l →
      type_of_cell P.types b field ≡ Some t → IsWritten heap t v → LeadsExits heap K → Stores seen P.types calls p field b site v l a heap K → Z
  stores_typed t p field b site v l a heap K y s is q o h =
      pointer_to heap b.0 p (K (a ++ marking seen Access site) (fails (error NullDereference) site) l heap) (K (a ++ marking seen Access site) (fails (error UseAfterFree) site) l heap)
      (λ n cells. K (a ++ marking seen Access site) falls l (with_block heap n (live_block b.0 (slice_set cells field.0 v)))) Z
      (o _ _ _ _ (grows_refl heap) y s tt) (o _ _ _ _ (grows_refl heap) y s tt)
      (λ n cells e.
      let new : HeapBlock = live_block b.0 (slice_set cells field.0 v) in
      let g : Grows heap (with_block heap n new) = grows_live heap n b.0 cells new.state e in
      let old = y.typed n (live_block b.0 cells) e in
      o _ _ _ _ g
      (typed_with P.types heap n new y g (with_cells heap (slice_get P.types b.0) cells (slice_set cells field.0 v) old
      (cell_put heap (types_of (slice_get P.types b.0)) cells field.0 t v (cells_of heap (slice_get P.types b.0) cells old) is (written_cell heap t v q))))
      (locals_grow g locals l s) tt) h

  frees_typed : (p : Value) (b : TypeId) (site : Site) (l : Locals) (a : List E) (heap : HeapMap) (K : Exits E) → Well heap → AreLocals locals heap l → LeadsExits heap K → Frees seen P.types calls p b site l a heap K → Z
  frees_typed p b site l a heap K y s o h =
      pointer_to heap b.0 p (K (a ++ marking seen FreeNull site) falls l heap) (K (a ++ marking seen FreedMark site) (fails (error DoubleFree) site) l heap)
      (λ n cells. K (a ++ marking seen FreedMark site) falls l (with_block heap n (freed_block b.0))) Z
      (o _ _ _ _ (grows_refl heap) y s tt) (o _ _ _ _ (grows_refl heap) y s tt)
      (λ n cells e.
      let g : Grows heap (with_block heap n (freed_block b.0)) = grows_live heap n b.0 cells Freed e in
      o _ _ _ _ g (typed_with P.types heap n (freed_block b.0) y g (freed_of heap (slice_get P.types b.0) (Live cells) (y.typed n (live_block b.0 cells) e))) (locals_grow g locals l s) tt) h

  returns_typed : (proc : ProcId) (site : Site) (used : Option ValueType) (a t : List E) (old new : HeapMap) (err : List E → Halt → Site → HeapMap → Type 0) (on : List E → Value → HeapMap → Type 0) (gives' : Option ValueType) (ending : Ending) →
      Grows old new → Well new → EndsTyped new gives' ending → IfSome used (λ u. gives' ≡ Some u) → LeadsErr old err →
      ((a : List E) (v : Value) (h : HeapMap) → Grows old h → Well h → IfSome used (λ u. IsCell h u v) → on a v h → Z) → Returns seen P.types calls proc site a t new err on ending → Z
  returns_typed proc site None a t old new err on r (Returned v) w y q is o g h = g _ v new w y tt h
  returns_typed proc site (Some u) a t old new err on r (Returned v) w y q is o g h = g _ v new w y (subst (λ r. IsResult new r v) is q) h
  returns_typed proc site used a t old new err on r (Failed kind at) w y q is o g h = o _ kind at new w y h

  call_typed : (proc : ProcId) (site : Site) (ts : List ValueType) (used : Option ValueType) (vs : List Value) (a : List E) (heap : HeapMap) (err : List E → Halt → Site → HeapMap → Type 0) (on : List E → Value → HeapMap → Type 0) →
      AgreesWith (P.procedures proc.0) ts used → Well heap → AreWritten heap ts vs → LeadsErr heap err →
      ((a : List E) (v : Value) (h : HeapMap) → Grows heap h → Well h → IfSome used (λ u. IsCell h u v) → on a v h → Z) → CallsProcedure seen P.types calls proc site vs a heap err on → Z
  call_typed proc site ts used vs a heap err on agrees y ws o g (t, ending, heap', c, h) =
      let (p, e, grow, stay) = called proc.0 vs heap t ending heap' c y in
      let agree = subst (λ o. AgreesWith o ts used) e agrees in
      let (y', q) = stay (subst (λ us. AreWritten heap us vs) (sym agree.0) ws) in
      returns_typed proc site used a t heap heap' err on p.result ending grow y' q agree.1 o g h

  branches_typed : (Yes No : Type 0) (site : Site) (a : List E) (heap : HeapMap) (K : Verdicts E) → Well heap → LeadsVerdict heap K → Branches seen P.types calls Yes No site a heap K → Z
  branches_typed Yes No site a heap K y o (inl h) = o _ _ _ (grows_refl heap) y h.1
  branches_typed Yes No site a heap K y o (inr h) = o _ _ _ (grows_refl heap) y h.1

  -- the operands of a comparison have one type
  compared : (r : Relation) (e f : Expression) (site : Site) → IsCondition P locals (compare r e f site) → (t : ValueType) × IsOf P locals t e × IsOf P locals t f
  compared relation.Equal e f site p = (Int, p.0, p.1)
  compared relation.Unequal e f site p = (Int, p.0, p.1)
  compared relation.Less e f site p = (Int, p.0, p.1)
  compared relation.Greater e f site p = (Int, p.0, p.1)
  compared relation.AtMost e f site p = (Int, p.0, p.1)
  compared relation.AtLeast e f site p = (Int, p.0, p.1)
  compared relation.SamePlace e f site p = (Pointer p.0, p.1, p.2)
  compared relation.OtherPlace e f site p = (Pointer p.0, p.1, p.2)

  mutual
    eval_typed : (e : Expression) (t : ValueType) (l : Locals) (a : List E) (heap : HeapMap) (K : Outcomes E) → IsOf P locals t e → Well heap → AreLocals locals heap l → LeadsOutcome heap t K → Evaluates seen P.types calls e l a heap K → Z
    eval_typed (constant z) t l a heap K p y s o h = o _ _ _ (grows_refl heap) y (int_is heap t (Word z) p.0 p.1) h
    eval_typed null t l a heap K p y s o h = o _ _ _ (grows_refl heap) y (subst (λ u. IsWritten heap u Null) (sym p.1) tt) h
    eval_typed (local n site) t l a heap K p y s o h = uses_typed t (l n) site a heap K y (s n t p) o h
    eval_typed (negated e) t l a heap K p y s o h =
        eval_typed e Int l a heap _ p.1 y s (value_leads heap t Int K _ o (λ a x h w y q. some_to (result_of Neg x (Word (pos 0))) (λ v. K a (gives v) h) Z (λ v e. o a (gives v) h w y (int_is h t v p.0 (word_written h _ x v e))))) h
    eval_typed (arithmetic op c d) t l a heap K p y s o h =
        eval_typed c Int l a heap _ p.1 y s (value_leads heap t Int K _ o (λ a x h w y q.
        eval_typed d Int l a h _ p.2 y (locals_grow w locals l s) (value_leads h t Int K _ (outcome_grown heap h t K w o) (λ a z i g y q.
        calculates_typed t op x z a i K p.0 y (outcome_grown heap i t K (grows_trans w g) o))))) h
    eval_typed (truth c) t l a heap K p y s o h =
        test_typed c l a heap _ p.1 y s (verdict_leads heap _ _ _ (λ a kind at h w y. o a (errs kind at) h w y tt)
        (λ a h w y. o a (gives (Word (pos 1))) h w y (int_is h t (Word (pos 1)) p.0 one_fits)) (λ a h w y. o a (gives (Word (pos 0))) h w y (int_is h t (Word (pos 0)) p.0 none_fits))) h
    eval_typed (cell e field b site) t l a heap K p y s o h =
        eval_typed e (Pointer b) l a heap _ p.0 y s (value_leads heap t (Pointer b) K _ o (λ a x h w y q. loads_typed t x field b site a h K y p.1 (outcome_grown heap h t K w o))) h
    eval_typed (allocate b site) t l a heap K p y s o (inl h) = o _ _ _ (grows_refl heap) y (subst (λ u. IsWritten heap u Null) (sym p.0) tt) h
    eval_typed (allocate b site) t l a heap K p y s o (inr (n, out, h)) =
        let new : HeapBlock = new_block P.types b.0 in
        let g : Grows heap (with_block heap n new) = grows_new heap n new out in
        o _ _ _ g (typed_with P.types heap n new y g (new_cells heap (slice_get P.types b.0) (defined_some (slice_get P.types b.0) p.1)))
        (subst (λ u. IsWritten (with_block heap n new) u (Block n)) (sym p.0) (put_type heap n new)) h
    eval_typed (get_char site) t l a heap K p y s o (z, low, high, h) = o _ _ _ (grows_refl heap) y (int_is heap t (Word z) p (input_fits z low high)) h
    eval_typed (call proc es r site) t l a heap K p y s o h =
        all_typed es p.1.0 l a heap _ _ p.1.1 y s (λ a kind at h w y. o a (errs kind at) h w y tt)
        (λ a vs h w y ws. call_typed proc site p.1.0 (Some r) vs a h _ _ p.1.2 y ws (λ a kind at i g y. o a (errs kind at) i (grows_trans w g) y tt)
        (λ a v i g y q. uses_typed t v site a i K y (subst (λ u. IsCell i u v) (sym p.0) q) (outcome_grown heap i t K (grows_trans w g) o))) h
    eval_typed (stop number site es) t l a heap K p y s o h =
        passes_typed es l a heap _ _ p y s (λ a kind at h w y. o a (errs kind at) h w y tt) (λ a h w y. o a (errs (outside number) site) h w y tt) h

    all_typed : (es : Arguments) (ts : List ValueType) (l : Locals) (a : List E) (heap : HeapMap) (err : List E → Halt → Site → HeapMap → Type 0) (on : List E → List Value → HeapMap → Type 0) → AreOf P locals ts es → Well heap → AreLocals locals heap l →
        LeadsErr heap err → ((a : List E) (vs : List Value) (h : HeapMap) → Grows heap h → Well h → AreWritten h ts vs → on a vs h → Z) → EvaluatesAll seen P.types calls es l a heap err on → Z
    all_typed no_arguments [] l a heap err on p y s oe o h = o _ _ _ (grows_refl heap) y tt h
    all_typed (an_argument (passed e) rest) (t ∷ ts) l a heap err on p y s oe o h =
        eval_typed e t l a heap _ p.0 y s (outcome_leads heap t err _ oe (λ a v h w y q.
        all_typed rest ts l a h err _ p.1 y (locals_grow w locals l s) (λ a kind at i g y. oe a kind at i (grows_trans w g) y)
        (λ a vs i g y ws. o a (v ∷ vs) i (grows_trans w g) y (written_grows g t v q, ws)))) h
    all_typed no_arguments (t ∷ ts) l a heap err on p y s oe o h = absurd p
    all_typed (an_argument (passed e) rest) [] l a heap err on p y s oe o h = absurd p
    all_typed (an_argument (erased parts) rest) ts l a heap err on p y s oe o h =
        passes_typed parts l a heap err _ p.0 y s oe (λ a h w y.
        all_typed rest ts l a h err on p.1 y (locals_grow w locals l s) (λ a kind at i g y. oe a kind at i (grows_trans w g) y)
        (λ a vs i g y ws. o a vs i (grows_trans w g) y ws)) h

    passes_typed : (es : Expressions) (l : Locals) (a : List E) (heap : HeapMap) (err : List E → Halt → Site → HeapMap → Type 0) (on : List E → HeapMap → Type 0) → ArePassed P locals es → Well heap → AreLocals locals heap l →
        LeadsErr heap err → LeadsOn heap on → PassesAll seen P.types calls es l a heap err on → Z
    passes_typed no_expressions l a heap err on p y s oe o h = o _ _ (grows_refl heap) y h
    passes_typed (an_expression (local n site) rest) l a heap err on p y s oe o h = passes_typed rest l a heap err on p.1 y s oe o h
    passes_typed (an_expression (cell e field b site) rest) l a heap err on p y s oe o h =
        eval_typed e (Pointer b) l a heap _ p.0.1.0 y s (outcome_leads heap (Pointer b) err _ oe (λ a x h w y q. reaches_typed x b site a h err _ y (err_grown heap h err w oe)
        (λ a i g y. passes_typed rest l a i err on p.1 y (locals_grow (grows_trans w g) locals l s) (err_grown heap i err (grows_trans w g) oe) (on_grown heap i on (grows_trans w g) o)))) h
    passes_typed (an_expression (call proc es result site) rest) l a heap err on p y s oe o h =
        all_typed es p.0.0 l a heap err _ p.0.1 y s oe (λ a vs h w y ws. call_typed proc site p.0.0 None vs a h err _ p.0.2 y ws (err_grown heap h err w oe)
        (λ a v i g y q. passes_typed rest l a i err on p.1 y (locals_grow (grows_trans w g) locals l s) (err_grown heap i err (grows_trans w g) oe) (on_grown heap i on (grows_trans w g) o))) h
    passes_typed (an_expression e rest) l a heap err on p y s oe o h =
        eval_typed e p.0.0 l a heap _ p.0.1 y s (outcome_leads heap p.0.0 err _ oe (λ a v h w y q. passes_typed rest l a h err on p.1 y (locals_grow w locals l s) (err_grown heap h err w oe) (on_grown heap h on w o))) h

    test_typed : (c : Condition) (l : Locals) (a : List E) (heap : HeapMap) (K : Verdicts E) → IsCondition P locals c → Well heap → AreLocals locals heap l → LeadsVerdict heap K → Tests seen P.types calls c l a heap K → Z
    test_typed (compare r c d site) l a heap K p y s o h =
        let (t, pc, pd) = compared r c d site p in
        eval_typed c t l a heap _ pc y s (outcome_leads heap t _ _ (λ a kind at h w y. o a (fault kind at) h w y) (λ a x h w y q.
        eval_typed d t l a h _ pd y (locals_grow w locals l s) (outcome_leads h t _ _ (λ a kind at i g y. o a (fault kind at) i (grows_trans w g) y) (λ a z i g y q.
        branches_typed _ _ site a i K y (verdict_grown heap i K (grows_trans w g) o))))) h
    test_typed (word e site) l a heap K p y s o h =
        eval_typed e Int l a heap _ p y s (outcome_leads heap Int _ _ (λ a kind at h w y. o a (fault kind at) h w y) (λ a x h w y q. branches_typed _ _ site a h K y (verdict_grown heap h K w o))) h
    test_typed (pointer e site) l a heap K p y s o h =
        eval_typed e (Pointer p.0) l a heap _ p.1 y s (outcome_leads heap (Pointer p.0) _ _ (λ a kind at h w y. o a (fault kind at) h w y) (λ a x h w y q. branches_typed _ _ site a h K y (verdict_grown heap h K w o))) h
    test_typed (both c d) l a heap K p y s o h =
        test_typed c l a heap _ p.0 y s (verdict_leads heap _ _ _ (λ a kind at h w y. o a (fault kind at) h w y)
        (λ a h w y. test_typed d l a h K p.1 y (locals_grow w locals l s) (verdict_grown heap h K w o)) (λ a h w y. o a no h w y)) h
    test_typed (either c d) l a heap K p y s o h =
        test_typed c l a heap _ p.0 y s (verdict_leads heap _ _ _ (λ a kind at h w y. o a (fault kind at) h w y) (λ a h w y. o a yes h w y)
        (λ a h w y. test_typed d l a h K p.1 y (locals_grow w locals l s) (verdict_grown heap h K w o))) h
    test_typed (opposite c) l a heap K p y s o h =
        test_typed c l a heap _ p y s (verdict_leads heap _ _ _ (λ a kind at h w y. o a (fault kind at) h w y) (λ a h w y. o a no h w y) (λ a h w y. o a yes h w y)) h

  failing_leads : (heap : HeapMap) (l : Locals) (K : Exits E) → AreLocals locals heap l → LeadsExits heap K → LeadsErr heap (failing seen P.types calls l K)
  failing_leads heap l K s o a kind site h w y k = o a (fails kind site) l h w y (locals_grow w locals l s) tt k

  takes_typed : (e : Expression) (t : ValueType) (l : Locals) (a : List E) (heap : HeapMap) (K : Exits E) (f : List E → Value → HeapMap → Type 0) → IsOf P locals t e → Well heap → AreLocals locals heap l → LeadsExits heap K → LeadsValue heap t f →
      Takes seen P.types calls e l a heap K f → Z
  takes_typed e t l a heap K f p y s o g h = eval_typed e t l a heap _ p y s (outcome_leads heap t (failing seen P.types calls l K) f (failing_leads heap l K s o) g) h

  declares_typed : (n : ℕ) (of : Option ValueType) (e : Option Expression) (l : Locals) (a : List E) (heap : HeapMap) (K : Exits E) → locals n ≡ of → IsDeclared P locals of e → Well heap → AreLocals locals heap l → LeadsExits heap K →
      Declares seen P.types calls n e l a heap K → Z
  declares_typed n None e l a heap K is p y s o h = absurd p
  declares_typed n (Some t) None l a heap K is p y s o h = o _ _ _ _ (grows_refl heap) y (locals_put heap locals l n Unwritten s (λ t e. tt)) tt h
  declares_typed n (Some t) (Some e) l a heap K is p y s o h =
      let unset : AreLocals locals heap (with_local l n Unwritten) = locals_put heap locals l n Unwritten s (λ t e. tt) in
      takes_typed e t (with_local l n Unwritten) a heap K _ p y unset o
      (λ a v h w y q. o a falls (with_local (with_local l n Unwritten) n v) h w y (locals_put h locals (with_local l n Unwritten) n v (locals_grow w locals (with_local l n Unwritten) unset) (of_local h locals n t v is q)) tt) h

  assigns_typed : (p : Place) (e : Expression) (t : ValueType) (l : Locals) (a : List E) (heap : HeapMap) (K : Exits E) → IsPlaceOf P locals t p → IsOf P locals t e → Well heap → AreLocals locals heap l → LeadsExits heap K →
      Assigns seen P.types calls p e l a heap K → Z
  assigns_typed (local_place n at) e t l a heap K is p y s o h =
      takes_typed e t l a heap K _ p y s o (λ a v h w y q. o a falls (with_local l n v) h w y (locals_put h locals l n v (locals_grow w locals l s) (of_local h locals n t v is q)) tt) h
  assigns_typed (cell_place c field b site) e t l a heap K is p y s o h =
      takes_typed c (Pointer b) l a heap K _ is.0 y s o (λ a x h w y q.
      takes_typed e t l a h K _ p y (locals_grow w locals l s) (exits_grown heap h K w o) (λ a v i g y q.
      stores_typed t x field b site v l a i K y (locals_grow (grows_trans w g) locals l s) is.1 q (exits_grown heap i K (grows_trans w g) o))) h

  updates_typed : (op : Arithmetic) (p : Place) (e : Expression) (l : Locals) (a : List E) (heap : HeapMap) (K : Exits E) → IsPlaceOf P locals Int p → IsOf P locals Int e → Well heap → AreLocals locals heap l → LeadsExits heap K →
      Updates seen P.types calls op p e l a heap K → Z
  updates_typed op (local_place n at) e l a heap K is p y s o h =
      uses_typed Int (l n) at a heap _ y (s n Int is) (outcome_leads heap Int (failing seen P.types calls l K) _ (failing_leads heap l K s o) (λ a x h w y q.
      takes_typed e Int l a h K _ p y (locals_grow w locals l s) (exits_grown heap h K w o) (λ a z i g y q.
      calculates_typed Int op x z a i _ refl y (outcome_leads i Int (failing seen P.types calls l K) _ (failing_leads i l K (locals_grow (grows_trans w g) locals l s) (exits_grown heap i K (grows_trans w g) o)) (λ a v j r y q.
      o a falls (with_local l n v) j (grows_trans (grows_trans w g) r) y (locals_put j locals l n v (locals_grow (grows_trans (grows_trans w g) r) locals l s) (of_local j locals n Int v is q)) tt))))) h
  updates_typed op (cell_place c field b site) e l a heap K is p y s o h =
      takes_typed c (Pointer b) l a heap K _ is.0 y s o (λ a place h w y q.
      loads_typed Int place field b site a h _ y is.1 (outcome_leads h Int (failing seen P.types calls l K) _ (failing_leads h l K (locals_grow w locals l s) (exits_grown heap h K w o)) (λ a x i g y q.
      takes_typed e Int l a i K _ p y (locals_grow (grows_trans w g) locals l s) (exits_grown heap i K (grows_trans w g) o) (λ a z j r y q.
      let grew = grows_trans (grows_trans w g) r in
      calculates_typed Int op x z a j _ refl y (outcome_leads j Int (failing seen P.types calls l K) _ (failing_leads j l K (locals_grow grew locals l s) (exits_grown heap j K grew o)) (λ a v k u y q.
      stores_typed Int place field b site v l a k K y (locals_grow (grows_trans grew u) locals l s) is.1 q (exits_grown heap k K (grows_trans grew u) o))))))) h

  tests_if_typed : (c : Option Condition) (l : Locals) (a : List E) (heap : HeapMap) (K : Verdicts E) → IsConditionIf P locals c → Well heap → AreLocals locals heap l → LeadsVerdict heap K → TestsIf seen P.types calls c l a heap K → Z
  tests_if_typed None l a heap K p y s o h = o _ _ _ (grows_refl heap) y h
  tests_if_typed (Some c) l a heap K p y s o h = test_typed c l a heap K p y s o h

  gives_typed : (r : Option ValueType) → result ≡ r → (e : Option Expression) (l : Locals) (a : List E) (heap : HeapMap) (K : Exits E) → IsReturned P locals r e → Well heap → AreLocals locals heap l → LeadsExits heap K → GivesBack seen P.types calls e l a heap K → Z
  gives_typed None is None l a heap K p y s o h = o _ _ _ _ (grows_refl heap) y s (subst (λ r. IsResult heap r Unwritten) (sym is) refl) h
  gives_typed (Some t) is (Some e) l a heap K p y s o h =
      takes_typed e t l a heap K _ p y s o (λ a v h w y q. o a (returns v) l h w y (locals_grow w locals l s) (subst (λ r. IsResult h r v) (sym is) (written_cell h t v q))) h
  gives_typed None is (Some e) l a heap K p y s o h = absurd p
  gives_typed (Some t) is None l a heap K p y s o h = absurd p

  abbrev TypedAll : (Locals → List E → HeapMap → Exits E → Type 0) → Type 1
  TypedAll X = (l : Locals) (a : List E) (heap : HeapMap) (K : Exits E) → Well heap → AreLocals locals heap l → LeadsExits heap K → X l a heap K → Z

  loops_typed : (bound : Option ℕ) (n made : ℕ) (site : Site) (c : Option Condition) (body after_body : Locals → List E → HeapMap → Exits E → Type 0) → IsConditionIf P locals c → TypedAll body → TypedAll after_body →
      TypedAll (Loops seen P.types calls bound n made site c body after_body)
  loops_typed bound zero made site c body after_body p b f l a heap K y s o h = absurd h
  loops_typed bound (suc n) made site c body after_body p b f l a heap K y s o h =
      tests_if_typed c l a heap _ p y s (verdict_leads heap (failing seen P.types calls l K) _ _ (failing_leads heap l K s o)
      (λ a h w y k. b l (a ++ marking seen Iter site) h _ y (locals_grow w locals l s) (body_leads h K _ (exits_grown heap h K w o) (λ a l i g y s.
      f l a i _ y s (fall_leads i K _ (exits_grown heap i K (grows_trans w g) o) (λ a l j r y s. loops_typed bound n (suc made) site c body after_body p b f l a j K y s (exits_grown heap j K (grows_trans (grows_trans w g) r) o))))) k.1)
      (λ a h w y. o (a ++ marking seen Done site) falls l h w y (locals_grow w locals l s) tt)) h

  mutual
    pub runs_typed : (bound : Option ℕ) (n : ℕ) (inside : Bool) (x : Statement) → IsStatement P locals result inside x → TypedAll (Executes seen P.types calls bound n x)
    runs_typed bound n inside (block ss) p l a heap K y s o h = all_runs_typed bound n inside ss p l a heap K y s o h
    runs_typed bound n inside (declare i e) p l a heap K y s o h = declares_typed i (locals i) e l a heap K refl p y s o h
    runs_typed bound n inside (assign c e) p l a heap K y s o h = assigns_typed c e p.0 l a heap K p.1 p.2 y s o h
    runs_typed bound n inside (update op c e) p l a heap K y s o h = updates_typed op c e l a heap K p.0 p.1 y s o h
    runs_typed bound n inside (run_call proc es site) p l a heap K y s o h =
        all_typed es p.0 l a heap (failing seen P.types calls l K) _ p.1 y s (failing_leads heap l K s o)
        (λ a vs h w y ws. call_typed proc site p.0 None vs a h (failing seen P.types calls l K) (λ a v h. K a falls l h) p.2 y ws (failing_leads h l K (locals_grow w locals l s) (exits_grown heap h K w o))
        (λ a v i g y q. o a falls l i (grows_trans w g) y (locals_grow (grows_trans w g) locals l s) tt)) h
    runs_typed bound n inside (free e b site) p l a heap K y s o h =
        takes_typed e (Pointer b) l a heap K _ p y s o (λ a v h w y q. frees_typed v b site l a h K y (locals_grow w locals l s) (exits_grown heap h K w o)) h
    runs_typed bound n inside (input site) p l a heap K y s o h =
        takes_typed (get_char site) Int l a heap K _ refl y s o (λ a v h w y q. o a falls l h w y (locals_grow w locals l s) tt) h
    runs_typed bound n inside (choose c first second) p l a heap K y s o h =
        test_typed c l a heap _ p.0 y s (verdict_leads heap (failing seen P.types calls l K) _ _ (failing_leads heap l K s o)
        (λ a h w y. runs_typed bound n inside first p.1 l a h K y (locals_grow w locals l s) (exits_grown heap h K w o))
        (λ a h w y. runs_typed bound n inside second p.2 l a h K y (locals_grow w locals l s) (exits_grown heap h K w o))) h
    runs_typed bound n inside (loop site c body after_body) p l a heap K y s o h =
        loops_typed bound n 0 site c (Executes seen P.types calls bound n body) (Executes seen P.types calls bound n after_body) p.0
        (runs_typed bound n true body p.1) (runs_typed bound n inside after_body p.3) l a heap K y s o h
    runs_typed bound n inside break p l a heap K y s o h = o _ _ _ _ (grows_refl heap) y s tt h
    runs_typed bound n inside continue p l a heap K y s o h = o _ _ _ _ (grows_refl heap) y s tt h
    runs_typed bound n inside (return e) p l a heap K y s o h = gives_typed result refl e l a heap K p y s o h
    runs_typed bound n inside (evaluate e) p l a heap K y s o h =
        passes_typed (an_expression e no_expressions) l a heap (failing seen P.types calls l K) _ p y s (failing_leads heap l K s o) (λ a h w y. o a falls l h w y (locals_grow w locals l s) tt) h
    runs_typed bound n inside (access e parts field b site) p l a heap K y s o h =
        takes_typed e (Pointer b) l a heap K _ p.0 y s o (λ a x h w y q.
        passes_typed parts l a h (failing seen P.types calls l K) _ p.1 y (locals_grow w locals l s) (failing_leads h l K (locals_grow w locals l s) (exits_grown heap h K w o)) (λ a i g y.
        let grew = grows_trans w g in
        reaches_typed x b site a i (failing seen P.types calls l K) (λ a h. K a falls l h) y (failing_leads i l K (locals_grow grew locals l s) (exits_grown heap i K grew o))
        (λ a j r y. o a falls l j (grows_trans grew r) y (locals_grow (grows_trans grew r) locals l s) tt))) h

    all_runs_typed : (bound : Option ℕ) (n : ℕ) (inside : Bool) (xs : Statements) → AreStatements P locals result inside xs → TypedAll (ExecutesAll seen P.types calls bound n xs)
    all_runs_typed bound n inside no_statements p l a heap K y s o h = o _ _ _ _ (grows_refl heap) y s tt h
    all_runs_typed bound n inside (a_statement x rest) p l a heap K y s o h =
        runs_typed bound n inside x p.0 l a heap _ y s (fall_leads heap K _ o (λ a l h w y s. all_runs_typed bound n inside rest p.1 l a h K y s (exits_grown heap h K w o))) h

-- ---- calls

module _ {E : Type 0} (seen : Event → E) (bound : Option ℕ) (P : TypedProgram) (keeps : KeepsTyping P) where
  -- a call ends typed
  abbrev Stays : Option ValueType → Ending → HeapMap → Type 0
  Stays result ending end = IsWellTyped P.types end × EndsTyped end result ending

  stayed : (result : Option ValueType) (ending ending' : Ending) (end h : HeapMap) → IsWellTyped P.types h → EndsTyped h result ending' → ending ≡ ending' → end ≡ h → Stays result ending end
  stayed result ending ending' end h y q e f =
      (subst (λ u. IsWellTyped P.types u) (sym f) y, subst (λ u. EndsTyped u result ending) (sym f) (subst (λ u. EndsTyped h result u) (sym e) q))

  closes_stay : (result : Option ValueType) (t : List E) (ending : Ending) (end : HeapMap) (a : List E) (x : Exit) (l : Locals) (h : HeapMap) → IsWellTyped P.types h → FitsExit result h x →
      closes t ending end a x l h → Stays result ending end
  closes_stay result t ending end a falls l h y q k = stayed result ending (Returned Unwritten) end h y (nothing_returned h result) k.1 k.2
  closes_stay result t ending end a (returns v) l h y q k = stayed result ending (Returned v) end h y q k.1 k.2
  closes_stay result t ending end a (fails kind site) l h y q k = stayed result ending (Failed kind site) end h y tt k.1 k.2
  closes_stay result t ending end a breaks l h y q k = absurd k
  closes_stay result t ending end a continues l h y q k = absurd k

  body_stays : (n f : ℕ) → Called P (TreeCallsWithin seen bound P n) → (p : ProcedureTree) → P.procedures f ≡ Some p → (arguments : List Value) (heap : HeapMap) (t : List E) (ending : Ending) (end : HeapMap) →
      IsWellTyped P.types heap → AreWritten heap p.parameters arguments →
      Executes seen P.types (TreeCallsWithin seen bound P n) bound n p.body (first_locals arguments) [] heap (closes t ending end) → Stays p.result ending end
  body_stays n f called p e arguments heap t ending end y ws h =
      runs_typed seen P (TreeCallsWithin seen bound P n) called (local_types p) p.result (Stays p.result ending end) bound n false p.body (keeps f p e)
      (first_locals arguments) [] heap (closes t ending end) y (first_are heap p.parameters p.locals arguments ws) (λ a x l h w y s q k. closes_stay p.result t ending end a x l h y q k) h

  called_stays : (n : ℕ) → Called P (TreeCallsWithin seen bound P n)
  called_stays zero f arguments heap t ending end c y = absurd c
  called_stays (suc n) f arguments heap t ending end c y =
      some_to (P.procedures f) (λ p. Executes seen P.types (TreeCallsWithin seen bound P n) bound n p.body (first_locals arguments) [] heap (closes t ending end))
      ((p : ProcedureTree) × (P.procedures f ≡ Some p) × Grows heap end × (AreWritten heap p.parameters arguments → Stays p.result ending end))
      (λ p e h. (p, e, tree_calls_within_grow seen bound P (suc n) f arguments heap t ending end c, λ ws. body_stays n f (called_stays n) p e arguments heap t ending end y ws h)) c

  pub tree_calls_stay : (f : ℕ) (p : ProcedureTree) → P.procedures f ≡ Some p → (arguments : List Value) (heap : HeapMap) → IsWellTyped P.types heap → AreWritten heap p.parameters arguments →
      (t : List E) (ending : Ending) (end : HeapMap) → SeenTreeCalls seen bound P f arguments heap t ending end → Stays p.result ending end
  tree_calls_stay f p e arguments heap y ws t ending end (n, c) =
      let (q, d, grow, stay) = called_stays n f arguments heap t ending end c y in
      let same : Some q ≡ Some p = sym d ∙ e in
      subst (λ o. IfSome o (λ p. AreWritten heap p.parameters arguments → Stays p.result ending end)) same stay ws
