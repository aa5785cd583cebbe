-- The constants of the commands of a tree that keeps the typing rules are words of 32 bits.
use Rattle.std.proofs.Common.{ℕ, suc, pos, Bool, true, List, [], ◌∷◌, ◌++◌, Option, None, Some, FitsSigned, rules}
use Rattle.std.specs.Prelude.{⊤}
use Rattle.std.specs.Int.{w32}
use Rattle.px_base.specs.declared.trace.Site.{Site}
use Rattle.px_core.specs.declared.command.Operand.{Operand}
use Rattle.px_core.specs.declared.command.Operand.TheVariants.{Slot, Word, Null}
use Rattle.px_core.specs.CommandTree.{CommandTree, commands_of}
use Rattle.px_core.specs.CommandTree as command
use Rattle.px_core.specs.Constants.{IsInRange, AreInRange, KeepsToRange, KeepToRange}
use Rattle.px_syntax.specs.declared.typed_expression.Arithmetic.{Arithmetic}
use Rattle.px_syntax.specs.declared.typed_expression.Relation.{Relation}
use Rattle.px_syntax.specs.declared.typed_expression.Relation.TheVariants as relation
use Rattle.px_syntax.specs.TypedTree.{Expression, constant, null, local, negated, arithmetic, truth, cell, allocate, get_char, call, stop, Expressions, no_expressions, an_expression, Arguments, no_arguments, an_argument, passed, erased, Condition, compare, word, pointer, both, either, opposite, Place, local_place, cell_place, Statement, block, declare, assign, update, run_call, free, input, choose, loop, break, continue, return, evaluate, access, Statements, no_statements, a_statement}
use Rattle.px_syntax.specs.declared.typed_expression.Arithmetic.TheVariants.{Add, Subtract, Multiply, Divide, Remainder}
use Rattle.px_meaning.specs.Values.{ValueType, Int, Pointer}
use Rattle.px_meaning.specs.TypedProgram.{TypedProgram}
use Rattle.px_meaning.specs.TreeTypes.{LocalTypes, IsOf, AreOf, ArePassed, IsCondition, IsPlaceOf, IsConditionIf, IsDeclared, IsReturned, IsStatement, AreStatements}
use Rattle.px_lower.specs.Lowering.{Lowered, and_then, doing, copy, reached, copied, lowered_expression, lowered_arguments, lowered_passed, lowered_condition, comparison, lowered_declaration, lowered_assignment, lowered_update, lowered_head, lowered_return, lowered_statement, lowered_statements, applied, operation, result_slot}
use Rattle.px_lower.proofs.Sequences.{Holds, holds_then, holds_alone}

zero_fits : FitsSigned w32 (pos 0)
zero_fits = search rules

one_fits : FitsSigned w32 (pos 1)
one_fits = search rules

abbrev All : List CommandTree → Type 0
All cs = KeepToRange (commands_of cs)

both_kept : (cs ds : List CommandTree) → All cs → All ds → All (cs ++ ds)
both_kept [] ds p q = q
both_kept (c ∷ cs) ds p q = (p.0, both_kept cs ds p.1 q)

-- the commands keep to the range, and so does the value
abbrev Kept : {A : Type 0} → (A → Type 0) → Lowered A → Type 0
Kept V x = Holds All V x

kept_then : {A B : Type 0} (V : A → Type 0) (W : B → Type 0) (x : Lowered A) (f : A → ℕ → Lowered B) → Kept V x → ((a : A) → V a → Kept W (f a x.next)) → Kept W (and_then x f)
kept_then V W x f h more = holds_then All both_kept V W x f h more

alone : {A : Type 0} (V : A → Type 0) (cs : List CommandTree) (a : A) (n : ℕ) → All cs → V a → Kept V (record { commands = cs; value = Some a; next = n })
alone V cs a n h v = holds_alone All both_kept V cs a n h v

abbrev Any : {A : Type 0} → A → Type 0
Any a = Unit {0}

compared : (r : Relation) (to : ℕ) (a b : Operand) (site : Site) → IsInRange a → IsInRange b → KeepsToRange (comparison r to a b site)
compared relation.SamePlace to a b site p q = (p, q)
compared relation.OtherPlace to a b site p q = (p, q)
compared relation.Equal to a b site p q = (p, q)
compared relation.Unequal to a b site p q = (p, q)
compared relation.Less to a b site p q = (p, q)
compared relation.Greater to a b site p q = (q, p)
compared relation.AtMost to a b site p q = (p, q)
compared relation.AtLeast to a b site p q = (q, p)

operation_kept : (op : Arithmetic) (a b : Operand) (n : ℕ) → IsInRange a → IsInRange b → All (operation op a b n)
operation_kept Add a b n p q = ((p, q), tt)
operation_kept Subtract a b n p q = ((p, q), tt)
operation_kept Multiply a b n p q = ((p, q), tt)
operation_kept (Divide site) a b n p q = ((p, q), tt)
operation_kept (Remainder site) a b n p q = ((p, q), ((tt, q), ((p, tt), tt)))

module _ (P : TypedProgram) (locals : LocalTypes) (result : Option ValueType) where
  operands : (r : Relation) (a b : Expression) (site : Site) → IsCondition P locals (compare r a b site) → (t : ValueType) × IsOf P locals t a × IsOf P locals t b
  operands relation.SamePlace a b site h = (Pointer h.0, h.1, h.2)
  operands relation.OtherPlace a b site h = (Pointer h.0, h.1, h.2)
  operands relation.Equal a b site h = (Int, h.0, h.1)
  operands relation.Unequal a b site h = (Int, h.0, h.1)
  operands relation.Less a b site h = (Int, h.0, h.1)
  operands relation.Greater a b site h = (Int, h.0, h.1)
  operands relation.AtMost a b site h = (Int, h.0, h.1)
  operands relation.AtLeast a b site h = (Int, h.0, h.1)

  right_kept : (d : Condition) (to : ℕ) → Kept Any (lowered_condition d (suc to)) → Kept Any (copied to (lowered_condition d (suc to)))
  right_kept d to h = kept_then Any Any (lowered_condition d (suc to)) _ h (λ right _. alone Any _ _ _ ((tt, zero_fits), tt) tt)

  mutual
    expression_kept : (t : ValueType) (e : Expression) (n : ℕ) → IsOf P locals t e → Kept IsInRange (lowered_expression e n)
    expression_kept t (constant z) n h = alone IsInRange [] (Word z) n tt h.1
    expression_kept t null n h = alone IsInRange [] Null n tt tt
    expression_kept t (local i site) n h = alone IsInRange _ (Slot i) n (tt, tt) tt
    expression_kept t (negated e) n h = kept_then IsInRange IsInRange (lowered_expression e n) _ (expression_kept Int e n h.1) (λ x r. alone IsInRange _ _ _ ((r, zero_fits), tt) tt)
    expression_kept t (arithmetic op a b) n h =
        let m = (lowered_expression a n).next in
        kept_then IsInRange IsInRange (lowered_expression a n) _ (expression_kept Int a n h.1) (λ x r.
        kept_then IsInRange IsInRange (lowered_expression b m) _ (expression_kept Int b m h.2) (λ y q. alone IsInRange _ _ _ (operation_kept op x y _ r q) tt))
    expression_kept t (truth c) n h = kept_then Any IsInRange (lowered_condition c n) _ (test_kept c n h.1) (λ slot _. alone IsInRange _ _ _ tt tt)
    expression_kept t (cell p field b site) n h =
        kept_then IsInRange IsInRange (lowered_expression p n) _ (expression_kept (Pointer b) p n h.0) (λ x r. alone IsInRange _ _ _ (r, (tt, tt)) tt)
    expression_kept t (allocate b site) n h = alone IsInRange _ _ _ (tt, tt) tt
    expression_kept t (get_char site) n h = alone IsInRange _ _ _ (tt, tt) tt
    expression_kept t (call proc es result' site) n h =
        kept_then AreInRange IsInRange (lowered_arguments es n) _ (each_kept h.1.0 es n h.1.1) (λ xs r. alone IsInRange _ _ _ (r, (tt, tt)) tt)
    expression_kept t (stop number site parts) n h =
        kept_then Any IsInRange (lowered_passed parts n) _ (passed_kept parts n h) (λ _ _. record { commands = (tt, tt); value = λ a is. cc })

    each_kept : (ts : List ValueType) (es : Arguments) (n : ℕ) → AreOf P locals ts es → Kept AreInRange (lowered_arguments es n)
    each_kept [] no_arguments n h = alone AreInRange [] [] n tt tt
    each_kept (t ∷ ts) (an_argument (passed e) rest) n h =
        let m = (lowered_expression e n).next in
        kept_then IsInRange AreInRange (lowered_expression e n) _ (expression_kept t e n h.0) (λ x r.
        kept_then AreInRange AreInRange (lowered_arguments rest m) _ (each_kept ts rest m h.1) (λ xs q. alone AreInRange _ _ _ tt (r, q)))
    each_kept [] (an_argument (passed e) rest) n h = absurd h
    each_kept (t ∷ ts) no_arguments n h = absurd h
    each_kept ts (an_argument (erased parts) rest) n h =
        kept_then Any AreInRange (lowered_passed parts n) (λ _ n. lowered_arguments rest n) (passed_kept parts n h.0) (λ x r. each_kept ts rest (lowered_passed parts n).next h.1)

    passed_kept : (es : Expressions) (n : ℕ) → ArePassed P locals es → Kept Any (lowered_passed es n)
    passed_kept no_expressions n h = alone Any [] tt n tt tt
    passed_kept (an_expression (local i site) rest) n h = passed_kept rest n h.1
    passed_kept (an_expression (cell p field b site) rest) n h =
        let m = (lowered_expression p n).next in
        kept_then IsInRange Any (lowered_expression p n) _ (expression_kept (Pointer b) p n h.0.1.0) (λ x r.
        let y = passed_kept rest (suc m) h.1 in
        record { commands = (r, (tt, y.commands)); value = λ a is. tt })
    passed_kept (an_expression (call proc es result' site) rest) n h =
        let m = (lowered_arguments es n).next in
        kept_then AreInRange Any (lowered_arguments es n) _ (each_kept h.0.0 es n h.0.1) (λ xs r.
        let y = passed_kept rest m h.1 in
        record { commands = (r, y.commands); value = λ a is. tt })
    passed_kept (an_expression (constant z) rest) n h =
        kept_then IsInRange Any (lowered_expression (constant z) n) (λ _ n. lowered_passed rest n) (expression_kept h.0.0 (constant z) n h.0.1) (λ x r. passed_kept rest (lowered_expression (constant z) n).next h.1)
    passed_kept (an_expression null rest) n h =
        kept_then IsInRange Any (lowered_expression null n) (λ _ n. lowered_passed rest n) (expression_kept h.0.0 null n h.0.1) (λ x r. passed_kept rest (lowered_expression null n).next h.1)
    passed_kept (an_expression (negated e) rest) n h =
        kept_then IsInRange Any (lowered_expression (negated e) n) (λ _ n. lowered_passed rest n) (expression_kept h.0.0 (negated e) n h.0.1) (λ x r. passed_kept rest (lowered_expression (negated e) n).next h.1)
    passed_kept (an_expression (arithmetic op a b) rest) n h =
        kept_then IsInRange Any (lowered_expression (arithmetic op a b) n) (λ _ n. lowered_passed rest n) (expression_kept h.0.0 (arithmetic op a b) n h.0.1) (λ x r. passed_kept rest (lowered_expression (arithmetic op a b) n).next h.1)
    passed_kept (an_expression (truth c) rest) n h =
        kept_then IsInRange Any (lowered_expression (truth c) n) (λ _ n. lowered_passed rest n) (expression_kept h.0.0 (truth c) n h.0.1) (λ x r. passed_kept rest (lowered_expression (truth c) n).next h.1)
    passed_kept (an_expression (allocate b site) rest) n h =
        kept_then IsInRange Any (lowered_expression (allocate b site) n) (λ _ n. lowered_passed rest n) (expression_kept h.0.0 (allocate b site) n h.0.1) (λ x r. passed_kept rest (lowered_expression (allocate b site) n).next h.1)
    passed_kept (an_expression (get_char site) rest) n h =
        kept_then IsInRange Any (lowered_expression (get_char site) n) (λ _ n. lowered_passed rest n) (expression_kept h.0.0 (get_char site) n h.0.1) (λ x r. passed_kept rest (lowered_expression (get_char site) n).next h.1)
    passed_kept (an_expression (stop number site parts) rest) n h =
        kept_then IsInRange Any (lowered_expression (stop number site parts) n) (λ _ n. lowered_passed rest n) (expression_kept h.0.0 (stop number site parts) n h.0.1) (λ x r. passed_kept rest (lowered_expression (stop number site parts) n).next h.1)

    test_kept : (c : Condition) (n : ℕ) → IsCondition P locals c → Kept Any (lowered_condition c n)
    test_kept (compare r a b site) n h =
        let m = (lowered_expression a n).next in
        let (t, ha, hb) = operands r a b site h in
        kept_then IsInRange Any (lowered_expression a n) _ (expression_kept t a n ha) (λ x p.
        kept_then IsInRange Any (lowered_expression b m) _ (expression_kept t b m hb) (λ y q.
        alone Any _ _ _ (compared r (lowered_expression b m).next x y site p q, tt) tt))
    test_kept (word e site) n h = kept_then IsInRange Any (lowered_expression e n) _ (expression_kept Int e n h) (λ x r. alone Any _ _ _ ((r, zero_fits), tt) tt)
    test_kept (pointer e site) n h = kept_then IsInRange Any (lowered_expression e n) _ (expression_kept (Pointer h.0) e n h.1) (λ x r. alone Any _ _ _ ((r, tt), tt) tt)
    test_kept (both c d) n h =
        let to = (lowered_condition c n).next in
        kept_then Any Any (lowered_condition c n) _ (test_kept c n h.0) (λ left _.
        alone Any _ _ _ ((tt, zero_fits), (((right_kept d to (test_kept d (suc to) h.1)).commands, tt), tt)) tt)
    test_kept (either c d) n h =
        let to = (lowered_condition c n).next in
        kept_then Any Any (lowered_condition c n) _ (test_kept c n h.0) (λ left _.
        alone Any _ _ _ ((tt, zero_fits), ((tt, (right_kept d to (test_kept d (suc to) h.1)).commands), tt)) tt)
    test_kept (opposite c) n h = kept_then Any Any (lowered_condition c n) _ (test_kept c n h) (λ slot _. alone Any _ _ _ ((one_fits, tt), tt) tt)

  -- commands whose value nothing asks for
  abbrev Done : Lowered ⊤ → Type 0
  Done x = Kept Any x

  declaration_kept : (i : ℕ) (o : Option ValueType) (e : Option Expression) (n : ℕ) → IsDeclared P locals o e → Done (lowered_declaration i e n)
  declaration_kept i None e n h = absurd h
  declaration_kept i (Some t) None n h = alone Any _ _ _ (tt, tt) tt
  declaration_kept i (Some t) (Some e) n h =
      let r = kept_then IsInRange Any (lowered_expression e n) (λ x n. doing (copy i x) n) (expression_kept t e n h) (λ x r. alone Any _ _ _ ((r, zero_fits), tt) tt) in
      record { commands = (tt, r.commands); value = λ a is. tt }

  assignment_kept : (t : ValueType) (place : Place) (e : Expression) (n : ℕ) → IsPlaceOf P locals t place → IsOf P locals t e → Done (lowered_assignment place e n)
  assignment_kept t (local_place i site) e n hp h = kept_then IsInRange Any (lowered_expression e n) _ (expression_kept t e n h) (λ x r. alone Any _ _ _ ((r, zero_fits), tt) tt)
  assignment_kept t (cell_place p field b site) e n hp h =
      let m = (lowered_expression p n).next in
      kept_then IsInRange Any (lowered_expression p n) _ (expression_kept (Pointer b) p n hp.0) (λ at r.
      kept_then IsInRange Any (lowered_expression e m) _ (expression_kept t e m h) (λ x q. alone Any _ _ _ ((r, q), tt) tt))

  update_kept : (op : Arithmetic) (place : Place) (e : Expression) (n : ℕ) → IsPlaceOf P locals Int place → IsOf P locals Int e → Done (lowered_update op place e n)
  update_kept op (local_place i site) e n hp h =
      let m = (lowered_expression e n).next in
      let r = kept_then IsInRange Any (lowered_expression e n) (λ x n. and_then (applied op (Slot i) x n) (λ new n. doing (copy i new) n)) (expression_kept Int e n h) (λ x r.
      alone Any _ _ _ (both_kept (operation op (Slot i) x m) (copy i (Slot (result_slot op m)) ∷ []) (operation_kept op (Slot i) x m tt r) ((tt, zero_fits), tt)) tt) in
      record { commands = (tt, r.commands); value = λ a is. tt }
  update_kept op (cell_place p field b site) e n hp h =
      let a = (lowered_expression p n).next in
      kept_then IsInRange Any (lowered_expression p n) _ (expression_kept (Pointer b) p n hp.0) (λ at r.
      let m = (lowered_expression e (suc a)).next in
      let y = kept_then IsInRange Any (lowered_expression e (suc a)) (λ x n. and_then (applied op (Slot a) x n) (λ new n. doing (command.store at field b new site) n)) (expression_kept Int e (suc a) h) (λ x q.
      alone Any _ _ _ (both_kept (operation op (Slot a) x m) (command.store at field b (Slot (result_slot op m)) site ∷ []) (operation_kept op (Slot a) x m tt q) ((r, tt), tt)) tt) in
      record { commands = (r, (tt, y.commands)); value = λ a is. tt })

  head_kept : (c : Option Condition) (n : ℕ) → IsConditionIf P locals c → Done (lowered_head c n)
  head_kept None n h = alone Any [] tt n tt tt
  head_kept (Some c) n h = kept_then Any Any (lowered_condition c n) _ (test_kept c n h) (λ slot _. alone Any _ _ _ ((tt, (tt, tt)), tt) tt)

  return_kept : (o : Option ValueType) (e : Option Expression) (n : ℕ) → IsReturned P locals o e → Done (lowered_return e n)
  return_kept None None n h = alone Any _ _ _ (tt, tt) tt
  return_kept None (Some e) n h = absurd h
  return_kept (Some t) None n h = absurd h
  return_kept (Some t) (Some e) n h = kept_then IsInRange Any (lowered_expression e n) _ (expression_kept t e n h) (λ x r. alone Any _ _ _ (r, tt) tt)

  mutual
    pub statement_kept : (inside : Bool) (s : Statement) (n : ℕ) → IsStatement P locals result inside s → Done (lowered_statement s n)
    statement_kept inside (block statements) n h = statements_kept inside statements n h
    statement_kept inside (declare i e) n h = declaration_kept i (locals i) e n h
    statement_kept inside (assign place e) n h = assignment_kept h.0 place e n h.1 h.2
    statement_kept inside (update op place e) n h = update_kept op place e n h.0 h.1
    statement_kept inside (run_call proc es site) n h = kept_then AreInRange Any (lowered_arguments es n) _ (each_kept h.0 es n h.1) (λ xs r. alone Any _ _ _ (r, tt) tt)
    statement_kept inside (free e b site) n h = kept_then IsInRange Any (lowered_expression e n) _ (expression_kept (Pointer b) e n h) (λ x r. alone Any _ _ _ (r, tt) tt)
    statement_kept inside (input site) n h = alone Any _ _ _ (tt, tt) tt
    statement_kept inside (choose c first second) n h =
        let m = (lowered_condition c n).next in
        let y = lowered_statement first m in
        kept_then Any Any (lowered_condition c n) _ (test_kept c n h.0) (λ slot _.
        alone Any _ _ _ (((statement_kept inside first m h.1).commands, (statement_kept inside second y.next h.2).commands), tt) tt)
    statement_kept inside (loop site c body step) n h =
        let x = lowered_head c n in
        let y = lowered_statement body x.next in
        alone Any _ _ _ (((head_kept c n h.0).commands, (statement_kept true body x.next h.1).commands, (statement_kept inside step y.next h.3).commands), tt) tt
    statement_kept inside break n h = alone Any _ _ _ (tt, tt) tt
    statement_kept inside continue n h = alone Any _ _ _ (tt, tt) tt
    statement_kept inside (return e) n h = return_kept result e n h
    statement_kept inside (evaluate e) n h = passed_kept (an_expression e no_expressions) n h
    statement_kept inside (access p parts field b site) n h =
        let m = (lowered_expression p n).next in
        kept_then IsInRange Any (lowered_expression p n) _ (expression_kept (Pointer b) p n h.0) (λ at r.
        kept_then Any Any (lowered_passed parts m) (λ _ n. reached at field b site n) (passed_kept parts m h.1) (λ u _. alone Any _ _ _ (r, (tt, tt)) tt))

    statements_kept : (inside : Bool) (ss : Statements) (n : ℕ) → AreStatements P locals result inside ss → Done (lowered_statements ss n)
    statements_kept inside no_statements n h = alone Any [] tt n tt tt
    statements_kept inside (a_statement s rest) n h =
        kept_then Any Any (lowered_statement s n) _ (statement_kept inside s n h.0) (λ _ _. statements_kept inside rest (lowered_statement s n).next h.1)
