-- The commands of a tree whose callees and block types are listed name none but these.
use Rattle.std.proofs.Common.{ℕ, suc, List, [], ◌∷◌, ◌++◌, Option, None, Some}
use Rattle.px_base.specs.declared.trace.Site.{Site}
use Rattle.px_core.specs.declared.command.Operand.{Operand}
use Rattle.px_core.specs.declared.command.Operand.TheVariants.{Slot}
use Rattle.px_core.specs.CommandTree.{CommandTree, commands_of}
use Rattle.px_core.specs.CommandTree as command
use Rattle.px_syntax.specs.declared.typed_expression.Arithmetic.{Arithmetic}
use Rattle.px_syntax.specs.declared.typed_expression.Relation.{Relation}
use Rattle.px_syntax.specs.declared.typed_expression.Relation.TheVariants as relation
use Rattle.px_syntax.specs.TypedTree.{Expression, constant, null, local, negated, arithmetic, truth, cell, allocate, get_char, call, stop, Expressions, no_expressions, an_expression, Arguments, no_arguments, an_argument, passed, erased, Condition, compare, word, pointer, both, either, opposite, Place, local_place, cell_place, Statement, block, declare, assign, update, run_call, free, input, choose, loop, break, continue, return, evaluate, access, Statements, no_statements, a_statement}
use Rattle.px_syntax.specs.declared.typed_expression.Arithmetic.TheVariants.{Add, Subtract, Multiply, Divide, Remainder}
use Rattle.px_lower.specs.Lowering.{Lowered, and_then, doing, copy, lowered_expression, lowered_arguments, lowered_passed, lowered_condition, comparison, lowered_declaration, lowered_assignment, lowered_update, lowered_head, lowered_return, lowered_statement, lowered_statements, applied, operation, result_slot}
use Rattle.px_lower.proofs.Sequences.{commands_then}
use Rattle.px_programs.specs.Numbers.{IsListed, AreListed, AreArgumentsListed, IsTestListed, IsPlaceListed, IsListedIf, IsTestListedIf, IsStatementListed, AreStatementsListed}
use Rattle.px_programs.specs.ListedBodies.{IsCommandListed, AreCommandsListed}

module _ (names types : ℕ) where
  abbrev Is : CommandTree → Type 0
  Is = IsCommandListed names types

  abbrev All : List CommandTree → Type 0
  All cs = AreCommandsListed names types (commands_of cs)

  all_both : (cs ds : List CommandTree) → All cs → All ds → All (cs ++ ds)
  all_both [] ds p q = q
  all_both (c ∷ cs) ds p q = (p.0, all_both cs ds p.1 q)

  then' : {A B : Type 0} (x : Lowered A) (f : A → ℕ → Lowered B) → All x.commands → ((a : A) → All (f a x.next).commands) → All (and_then x f).commands
  then' x f h more = commands_then All all_both x f h more

  compared : (r : Relation) (to : ℕ) (a b : Operand) (site : Site) → Is (comparison r to a b site)
  compared relation.SamePlace to a b site = tt
  compared relation.OtherPlace to a b site = tt
  compared relation.Equal to a b site = tt
  compared relation.Unequal to a b site = tt
  compared relation.Less to a b site = tt
  compared relation.Greater to a b site = tt
  compared relation.AtMost to a b site = tt
  compared relation.AtLeast to a b site = tt

  operation_listed : (op : Arithmetic) (a b : Operand) (n : ℕ) → All (operation op a b n)
  operation_listed Add a b n = (tt, tt)
  operation_listed Subtract a b n = (tt, tt)
  operation_listed Multiply a b n = (tt, tt)
  operation_listed (Divide site) a b n = (tt, tt)
  operation_listed (Remainder site) a b n = (tt, (tt, (tt, tt)))

  mutual
    expression_listed : (e : Expression) (n : ℕ) → IsListed names types e → All (lowered_expression e n).commands
    expression_listed (constant z) n h = tt
    expression_listed null n h = tt
    expression_listed (local i site) n h = (tt, tt)
    expression_listed (negated e) n h = then' (lowered_expression e n) _ (expression_listed e n h) (λ x. (tt, tt))
    expression_listed (arithmetic op a b) n h =
        let m = (lowered_expression a n).next in
        then' (lowered_expression a n) _ (expression_listed a n h.0) (λ x. then' (lowered_expression b m) _ (expression_listed b m h.1) (λ y. operation_listed op x y (lowered_expression b m).next))
    expression_listed (truth c) n h = then' (lowered_condition c n) _ (test_listed c n h) (λ slot. tt)
    expression_listed (cell p field b site) n h = then' (lowered_expression p n) _ (expression_listed p n h.0) (λ x. (h.1, (tt, tt)))
    expression_listed (allocate b site) n h = (h, tt)
    expression_listed (get_char site) n h = (tt, tt)
    expression_listed (call proc es result site) n h = then' (lowered_arguments es n) _ (each_listed es n h.1) (λ xs. (h.0, (tt, tt)))
    expression_listed (stop number site parts) n h = then' (lowered_passed parts n) _ (passed_listed parts n h) (λ u. (tt, tt))

    each_listed : (es : Arguments) (n : ℕ) → AreArgumentsListed names types es → All (lowered_arguments es n).commands
    each_listed no_arguments n h = tt
    each_listed (an_argument (passed e) rest) n h =
        let m = (lowered_expression e n).next in
        then' (lowered_expression e n) _ (expression_listed e n h.0) (λ x. then' (lowered_arguments rest m) _ (each_listed rest m h.1) (λ xs. tt))
    each_listed (an_argument (erased parts) rest) n h = then' (lowered_passed parts n) (λ _ n. lowered_arguments rest n) (passed_listed parts n h.0) (λ u. each_listed rest (lowered_passed parts n).next h.1)

    passed_listed : (es : Expressions) (n : ℕ) → AreListed names types es → All (lowered_passed es n).commands
    passed_listed no_expressions n h = tt
    passed_listed (an_expression (local i site) rest) n h = passed_listed rest n h.1
    passed_listed (an_expression (cell p field b site) rest) n h =
        let m = (lowered_expression p n).next in
        then' (lowered_expression p n) _ (expression_listed p n h.0.0) (λ x. (h.0.1, (tt, passed_listed rest (suc m) h.1)))
    passed_listed (an_expression (call proc es result site) rest) n h =
        let m = (lowered_arguments es n).next in
        then' (lowered_arguments es n) _ (each_listed es n h.0.1) (λ xs. (h.0.0, passed_listed rest m h.1))
    passed_listed (an_expression (constant z) rest) n h = then' (lowered_expression (constant z) n) (λ _ n. lowered_passed rest n) (expression_listed (constant z) n h.0) (λ x. passed_listed rest (lowered_expression (constant z) n).next h.1)
    passed_listed (an_expression null rest) n h = then' (lowered_expression null n) (λ _ n. lowered_passed rest n) (expression_listed null n h.0) (λ x. passed_listed rest (lowered_expression null n).next h.1)
    passed_listed (an_expression (negated e) rest) n h = then' (lowered_expression (negated e) n) (λ _ n. lowered_passed rest n) (expression_listed (negated e) n h.0) (λ x. passed_listed rest (lowered_expression (negated e) n).next h.1)
    passed_listed (an_expression (arithmetic op a b) rest) n h = then' (lowered_expression (arithmetic op a b) n) (λ _ n. lowered_passed rest n) (expression_listed (arithmetic op a b) n h.0) (λ x. passed_listed rest (lowered_expression (arithmetic op a b) n).next h.1)
    passed_listed (an_expression (truth c) rest) n h = then' (lowered_expression (truth c) n) (λ _ n. lowered_passed rest n) (expression_listed (truth c) n h.0) (λ x. passed_listed rest (lowered_expression (truth c) n).next h.1)
    passed_listed (an_expression (allocate b site) rest) n h = then' (lowered_expression (allocate b site) n) (λ _ n. lowered_passed rest n) (expression_listed (allocate b site) n h.0) (λ x. passed_listed rest (lowered_expression (allocate b site) n).next h.1)
    passed_listed (an_expression (get_char site) rest) n h = then' (lowered_expression (get_char site) n) (λ _ n. lowered_passed rest n) (expression_listed (get_char site) n h.0) (λ x. passed_listed rest (lowered_expression (get_char site) n).next h.1)
    passed_listed (an_expression (stop number site parts) rest) n h = then' (lowered_expression (stop number site parts) n) (λ _ n. lowered_passed rest n) (expression_listed (stop number site parts) n h.0) (λ x. passed_listed rest (lowered_expression (stop number site parts) n).next h.1)

    test_listed : (c : Condition) (n : ℕ) → IsTestListed names types c → All (lowered_condition c n).commands
    test_listed (compare r a b site) n h =
        let m = (lowered_expression a n).next in
        then' (lowered_expression a n) _ (expression_listed a n h.0) (λ x. then' (lowered_expression b m) _ (expression_listed b m h.1) (λ y. (compared r (lowered_expression b m).next x y site, tt)))
    test_listed (word e site) n h = then' (lowered_expression e n) _ (expression_listed e n h) (λ x. (tt, tt))
    test_listed (pointer e site) n h = then' (lowered_expression e n) _ (expression_listed e n h) (λ x. (tt, tt))
    test_listed (both c d) n h =
        let m = (lowered_condition c n).next in
        then' (lowered_condition c n) _ (test_listed c n h.0) (λ left.
        (tt, ((then' (lowered_condition d (suc m)) (λ right n. doing (copy m (Slot right)) n) (test_listed d (suc m) h.1) (λ right. (tt, tt)), tt), tt)))
    test_listed (either c d) n h =
        let m = (lowered_condition c n).next in
        then' (lowered_condition c n) _ (test_listed c n h.0) (λ left.
        (tt, ((tt, then' (lowered_condition d (suc m)) (λ right n. doing (copy m (Slot right)) n) (test_listed d (suc m) h.1) (λ right. (tt, tt))), tt)))
    test_listed (opposite c) n h = then' (lowered_condition c n) _ (test_listed c n h) (λ slot. (tt, tt))

  declaration_listed : (i : ℕ) (e : Option Expression) (n : ℕ) → IsListedIf names types e → All (lowered_declaration i e n).commands
  declaration_listed i None n h = (tt, tt)
  declaration_listed i (Some e) n h = (tt, then' (lowered_expression e n) (λ x n. doing (copy i x) n) (expression_listed e n h) (λ x. (tt, tt)))

  assignment_listed : (place : Place) (e : Expression) (n : ℕ) → IsPlaceListed names types place → IsListed names types e → All (lowered_assignment place e n).commands
  assignment_listed (local_place i site) e n hp h = then' (lowered_expression e n) _ (expression_listed e n h) (λ x. (tt, tt))
  assignment_listed (cell_place p field b site) e n hp h =
      let m = (lowered_expression p n).next in
      then' (lowered_expression p n) _ (expression_listed p n hp.0) (λ at. then' (lowered_expression e m) _ (expression_listed e m h) (λ x. (hp.1, tt)))

  update_listed : (op : Arithmetic) (place : Place) (e : Expression) (n : ℕ) → IsPlaceListed names types place → IsListed names types e → All (lowered_update op place e n).commands
  update_listed op (local_place i site) e n hp h =
      let m = (lowered_expression e n).next in (
        tt,
        then' (lowered_expression e n) (λ x n. and_then (applied op (Slot i) x n) (λ new n. doing (copy i new) n)) (expression_listed e n h) (λ x.
            all_both (operation op (Slot i) x m) (copy i (Slot (result_slot op m)) ∷ []) (operation_listed op (Slot i) x m) (tt, tt)),
      )
  update_listed op (cell_place p field b site) e n hp h =
      let a = (lowered_expression p n).next in
      then' (lowered_expression p n) _ (expression_listed p n hp.0) (λ at.
      let m = (lowered_expression e (suc a)).next in (
        hp.1,
        (
          tt,
          then' (lowered_expression e (suc a)) (λ x n. and_then (applied op (Slot a) x n) (λ new n. doing (command.store at field b new site) n)) (expression_listed e (suc a) h) (λ x.
              all_both (operation op (Slot a) x m) (command.store at field b (Slot (result_slot op m)) site ∷ []) (operation_listed op (Slot a) x m) (hp.1, tt)),
        ),
      ))

  head_listed : (c : Option Condition) (n : ℕ) → IsTestListedIf names types c → All (lowered_head c n).commands
  head_listed None n h = tt
  head_listed (Some c) n h = then' (lowered_condition c n) _ (test_listed c n h) (λ slot. ((tt, (tt, tt)), tt))

  return_listed : (e : Option Expression) (n : ℕ) → IsListedIf names types e → All (lowered_return e n).commands
  return_listed None n h = (tt, tt)
  return_listed (Some e) n h = then' (lowered_expression e n) _ (expression_listed e n h) (λ x. (tt, tt))

  mutual
    pub statement_listed : (s : Statement) (n : ℕ) → IsStatementListed names types s → All (lowered_statement s n).commands
    statement_listed (block statements) n h = statements_listed statements n h
    statement_listed (declare i e) n h = declaration_listed i e n h
    statement_listed (assign place e) n h = assignment_listed place e n h.0 h.1
    statement_listed (update op place e) n h = update_listed op place e n h.0 h.1
    statement_listed (run_call proc es site) n h = then' (lowered_arguments es n) _ (each_listed es n h.1) (λ xs. (h.0, tt))
    statement_listed (free e b site) n h = then' (lowered_expression e n) _ (expression_listed e n h.0) (λ x. (h.1, tt))
    statement_listed (input site) n h = (tt, tt)
    statement_listed (choose c first second) n h =
        let m = (lowered_condition c n).next in
        then' (lowered_condition c n) _ (test_listed c n h.0) (λ slot. ((statement_listed first m h.1, statement_listed second (lowered_statement first m).next h.2), tt))
    statement_listed (loop site c body step) n h =
        let x = lowered_head c n in
        let y = lowered_statement body x.next in
        ((head_listed c n h.0, statement_listed body x.next h.1, statement_listed step y.next h.2), tt)
    statement_listed break n h = (tt, tt)
    statement_listed continue n h = (tt, tt)
    statement_listed (return e) n h = return_listed e n h
    statement_listed (evaluate e) n h = passed_listed (an_expression e no_expressions) n (h, tt)
    statement_listed (access e parts field b site) n h =
        let m = (lowered_expression e n).next in
        then' (lowered_expression e n) _ (expression_listed e n h.0) (λ x. then' (lowered_passed parts m) _ (passed_listed parts m h.1) (λ u. (h.2, (tt, tt))))

    statements_listed : (ss : Statements) (n : ℕ) → AreStatementsListed names types ss → All (lowered_statements ss n).commands
    statements_listed no_statements n h = tt
    statements_listed (a_statement s rest) n h = then' (lowered_statement s n) _ (statement_listed s n h.0) (λ u. statements_listed rest (lowered_statement s n).next h.1)
