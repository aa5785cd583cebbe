-- Trees that keep the typing rules have no locals but their procedure's, and no step that leaves its loop.
use Rattle.std.proofs.Common.{◌≡◌, ℕ, ◌<◌, Bool, true, false, IsTrue, List, [], ◌∷◌, ◌++◌, Option, None, Some, refl, subst, length-append}
use Rattle.std.proofs.lemmas.Option.{slice_get_within}
use Rattle.px_syntax.specs.declared.typed_expression.Relation.TheVariants as relation
use Rattle.px_syntax.specs.TypedTree.{Expression, constant, null, local, negated, arithmetic, truth, cell, allocate, get_char, call, stop, Expressions, no_expressions, an_expression, Arguments, no_arguments, an_argument, passed, erased, Condition, compare, word, pointer, both, either, opposite, Place, local_place, cell_place, Statement, block, declare, assign, update, run_call, free, input, choose, loop, break, continue, return, evaluate, access, Statements, no_statements, a_statement}
use Rattle.px_syntax.specs.ProgramTree.{ProcedureTree}
use Rattle.px_meaning.specs.Values.{ValueType, Int, Pointer}
use Rattle.px_meaning.specs.TypedProgram.{TypedProgram}
use Rattle.px_meaning.specs.TreeTypes.{LocalTypes, IsOf, AreOf, ArePassed, IsCondition, IsPlaceOf, IsConditionIf, IsDeclared, IsReturned, IsStep, AreSteps, IsStatement, AreStatements, local_types, IsTypedProcedure, KeepsTyping}
use Rattle.px_lower.specs.LoweredProgram.{locals_of}
use Rattle.px_lower.specs.Scopes.{IsWithin, AreWithin, AreArgumentsWithin, IsTestWithin, IsPlaceWithin, IsWithinIf, IsTestWithinIf, IsStatementWithin, AreStatementsWithin, KeepsScopes}

module _ (P : TypedProgram) (locals : LocalTypes) (m : ℕ) (below : (i : ℕ) (t : ValueType) → locals i ≡ Some t → i < m) where
  mutual
    within : (t : ValueType) (e : Expression) → IsOf P locals t e → IsWithin m e
    within t (constant z) h = tt
    within t null h = tt
    within t (local i site) h = below i t h
    within t (negated e) h = within Int e h.1
    within t (arithmetic op a b) h = (within Int a h.1, within Int b h.2)
    within t (truth c) h = test_within c h.1
    within t (cell p field b site) h = within (Pointer b) p h.0
    within t (allocate b site) h = tt
    within t (get_char site) h = tt
    within t (call proc es result site) h = each_within h.1.0 es h.1.1
    within t (stop number site parts) h = passed_within parts h

    each_within : (ts : List ValueType) (es : Arguments) → AreOf P locals ts es → AreArgumentsWithin m es
    each_within [] no_arguments h = tt
    each_within (t ∷ ts) (an_argument (passed e) rest) h = (within t e h.0, each_within ts rest h.1)
    each_within [] (an_argument (passed e) rest) h = absurd h
    each_within (t ∷ ts) no_arguments h = absurd h
    each_within ts (an_argument (erased parts) rest) h = (passed_within parts h.0, each_within ts rest h.1)

    passed_within : (es : Expressions) → ArePassed P locals es → AreWithin m es
    passed_within no_expressions h = tt
    passed_within (an_expression (call proc es result site) rest) h = (each_within h.0.0 es h.0.1, passed_within rest h.1)
    passed_within (an_expression (constant z) rest) h = (within h.0.0 (constant z) h.0.1, passed_within rest h.1)
    passed_within (an_expression null rest) h = (within h.0.0 null h.0.1, passed_within rest h.1)
    passed_within (an_expression (local i site) rest) h = (within h.0.0 (local i site) h.0.1, passed_within rest h.1)
    passed_within (an_expression (negated e) rest) h = (within h.0.0 (negated e) h.0.1, passed_within rest h.1)
    passed_within (an_expression (arithmetic op a b) rest) h = (within h.0.0 (arithmetic op a b) h.0.1, passed_within rest h.1)
    passed_within (an_expression (truth c) rest) h = (within h.0.0 (truth c) h.0.1, passed_within rest h.1)
    passed_within (an_expression (cell p field b site) rest) h = (within h.0.0 (cell p field b site) h.0.1, passed_within rest h.1)
    passed_within (an_expression (allocate b site) rest) h = (within h.0.0 (allocate b site) h.0.1, passed_within rest h.1)
    passed_within (an_expression (get_char site) rest) h = (within h.0.0 (get_char site) h.0.1, passed_within rest h.1)
    passed_within (an_expression (stop number site parts) rest) h = (within h.0.0 (stop number site parts) h.0.1, passed_within rest h.1)

    test_within : (c : Condition) → IsCondition P locals c → IsTestWithin m c
    test_within (compare relation.SamePlace a b site) h = (within (Pointer h.0) a h.1, within (Pointer h.0) b h.2)
    test_within (compare relation.OtherPlace a b site) h = (within (Pointer h.0) a h.1, within (Pointer h.0) b h.2)
    test_within (compare relation.Equal a b site) h = (within Int a h.0, within Int b h.1)
    test_within (compare relation.Unequal a b site) h = (within Int a h.0, within Int b h.1)
    test_within (compare relation.Less a b site) h = (within Int a h.0, within Int b h.1)
    test_within (compare relation.Greater a b site) h = (within Int a h.0, within Int b h.1)
    test_within (compare relation.AtMost a b site) h = (within Int a h.0, within Int b h.1)
    test_within (compare relation.AtLeast a b site) h = (within Int a h.0, within Int b h.1)
    test_within (word e site) h = within Int e h
    test_within (pointer e site) h = within (Pointer h.0) e h.1
    test_within (both c d) h = (test_within c h.0, test_within d h.1)
    test_within (either c d) h = (test_within c h.0, test_within d h.1)
    test_within (opposite c) h = test_within c h

  place_within : (t : ValueType) (place : Place) → IsPlaceOf P locals t place → IsPlaceWithin m place
  place_within t (local_place i site) h = below i t h
  place_within t (cell_place p field b site) h = within (Pointer b) p h.0

  test_if : (c : Option Condition) → IsConditionIf P locals c → IsTestWithinIf m c
  test_if None h = tt
  test_if (Some c) h = test_within c h

  declared : (i : ℕ) (o : Option ValueType) (e : Option Expression) → locals i ≡ o → IsDeclared P locals o e → (i < m) × IsWithinIf m e
  declared i None e is h = absurd h
  declared i (Some t) None is h = (below i t is, tt)
  declared i (Some t) (Some e) is h = (below i t is, within t e h)

  returned : (result : Option ValueType) (e : Option Expression) → IsReturned P locals result e → IsWithinIf m e
  returned None None h = tt
  returned None (Some e) h = absurd h
  returned (Some t) None h = absurd h
  returned (Some t) (Some e) h = within t e h

  mutual
    statement_within : (result : Option ValueType) (inside leaves : Bool) → (IsTrue inside → IsTrue leaves) → (s : Statement) → IsStatement P locals result inside s → IsStatementWithin m leaves s
    statement_within result inside leaves may (block statements) h = statements_within result inside leaves may statements h
    statement_within result inside leaves may (declare i e) h = declared i (locals i) e refl h
    statement_within result inside leaves may (assign place e) h = (place_within h.0 place h.1, within h.0 e h.2)
    statement_within result inside leaves may (update op place e) h = (place_within Int place h.0, within Int e h.1)
    statement_within result inside leaves may (run_call proc es site) h = each_within h.0 es h.1
    statement_within result inside leaves may (free e b site) h = within (Pointer b) e h
    statement_within result inside leaves may (input site) h = tt
    statement_within result inside leaves may (choose c first second) h = (test_within c h.0, statement_within result inside leaves may first h.1, statement_within result inside leaves may second h.2)
    statement_within result inside leaves may (loop site c body step) h =
        (test_if c h.0, statement_within result true true (λ q. q) body h.1, step_within result inside step h.2 h.3)
    statement_within result inside leaves may break h = may h
    statement_within result inside leaves may continue h = may h
    statement_within result inside leaves may (return e) h = returned result e h
    statement_within result inside leaves may (evaluate e) h = (passed_within (an_expression e no_expressions) h).0
    statement_within result inside leaves may (access p parts field b site) h = (within (Pointer b) p h.0, passed_within parts h.1)

    statements_within : (result : Option ValueType) (inside leaves : Bool) → (IsTrue inside → IsTrue leaves) → (ss : Statements) → AreStatements P locals result inside ss → AreStatementsWithin m leaves ss
    statements_within result inside leaves may no_statements h = tt
    statements_within result inside leaves may (a_statement s rest) h = (statement_within result inside leaves may s h.0, statements_within result inside leaves may rest h.1)

    step_within : (result : Option ValueType) (inside : Bool) (s : Statement) → IsStep P locals s → IsStatement P locals result inside s → IsStatementWithin m false s
    step_within result inside (block statements) k h = steps_within result inside statements k h
    step_within result inside (assign place e) k h = (place_within h.0 place h.1, within h.0 e h.2)
    step_within result inside (update op place e) k h = (place_within Int place h.0, within Int e h.1)
    step_within result inside (run_call proc es site) k h = each_within h.0 es h.1
    step_within result inside (free e b site) k h = within (Pointer b) e h
    step_within result inside (input site) k h = tt
    step_within result inside (declare i e) k h = absurd k
    step_within result inside (choose c first second) k h = absurd k
    step_within result inside (loop site c body step) k h = absurd k
    step_within result inside break k h = absurd k
    step_within result inside continue k h = absurd k
    step_within result inside (return e) k h = absurd k
    step_within result inside (evaluate e) k h = (passed_within (an_expression e no_expressions) h).0
    step_within result inside (access p parts field b site) k h = (within (Pointer b) p h.0, passed_within parts h.1)

    steps_within : (result : Option ValueType) (inside : Bool) (ss : Statements) → AreSteps P locals ss → AreStatements P locals result inside ss → AreStatementsWithin m false ss
    steps_within result inside no_statements k h = tt
    steps_within result inside (a_statement s rest) k h = (step_within result inside s k.0 h.0, steps_within result inside rest k.1 h.1)

-- no procedure breaks or continues outside of loops
pub body_within : (P : TypedProgram) (p : ProcedureTree) (leaves : Bool) → IsTypedProcedure P p → IsStatementWithin (locals_of p) leaves p.body
body_within P p leaves typed =
    statement_within P (local_types p) (locals_of p)
    (λ i t h. subst (λ n. i < n) (length-append p.parameters p.locals) (slice_get_within (p.parameters ++ p.locals) i t h))
    p.result false leaves (λ h. let d : false ≡ true = h in cc) p.body typed

pub keeps_scopes : (P : TypedProgram) → KeepsTyping P → KeepsScopes P
keeps_scopes P typed f p is = body_within P p true (typed f p is)
