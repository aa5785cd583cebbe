-- Sizes of typed trees, and the measure of a replay: how deep calls may still nest, and what is left of the tree.
use Rattle.std.proofs.Common.{◌≡◌, ◌∙◌, sym, ap, subst, ℕ, zero, suc, ◌+◌, ◌-◌, ◌*◌, ◌<◌, ◌≤◌, arith, List, [], ◌∷◌, map, length, get_or, Option, Some, None, slice_get}
use Rattle.px_syntax.specs.declared.program.Procedure.{Procedure}
use Rattle.px_syntax.specs.declared.typed_expression.CellLink.{CellLink}
use Rattle.px_syntax.specs.declared.typed_expression.ArithmeticLink.{ArithmeticLink}
use Rattle.px_syntax.specs.declared.typed_expression.RelationLink.{RelationLink}
use Rattle.px_syntax.specs.declared.typed_expression.TypedExpression.{TypedExpression}
use Rattle.px_syntax.specs.declared.typed_expression.Argument.{Argument as RustArgument}
use Rattle.px_syntax.specs.declared.typed_expression.Condition.{Condition as RustCondition}
use Rattle.px_syntax.specs.declared.typed_statement.TypedStatement.{TypedStatement}
use Rattle.px_syntax.specs.TypedTree.{Expression, constant, null, local, negated, arithmetic, truth, cell, allocate, get_char, call, stop, Expressions, no_expressions, an_expression, Arguments, Argument, no_arguments, an_argument, passed, erased, Condition, compare, word, pointer, both, either, opposite, Place, local_place, cell_place, Statement, block, declare, assign, update, run_call, free, input, choose, loop, break, continue, return, evaluate, access, Statements, no_statements, a_statement, expressions_of, arguments_of, statements_of}
use Rattle.px_syntax.specs.TypedViews.{ArithmeticLinkTree, RelationLinkTree, typed_expression, typed_argument, typed_condition, typed_statement, arithmetic_link, relation_link, calculated, compared, cells, all_of, any_of}
use Rattle.px_replay.specs.declared.callees.Callees.{Callees}

abbrev mutual
  pub size_of : Expression → ℕ
  size_of (constant z) = 1
  size_of null = 1
  size_of (local n site) = 1
  size_of (negated e) = suc (size_of e)
  size_of (arithmetic op a b) = suc (size_of a + size_of b)
  size_of (truth c) = suc (test_size c)
  size_of (cell p field t site) = suc (size_of p)
  size_of (allocate t site) = 1
  size_of (get_char site) = 1
  size_of (call proc es result site) = suc (arguments_size es)
  size_of (stop number site parts) = suc (sizes_of parts)

  pub sizes_of : Expressions → ℕ
  sizes_of no_expressions = 0
  sizes_of (an_expression e rest) = size_of e + sizes_of rest

  pub arguments_size : Arguments → ℕ
  arguments_size no_arguments = 0
  arguments_size (an_argument a rest) = argument_size a + arguments_size rest

  pub argument_size : Argument → ℕ
  argument_size (passed e) = size_of e
  argument_size (erased parts) = suc (sizes_of parts)

  pub test_size : Condition → ℕ
  test_size (compare r a b site) = suc (size_of a + size_of b)
  test_size (word e site) = suc (size_of e)
  test_size (pointer e site) = suc (size_of e)
  test_size (both c d) = suc (test_size c + test_size d)
  test_size (either c d) = suc (test_size c + test_size d)
  test_size (opposite c) = suc (test_size c)

abbrev pub value_size : Option Expression → ℕ
value_size None = 0
value_size (Some e) = size_of e

abbrev pub test_size_if : Option Condition → ℕ
test_size_if None = 0
test_size_if (Some c) = test_size c

abbrev pub place_size : Place → ℕ
place_size (local_place n site) = 0
place_size (cell_place p field t site) = size_of p

abbrev mutual
  pub statement_size : Statement → ℕ
  statement_size (block all) = suc (statements_size all)
  statement_size (declare n e) = suc (value_size e)
  statement_size (assign place e) = suc (place_size place + size_of e)
  statement_size (update op place e) = suc (place_size place + size_of e)
  statement_size (run_call proc es site) = suc (arguments_size es)
  statement_size (free e t site) = suc (size_of e)
  statement_size (input site) = 1
  statement_size (choose c first second) = suc (test_size c + (statement_size first + statement_size second))
  statement_size (loop site c body after_body) = suc (test_size_if c + (statement_size body + statement_size after_body))
  statement_size break = 1
  statement_size continue = 1
  statement_size (return e) = suc (value_size e)
  statement_size (evaluate e) = suc (size_of e)
  statement_size (access p parts field t site) = suc (suc (size_of p + sizes_of parts))

  pub statements_size : Statements → ℕ
  statements_size no_statements = 0
  statements_size (a_statement s rest) = statement_size s + statements_size rest

-- more than three times the size of each body
abbrev pub bodies_size : List Procedure → ℕ
bodies_size [] = 1
bodies_size (p ∷ ps) = 3 * statement_size (typed_statement p.body.statement) + bodies_size ps

-- the measure: with this much of the tree left
pub left_at : Callees → ℕ → ℕ
left_at c n = c.depth * bodies_size c.program.now.procedures + n

pub falls : (c : Callees) (m n t : ℕ) → left_at c n ≡ t → m < n → left_at c m < t
unfolding left_at
falls c m n t e l = omega (arith, e, l)

-- ---- what stands in a chain is no larger than it

pub calculated_first : (links : List ArithmeticLinkTree) (e : Expression) → size_of e ≤ size_of (calculated e links)
calculated_first [] e = omega arith
calculated_first (l ∷ links) e = let h = calculated_first links (arithmetic l.operator e l.operand) in omega (arith, h)

pub calculated_link : (links : List ArithmeticLink) (i : ℕ) (l : ArithmeticLink) (e : Expression) → i < length links → l ≡ get_or links i l → size_of (typed_expression l.operand) ≤ size_of (calculated e (map arithmetic_link links))
calculated_link [] i l e lt is = absurd (omega (arith, lt))
calculated_link (x ∷ links) zero l e lt is =
    let h = calculated_first (map arithmetic_link links) (arithmetic x.operator e (typed_expression x.operand)) in
    subst (λ y. size_of (typed_expression y.operand) ≤ size_of (calculated e (map arithmetic_link (x ∷ links)))) (sym is) (omega (arith, h))
calculated_link (x ∷ links) (suc i) l e lt is = calculated_link links i l (arithmetic x.operator e (typed_expression x.operand)) (omega (arith, lt)) is

pub compared_first : (links : List RelationLinkTree) (e : Expression) → size_of e ≤ size_of (compared e links)
compared_first [] e = omega arith
compared_first (l ∷ links) e = let h = compared_first links (truth (compare l.relation e l.operand l.site)) in omega (arith, h)

pub compared_link : (links : List RelationLink) (i : ℕ) (l : RelationLink) (e : Expression) → i < length links → l ≡ get_or links i l → size_of (typed_expression l.operand) ≤ size_of (compared e (map relation_link links))
compared_link [] i l e lt is = absurd (omega (arith, lt))
compared_link (x ∷ links) zero l e lt is =
    let h = compared_first (map relation_link links) (truth (compare x.relation e (typed_expression x.operand) x.site)) in
    subst (λ y. size_of (typed_expression y.operand) ≤ size_of (compared e (map relation_link (x ∷ links)))) (sym is) (omega (arith, h))
compared_link (x ∷ links) (suc i) l e lt is = compared_link links i l (truth (compare x.relation e (typed_expression x.operand) x.site)) (omega (arith, lt)) is

pub all_of_first : (links : List Condition) (e : Condition) → test_size e ≤ test_size (all_of e links)
all_of_first [] e = omega arith
all_of_first (l ∷ links) e = let h = all_of_first links (both e l) in omega (arith, h)

pub all_of_link : (links : List RustCondition) (i : ℕ) (l : RustCondition) (e : Condition) → i < length links → l ≡ get_or links i l → test_size (typed_condition l) ≤ test_size (all_of e (map typed_condition links))
all_of_link [] i l e lt is = absurd (omega (arith, lt))
all_of_link (x ∷ links) zero l e lt is =
    let h = all_of_first (map typed_condition links) (both e (typed_condition x)) in
    subst (λ y. test_size (typed_condition y) ≤ test_size (all_of e (map typed_condition (x ∷ links)))) (sym is) (omega (arith, h))
all_of_link (x ∷ links) (suc i) l e lt is = all_of_link links i l (both e (typed_condition x)) (omega (arith, lt)) is

pub any_of_first : (links : List Condition) (e : Condition) → test_size e ≤ test_size (any_of e links)
any_of_first [] e = omega arith
any_of_first (l ∷ links) e = let h = any_of_first links (either e l) in omega (arith, h)

pub any_of_link : (links : List RustCondition) (i : ℕ) (l : RustCondition) (e : Condition) → i < length links → l ≡ get_or links i l → test_size (typed_condition l) ≤ test_size (any_of e (map typed_condition links))
any_of_link [] i l e lt is = absurd (omega (arith, lt))
any_of_link (x ∷ links) zero l e lt is =
    let h = any_of_first (map typed_condition links) (either e (typed_condition x)) in
    subst (λ y. test_size (typed_condition y) ≤ test_size (any_of e (map typed_condition (x ∷ links)))) (sym is) (omega (arith, h))
any_of_link (x ∷ links) (suc i) l e lt is = any_of_link links i l (either e (typed_condition x)) (omega (arith, lt)) is

pub cells_first : (links : List CellLink) (e : Expression) → size_of e ≤ size_of (cells e links)
cells_first [] e = omega arith
cells_first (l ∷ links) e = let h = cells_first links (cell e l.field l.block l.site) in omega (arith, h)

pub part_in : (es : List TypedExpression) (i : ℕ) (e : TypedExpression) → i < length es → e ≡ get_or es i e → size_of (typed_expression e) ≤ sizes_of (expressions_of (map typed_expression es))
part_in [] i e lt is = absurd (omega (arith, lt))
part_in (x ∷ es) zero e lt is = subst (λ y. size_of (typed_expression y) ≤ sizes_of (expressions_of (map typed_expression (x ∷ es)))) (sym is) (omega arith)
part_in (x ∷ es) (suc i) e lt is = let h = part_in es i e (omega (arith, lt)) is in omega (arith, h)

pub argument_in : (es : List RustArgument) (i : ℕ) (e : RustArgument) → i < length es → e ≡ get_or es i e → argument_size (typed_argument e) ≤ arguments_size (arguments_of (map typed_argument es))
argument_in [] i e lt is = absurd (omega (arith, lt))
argument_in (x ∷ es) zero e lt is = subst (λ y. argument_size (typed_argument y) ≤ arguments_size (arguments_of (map typed_argument (x ∷ es)))) (sym is) (omega arith)
argument_in (x ∷ es) (suc i) e lt is = let h = argument_in es i e (omega (arith, lt)) is in omega (arith, h)

pub statement_in : (all : List TypedStatement) (i : ℕ) (s : TypedStatement) → i < length all → s ≡ get_or all i s → statement_size (typed_statement s) ≤ statements_size (statements_of (map typed_statement all))
statement_in [] i s lt is = absurd (omega (arith, lt))
statement_in (x ∷ all) zero s lt is = subst (λ y. statement_size (typed_statement y) ≤ statements_size (statements_of (map typed_statement (x ∷ all)))) (sym is) (omega arith)
statement_in (x ∷ all) (suc i) s lt is = let h = statement_in all i s (omega (arith, lt)) is in omega (arith, h)

-- ---- a call's body

kept_in : (ps : List Procedure) (i : ℕ) (p : Procedure) → slice_get ps i ≡ Some p → 3 * statement_size (typed_statement p.body.statement) < bodies_size ps
kept_in [] i p is = absurd cc
kept_in (x ∷ ps) zero p is = let h : x ≡ p = cc in subst (λ y. 3 * statement_size (typed_statement y.body.statement) < bodies_size (x ∷ ps)) h (let k = bodies_some ps in omega (arith, k))
  where
    bodies_some : (ps : List Procedure) → 0 < bodies_size ps
    bodies_some [] = omega arith
    bodies_some (x ∷ ps) = let h = bodies_some ps in omega (arith, h)
kept_in (x ∷ ps) (suc i) p is = let h = kept_in ps i p is in omega (arith, h)

one_less : (k b m : ℕ) → m < b → k * b + m < (k + 1) * b + 0
one_less k b m l = grind (arith, l)

pub body_falls : (c w : Callees) (f : ℕ) (p : Procedure) (t : ℕ) → w.program ≡ c.program → w.depth ≡ c.depth - 1 → 0 < c.depth → slice_get c.program.now.procedures f ≡ Some p →
    left_at c 0 ≡ t → left_at w (3 * statement_size (typed_statement p.body.statement)) < t
unfolding left_at
body_falls c w f p t program depth some is e =
    let b = bodies_size c.program.now.procedures in
    let h = one_less w.depth b (3 * statement_size (typed_statement p.body.statement)) (kept_in c.program.now.procedures f p is) in
    let d : w.depth + 1 ≡ c.depth = omega (arith, depth, some) in
    subst (λ x. x < t) (ap (λ q. w.depth * bodies_size q.now.procedures + 3 * statement_size (typed_statement p.body.statement)) (sym program))
    (subst (λ x. w.depth * b + 3 * statement_size (typed_statement p.body.statement) < x) (ap (λ n. n * b + 0) d ∙ e) h)
