use Rattle.std.proofs.Common.{◌≡◌, map, ◌++◌, ◌∷◌, []}
use Rattle.std.proofs.lemmas.Result.{err_from_is_err_and}
use Rattle.std.proofs.lemmas.List.{map_push}
use Rattle.px_syntax.specs.StatementTree.{statement_tree}
use Rattle.px_expressions.specs.Lexemes.{see, seen}
use Rattle.px_statements.proofs.StatementLoops.{statements_done, statements_err, statements_next, statements_end}
use Rattle.px_statements.proofs.statements.+statement.Goals as goal

pub statements-returns-in-Some : goal.statements-returns-in-Some
statements-returns-in-Some t c = statements_done _ c.loop.counter _ (map statement_tree c.loop.all.items) (seen c.loop.rest) (see c.in-Some.after.source.now c.in-Some.field-0-0, seen c.in-Some.after) _ c.loop-test.true c.in-Some.ensures c.loop.invariant

pub statements-returns-in_err-next : goal.statements-returns-in_err-next
statements-returns-in_err-next t c =
    let p = err_from_is_err_and c.from_residual.result c.from_residual.ensures.1 in
    rw (p.1, p.2) (statements_err _ _ c.loop.counter _ (map statement_tree c.loop.all.items) (seen c.loop.rest) _ c.loop-test.true c.in_default.ensures c.in_err-next.ensures c.loop.invariant)

pub statements-loop-preserved : goal.statements-loop-preserved
statements-loop-preserved t c =
    let e : map statement_tree c.push.new.self.items ≡ map statement_tree c.loop.all.items ++ statement_tree c.in_ok-next.next ∷ [] = rw c.in_ok-push.ensures.items (map_push _ c.loop.all.items c.in_ok-next.next) in
    rw e (statements_next _ c.loop.counter _ (map statement_tree c.loop.all.items) (seen c.loop.rest) (statement_tree c.in_ok-next.next, seen c.in_ok-next.after) _ c.loop-test.true c.in_default.ensures c.in_ok-next.ensures c.loop.invariant)

pub statements-returns : goal.statements-returns
statements-returns t c = statements_end _ c.loop.counter _ (map statement_tree c.loop.all.items) (seen c.loop.rest) _ c.loop-test.false c.loop.invariant
