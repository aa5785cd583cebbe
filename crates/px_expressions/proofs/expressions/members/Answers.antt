use Rattle.std.proofs.lemmas.Result.{err_from_is_err_and}
use Rattle.px_syntax.specs.ExpressionTree.{expression_tree}
use Rattle.px_expressions.specs.Lexemes.{see, seen}
use Rattle.px_expressions.specs.Reading.{chain_limit}
use Rattle.px_expressions.proofs.Loops.{members_err, members_next}
use Rattle.px_expressions.proofs.expressions.members.Goals as goal

pub returns-in_err-field : goal.returns-in_err-field
returns-in_err-field c =
    let p = err_from_is_err_and c.from_residual.result c.from_residual.ensures.1 in
    rw (p.1, p.2) (members_err _ chain_limit c.loop.counter (expression_tree c.loop.left) (seen c.loop.rest) (see c.in-Some.after.source.now c.in-Some.arrow, seen c.in-Some.after) _ c.loop-test.true c.in-Some.ensures c.in_err-field.ensures c.loop.invariant)

pub loop-preserved : goal.loop-preserved
loop-preserved c =
    rw c.in_ok-left.ensures (members_next chain_limit c.loop.counter (expression_tree c.loop.left) (seen c.loop.rest) (see c.in-Some.after.source.now c.in-Some.arrow, seen c.in-Some.after) (c.in_ok-field.field, seen c.in_ok-field.after) _ c.loop-test.true c.in-Some.ensures c.in_ok-field.ensures c.loop.invariant)
