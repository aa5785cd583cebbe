use Rattle.std.proofs.lemmas.Result.{err_from_is_err_and}
use Rattle.px_expressions.specs.Lexemes.{see, seen}
use Rattle.px_parser.proofs.FieldLoops.{fields_done, fields_err, fields_next, fields_end}
use Rattle.px_parser.proofs.item_parts.fields.Goals as goal

pub returns-in-Some : goal.returns-in-Some
returns-in-Some c = fields_done _ c.loop.counter c.loop.all.items (seen c.loop.rest) (see c.in-Some.after.source.now c.in-Some.field-0-0, seen c.in-Some.after) _ c.loop-test.true c.in-Some.ensures c.loop.invariant

pub returns-in_err-next : goal.returns-in_err-next
returns-in_err-next c =
    let p = err_from_is_err_and c.from_residual-in_err-next.result c.from_residual-in_err-next.ensures.1 in
    rw (p.1, p.2) (fields_err _ _ c.loop.counter c.loop.all.items (seen c.loop.rest) _ c.loop-test.true c.in_default.ensures c.in_err-next.ensures c.loop.invariant)

pub loop-preserved : goal.loop-preserved
loop-preserved c =
    rw c.in_ok-push-2.ensures.items (fields_next _ c.loop.counter c.loop.all.items (seen c.loop.rest) (c.in_ok-next.next, seen c.in_ok-next.after) _ c.loop-test.true c.in_default.ensures c.in_ok-next.ensures c.loop.invariant)

pub returns : goal.returns
returns c = fields_end _ c.loop.counter c.loop.all.items (seen c.loop.rest) _ c.loop-test.false c.loop.invariant
