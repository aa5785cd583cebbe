use Rattle.std.proofs.Common.{◌∙◌, arith, rules}
use Rattle.px_syntax.specs.ExpressionTree.{members}
use Rattle.px_bodies.specs.Environment.{environment_of}
use Rattle.px_bodies.specs.Expressions.{typed}
use Rattle.px_bodies.specs.Operands.{operand_seen}
use Rattle.px_bodies.specs.Outcomes.{Refuses}
use Rattle.px_bodies.proofs.ChainLemmas.{fails-along, arrows-are, arrows-end, arrows-refused}
use Rattle.px_bodies.proofs.expressions.arrows.Goals as goal

pub returns-in_err-pointer : goal.returns-in_err-pointer
returns-in_err-pointer c visible e h =
    let env = environment_of c.args.environment.now in
    let path = c.args.path.now in
    let pointer = operand_seen c.args.pointer in
    let fails : Refuses c.in_err-pointer.field-0.0 (typed env visible (members e path)) =
    fails-along c.in_err-pointer.field-0.0 _ _
    (λ none. arrows-are env visible path e pointer h
    ∙ arrows-refused env path c.loop-i.i c.index-path-i.result (operand_seen c.loop-i.pointer) _ c.loop-i-test.true c.index-path-i.is c.loop-i.invariant none)
    c.in_err-pointer.ensures in
    search rules

pub returns : goal.returns
returns c visible e h =
    let env = environment_of c.args.environment.now in
    arrows-are env visible c.args.path.now e (operand_seen c.args.pointer) h ∙ c.loop-i.invariant
    ∙ arrows-end env c.args.path.now c.loop-i.i (operand_seen c.loop-i.pointer) (omega arith)
