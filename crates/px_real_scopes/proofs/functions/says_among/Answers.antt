use Rattle.std.proofs.Common.{sym}
use Rattle.px_real_declaring.specs.Trees.{declared_tree}
use Rattle.px_real_types.specs.Scopes.{texts}
use Rattle.px_real_scopes.specs.Functions.{says_parameter}
use Rattle.px_real_scopes.proofs.TurnLemmas.{said_here}
use Rattle.px_real_scopes.proofs.functions.says_among.Goals as goal

pub returns-in-Some : goal.returns-in-Some
returns-in-Some c =
    said_here (says_parameter c.args.word.now c.args.shape) (declared_tree (texts c.args.on)) c.args.declared.now c.loop-each.each-index c.each-item.result c.in-Some.said c.loop-each-test.true c.each-item.is c.loop-each.invariant (sym c.in-Some.ensures)
