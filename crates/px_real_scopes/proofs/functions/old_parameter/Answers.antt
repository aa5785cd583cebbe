use Rattle.std.proofs.Common.{sym, ap}
use Rattle.px_expressions.specs.Reading.{or_else}
use Rattle.px_real_declaring.specs.Trees.{declaration_tree}
use Rattle.px_real_types.specs.Scopes.{texts}
use Rattle.px_real_scopes.specs.Functions.{says_parameters, an_int}
use Rattle.px_real_scopes.proofs.TurnLemmas.{said_here}
use Rattle.px_real_scopes.proofs.functions.old_parameter.Goals as goal

pub returns-in-Some : goal.returns-in-Some
returns-in-Some c =
    ap (λ o. or_else o (λ t. t) an_int)
    (said_here (says_parameters c.args.scopes.now c.args.word.now) (declaration_tree (texts c.args.on)) c.args.declarations.now c.loop-declaration.declaration-index c.declaration-item.result c.in-Some.said
    c.loop-declaration-test.true c.declaration-item.is c.loop-declaration.invariant (sym c.in-Some.ensures))
