use Rattle.std.proofs.Common.{refl}
use Rattle.px_real_declaring.specs.Trees.{declared_tree}
use Rattle.px_real_types.specs.Scopes.{texts}
use Rattle.px_real_scopes.proofs.TurnLemmas.{one_done}
use Rattle.px_real_scopes.proofs.MemberLemmas.{WithEach, WithOne}
use Rattle.px_real_scopes.proofs.members.MemberList.add_each.Goals as goal

pub loop-each-preserved : goal.loop-each-preserved
loop-each-preserved c =
    one_done (WithEach c.args.known) (WithOne c.args.known) (λ ms x xs. refl) (declared_tree (texts c.args.on)) c.args.declared.now c.loop-each.each-index c.each-item.result c.loop-each.self c.add.new.self
    c.loop-each-test.true c.each-item.is c.loop-each.invariant c.in_ok-add.ensures
