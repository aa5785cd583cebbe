use Rattle.std.proofs.Common.{refl}
use Rattle.px_real_declaring.specs.Trees.{declared_tree}
use Rattle.px_real_types.specs.Scopes.{texts}
use Rattle.px_real_scopes.specs.Behind.{with_declared, with_one}
use Rattle.px_real_scopes.proofs.TurnLemmas.{one_done}
use Rattle.px_real_scopes.proofs.GrowLemmas.{grows_on, grown, named_grows}
use Rattle.px_real_scopes.proofs.declaring.add_all.Goals as goal

pub loop-each-preserved : goal.loop-each-preserved
loop-each-preserved c = record {
  added = one_done (with_declared c.args.is_type c.args.known c.args.word.now) (with_one c.args.is_type c.args.known c.args.word.now) (λ st x xs. refl) (declared_tree (texts c.args.on)) c.args.declared.now c.loop-each.each-index c.each-item.result
      c.loop-each.scopes c.add_declared.new.scopes c.loop-each-test.true c.each-item.is c.loop-each.invariant.added c.in_ok-add_declared.ensures.added;
  grows = grows_on c.loop-each.invariant.grows (grown c.loop-each.scopes _ c.add_declared.new.scopes c.in_ok-add_declared.ensures.added (named_grows _ _ c.loop-each.scopes));
}

pub returns-in_err-add_declared-clause-grows : goal.returns-in_err-add_declared-clause-grows
returns-in_err-add_declared-clause-grows c = grown _ c.loop-each.scopes c.add_declared.new.scopes c.in_err-add_declared.ensures.refused c.loop-each.invariant.grows
