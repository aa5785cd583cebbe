use Rattle.std.proofs.Common.{refl}
use Rattle.px_real_declaring.specs.Trees.{declared_tree}
use Rattle.px_real_types.specs.Scopes.{texts}
use Rattle.px_real_scopes.specs.Behind.{with_parameters, with_parameter}
use Rattle.px_real_scopes.proofs.TurnLemmas.{one_done}
use Rattle.px_real_scopes.proofs.GrowLemmas.{grows_on, grown, named_grows}
use Rattle.px_real_scopes.proofs.declaring.add_parameters.Goals as goal

pub loop-each-preserved : goal.loop-each-preserved
loop-each-preserved c = record {
  added = one_done (with_parameters c.args.known c.args.word.now) (with_parameter c.args.known c.args.word.now) (λ st x xs. refl) (declared_tree (texts c.args.on)) c.args.declared.now c.loop-each.each-index c.each-item.result
      c.loop-each.scopes c.add_parameter.new.scopes c.loop-each-test.true c.each-item.is c.loop-each.invariant.added c.in_ok-add_parameter.ensures.added;
  grows = grows_on c.loop-each.invariant.grows (grown c.loop-each.scopes _ c.add_parameter.new.scopes c.in_ok-add_parameter.ensures.added (named_grows _ _ c.loop-each.scopes));
}

pub returns-in_err-add_parameter-clause-grows : goal.returns-in_err-add_parameter-clause-grows
returns-in_err-add_parameter-clause-grows c = grown _ c.loop-each.scopes c.add_parameter.new.scopes c.in_err-add_parameter.ensures.refused c.loop-each.invariant.grows
