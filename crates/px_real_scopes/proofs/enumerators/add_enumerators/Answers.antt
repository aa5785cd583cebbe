use Rattle.std.proofs.Common.{map, sym, ap, ◌∙◌}
use Rattle.std.proofs.lemmas.List.{drop_all}
use Rattle.px_real_members.specs.Trees.{enumerator_tree}
use Rattle.px_real_types.specs.Scopes.{texts}
use Rattle.px_real_scopes.proofs.EnumeratorLemmas.{With, enumerated_on}
use Rattle.px_real_scopes.proofs.GrowLemmas.{grows_on, grown, one_bound}
use Rattle.px_real_scopes.proofs.enumerators.add_enumerators.Goals as goal

pub loop-enumerator-preserved : goal.loop-enumerator-preserved
loop-enumerator-preserved c = record {
  added = enumerated_on (enumerator_tree (texts c.args.on)) c.args.enumerators.now c.loop-enumerator.enumerator-index c.enumerator-item.result c.loop-enumerator-test.true c.enumerator-item.is c.loop-enumerator.next c.loop-enumerator.scopes
      c.enumerator_value-value.result c.counted_on-next.result c.as_slice.result.now c.add_enumerator.new.scopes c.enumerator_value-value.ensures c.counted_on-next.ensures c.as_slice.ensures c.in_ok-add_enumerator.ensures.added c.loop-enumerator.invariant.added;
  grows = grows_on c.loop-enumerator.invariant.grows (grown c.loop-enumerator.scopes _ c.add_enumerator.new.scopes c.in_ok-add_enumerator.ensures.added (one_bound c.loop-enumerator.scopes _));
}

pub returns-clause-added : goal.returns-clause-added
returns-clause-added c =
    sym (ap (λ z. With c.loop-enumerator.next (map (enumerator_tree (texts c.args.on)) z) c.loop-enumerator.scopes) (drop_all c.loop-enumerator.enumerator-index c.args.enumerators.now c.loop-enumerator-test.false)) ∙ c.loop-enumerator.invariant.added
