use Rattle.std.proofs.Common.{◌≡◌, Some, map, drop}
use Rattle.px_real_members.specs.Trees.{enumerator_tree}
use Rattle.px_real_types.specs.Scopes.{texts}
use Rattle.px_real_scopes.specs.Steps.{Grows}
use Rattle.px_real_scopes.proofs.EnumeratorLemmas.{With}
use Rattle.px_real_scopes.proofs.enumerators.add_enumerators.Given as goal

-- with what is left these are all
abbrev pub invariant-loop-enumerator : goal.invariant-loop-enumerator
invariant-loop-enumerator l = record {
  added : With l.next (map (enumerator_tree (texts l.on)) (drop l.enumerator-index l.enumerators)) l.scopes ≡ With (Some 0) (map (enumerator_tree (texts l.on)) l.enumerators) l.initial.scopes;
  grows : Grows l.initial.scopes l.scopes;
}
