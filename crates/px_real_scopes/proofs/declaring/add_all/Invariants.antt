use Rattle.std.proofs.Common.{◌≡◌, map, drop}
use Rattle.px_real_declaring.specs.Trees.{declared_tree}
use Rattle.px_real_types.specs.Scopes.{texts}
use Rattle.px_real_scopes.specs.Behind.{with_declared}
use Rattle.px_real_scopes.specs.Steps.{Grows}
use Rattle.px_real_scopes.proofs.declaring.add_all.Given as goal

-- with what is left these are all
abbrev pub invariant-loop-each : goal.invariant-loop-each
invariant-loop-each l = record {
  added : with_declared l.is_type l.known l.word l.scopes (map (declared_tree (texts l.on)) (drop l.each-index l.declared)) ≡ with_declared l.is_type l.known l.word l.initial.scopes (map (declared_tree (texts l.on)) l.declared);
  grows : Grows l.initial.scopes l.scopes;
}
