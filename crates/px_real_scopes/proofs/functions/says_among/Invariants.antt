use Rattle.std.proofs.Common.{◌≡◌, map, drop}
use Rattle.px_real_declaring.specs.Trees.{declared_tree}
use Rattle.px_real_types.specs.Scopes.{texts}
use Rattle.px_real_scopes.specs.Lookups.{first_said}
use Rattle.px_real_scopes.specs.Functions.{says_parameter}
use Rattle.px_real_scopes.proofs.functions.says_among.Given as goal

-- what is left says it
abbrev pub invariant-loop-each : goal.invariant-loop-each
invariant-loop-each l =
    first_said (says_parameter l.word l.shape) (map (declared_tree (texts l.on)) (drop l.each-index l.declared)) ≡ first_said (says_parameter l.word l.shape) (map (declared_tree (texts l.on)) l.declared)
