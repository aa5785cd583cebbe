use Rattle.std.proofs.Common.{◌≡◌, ◌++◌, map, length}
use Rattle.std.specs.Vec.Iter.{into_iter_items, into_iter_len}
use Rattle.px_syntax.specs.TypedViews.{typed_expression, typed_statement}
use Rattle.px_real_effects.specs.Effects.{ran}
use Rattle.px_real_effects.proofs.effects.put_ran.Given as goal

-- the statements so far, and those of the values that are left, are all
abbrev pub invariant-loop-value : goal.invariant-loop-value
invariant-loop-value l =
    (into_iter_len l.value-iterator ≡ length (into_iter_items l.value-iterator))
    × (map typed_statement l.into.items ++ map ran (map typed_expression (into_iter_items l.value-iterator)) ≡ map typed_statement l.fn.into.items ++ map ran (map typed_expression l.fn.values.items))
