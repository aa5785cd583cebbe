use Rattle.std.proofs.Common.{◌≡◌, ◌++◌, map, length}
use Rattle.std.specs.Vec.Iter.{into_iter_items, into_iter_len}
use Rattle.px_syntax.specs.TypedViews.{typed_expression, typed_statement}
use Rattle.px_real_effects.specs.Effects.{evaluated}
use Rattle.px_real_effects.proofs.statements.put_all_evaluated.Given as goal

-- the statements so far, and those of the parts that are left, are all
abbrev pub invariant-loop-part : goal.invariant-loop-part
invariant-loop-part l =
    (into_iter_len l.part-iterator ≡ length (into_iter_items l.part-iterator))
    × (map typed_statement l.into.items ++ evaluated (map typed_expression (into_iter_items l.part-iterator)) ≡ map typed_statement l.fn.into.items ++ evaluated (map typed_expression l.fn.parts.items))
