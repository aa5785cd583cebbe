use Rattle.std.proofs.Common.{◌≡◌, ◌++◌, map, length}
use Rattle.std.specs.Vec.Iter.{into_iter_items, into_iter_len}
use Rattle.px_syntax.specs.TypedViews.{typed_expression}
use Rattle.px_real_values.specs.Calls.{all_parts}
use Rattle.px_real_values.specs.Views.{given_seen}
use Rattle.px_real_values.proofs.calls.stopped_call.Given as goal

-- the parts so far, and those of the arguments that are left, are all
abbrev pub invariant-loop-one : goal.invariant-loop-one
invariant-loop-one g l =
    let env = g.E.Environment.sees l.environment in
    (map typed_expression l.all.items ++ all_parts env (map given_seen (into_iter_items l.one-iterator)) ≡ map typed_expression l.initial.all.items ++ all_parts env (map given_seen (into_iter_items l.initial.one-iterator)))
    × (into_iter_len l.one-iterator ≡ length (into_iter_items l.one-iterator))
