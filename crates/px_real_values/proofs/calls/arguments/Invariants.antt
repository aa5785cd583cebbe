use Rattle.std.proofs.Common.{◌≡◌, ◌++◌, map, drop, length}
use Rattle.std.specs.Vec.Iter.{into_iter_items, into_iter_len}
use Rattle.px_syntax.specs.TypedViews.{typed_argument}
use Rattle.px_real_values.specs.Calls.{arguments}
use Rattle.px_real_values.specs.Views.{given_seen}
use Rattle.px_real_values.proofs.calls.arguments.Given as goal

-- the arguments so far, and those that are left, are all
abbrev pub invariant-loop-one : goal.invariant-loop-one
invariant-loop-one g l =
    let env = g.E.Environment.sees l.environment in
    let ps = l.signature.parameters.now in
    let es = map typed_argument l.all.items in
    (es ++ arguments env (drop (length es) ps) (map given_seen (into_iter_items l.one-iterator)) ≡ arguments env ps (map given_seen (into_iter_items l.initial.one-iterator)))
    × (into_iter_len l.one-iterator ≡ length (into_iter_items l.one-iterator))
