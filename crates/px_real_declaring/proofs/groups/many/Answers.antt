use Rattle.std.proofs.Common.{◌≡◌, ◌-◌, ◌++◌, ◌∷◌, [], option_map, map, length, drop, ap, arith}
use Rattle.std.proofs.lemmas.Result.{err_from_is_err_and}
use Rattle.std.proofs.lemmas.List.{map_push}
use Rattle.px_real_symbols.specs.Symbols.{seen}
use Rattle.px_real_blocks.proofs.Loops.{after_none}
use Rattle.px_real_declarations.specs.declared.role.Role.TheVariants as R
use Rattle.px_real_declarations.specs.Roles.{same_role}
use Rattle.px_real_declarations.specs.Reading.{group_at}
use Rattle.px_real_declarations.proofs.GroupExact.{group_exact}
use Rattle.px_real_declaring.specs.Trees.{group_tree}
use Rattle.px_real_declaring.proofs.ManyLoops.{many_left, many_next, many_err, many_full}
use Rattle.px_real_declaring.proofs.groups.many.Goals as goal

pub loop-init : goal.loop-init
loop-init c =
    let m : length (drop c.args.start (seen c.args.on)) - 0 ≡ length (drop c.args.start (seen c.args.on)) = omega arith in
    rw (c.new-all.ensures.items, c.left-end.ensures, m) (after_none _)

pub returns-in_err-group : goal.returns-in_err-group
returns-in_err-group c =
    let p = err_from_is_err_and c.from_residual.result c.from_residual.ensures.1 in
    rw (p.1, p.2) (many_err (group_at (same_role R.Attribute)) _ (seen c.args.on) _ c.loop.counter (map (group_tree (seen c.args.on)) c.loop.all.items) (drop c.loop.at (seen c.args.on)) _ c.loop-test.true c.in_err-group.ensures c.loop.invariant)

pub returns-in_default : goal.returns-in_default
returns-in_default c =
    many_left (group_exact (same_role R.Attribute)) _ c.loop.counter (map (group_tree (seen c.args.on)) c.loop.all.items) (drop c.loop.at (seen c.args.on)) (drop c.in_ok-group.after (seen c.args.on)) _ _
    c.loop-test.true (ap (option_map (group_tree (seen c.args.on))) c.in_default.is) c.in_ok-group.ensures c.loop.invariant

pub loop-preserved : goal.loop-preserved
loop-preserved c =
    let e : map (group_tree (seen c.args.on)) c.push.new.self.items ≡ map (group_tree (seen c.args.on)) c.loop.all.items ++ group_tree (seen c.args.on) c.in-Some.group ∷ [] =
    rw c.in_ok-push.ensures.items (map_push _ c.loop.all.items c.in-Some.group) in
    rw e
    (many_next (group_exact (same_role R.Attribute)) _ c.loop.counter (map (group_tree (seen c.args.on)) c.loop.all.items) (drop c.loop.at (seen c.args.on)) (drop c.in_ok-group.after (seen c.args.on)) _ (group_tree (seen c.args.on) c.in-Some.group) _
    c.loop-test.true (ap (option_map (group_tree (seen c.args.on))) c.in-Some.is) c.in_ok-group.ensures c.loop.invariant)

pub returns : goal.returns
returns c = many_full (group_at (same_role R.Attribute)) _ (map (group_tree (seen c.args.on)) c.loop.all.items) (drop c.loop.at (seen c.args.on)) _ (omega (arith, c.loop-test.false)) c.loop.invariant
