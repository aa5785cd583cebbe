use Rattle.std.proofs.Common.{◌≡◌, ◌-◌, ◌++◌, ◌∷◌, [], option_map, map, length, drop, ap, arith}
use Rattle.std.proofs.lemmas.Result.{err_from_is_err_and}
use Rattle.std.proofs.lemmas.List.{map_push}
use Rattle.px_real_symbols.specs.Symbols.{seen}
use Rattle.px_real_blocks.proofs.Loops.{after_none}
use Rattle.px_real_declarations.specs.Reading.{qualifier_at}
use Rattle.px_real_declarations.proofs.DeclaratorExact.{qualifier_exact}
use Rattle.px_real_declaring.specs.Trees.{specifier_tree}
use Rattle.px_real_declaring.proofs.ManyLoops.{many_left, many_next, many_err, many_full}
use Rattle.px_real_declaring.proofs.declarators.qualifiers.Goals as goal

pub loop-init : goal.loop-init
loop-init c =
    let m : length (drop c.args.start (seen c.args.on)) - 0 ≡ length (drop c.args.start (seen c.args.on)) = omega arith in
    rw (c.new-all.ensures.items, c.left-end.ensures, m) (after_none _)

pub returns-in_err-qualifier : goal.returns-in_err-qualifier
returns-in_err-qualifier c =
    let p = err_from_is_err_and c.from_residual.result c.from_residual.ensures.1 in
    rw (p.1, p.2) (many_err qualifier_at _ (seen c.args.on) _ c.loop.counter (map (specifier_tree (seen c.args.on)) c.loop.all.items) (drop c.loop.at (seen c.args.on)) _ c.loop-test.true c.in_err-qualifier.ensures c.loop.invariant)

pub returns-in_default : goal.returns-in_default
returns-in_default c =
    many_left qualifier_exact _ c.loop.counter (map (specifier_tree (seen c.args.on)) c.loop.all.items) (drop c.loop.at (seen c.args.on)) (drop c.in_ok-qualifier.after (seen c.args.on)) _ _
    c.loop-test.true (ap (option_map (specifier_tree (seen c.args.on))) c.in_default.is) c.in_ok-qualifier.ensures c.loop.invariant

pub loop-preserved : goal.loop-preserved
loop-preserved c =
    let e : map (specifier_tree (seen c.args.on)) c.push.new.self.items ≡ map (specifier_tree (seen c.args.on)) c.loop.all.items ++ specifier_tree (seen c.args.on) c.in-Some.qualifier ∷ [] =
    rw c.in_ok-push.ensures.items (map_push _ c.loop.all.items c.in-Some.qualifier) in
    rw e
    (many_next qualifier_exact _ c.loop.counter (map (specifier_tree (seen c.args.on)) c.loop.all.items) (drop c.loop.at (seen c.args.on)) (drop c.in_ok-qualifier.after (seen c.args.on)) _ (specifier_tree (seen c.args.on) c.in-Some.qualifier) _
    c.loop-test.true (ap (option_map (specifier_tree (seen c.args.on))) c.in-Some.is) c.in_ok-qualifier.ensures c.loop.invariant)

pub returns : goal.returns
returns c = many_full qualifier_at _ (map (specifier_tree (seen c.args.on)) c.loop.all.items) (drop c.loop.at (seen c.args.on)) _ (omega (arith, c.loop-test.false)) c.loop.invariant
