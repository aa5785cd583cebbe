use Rattle.std.proofs.Common.{◌≡◌, ◌-◌, ◌++◌, ◌∷◌, [], ◌||◌, option_map, map, length, drop, ap, arith}
use Rattle.std.proofs.lemmas.Result.{err_from_is_err_and}
use Rattle.std.proofs.lemmas.List.{map_push}
use Rattle.px_real_symbols.specs.Symbols.{seen}
use Rattle.px_real_blocks.proofs.Loops.{after_none}
use Rattle.px_real_declaring.specs.Trees.{specifier_tree}
use Rattle.px_real_declaring.proofs.SpecifierLoops.{specifiers_left, specifiers_next, specifiers_err, specifiers_full}
use Rattle.px_real_declaring.proofs.specifiers.specifiers.Goals as goal

pub loop-init : goal.loop-init
loop-init g c =
    let m : length (drop c.args.start (seen c.args.on)) - 0 ≡ length (drop c.args.start (seen c.args.on)) = omega arith in
    rw (c.new-all.ensures.items, c.left-end.ensures, m) (after_none _)

pub returns-in_err-specifier : goal.returns-in_err-specifier
returns-in_err-specifier g c =
    let p = err_from_is_err_and c.from_residual.result c.from_residual.ensures.1 in
    rw (p.1, p.2)
    (specifiers_err _ _ (seen c.args.on) _ c.loop.counter c.loop.said (map (specifier_tree (seen c.args.on)) c.loop.all.items) (drop c.loop.at (seen c.args.on)) _ c.loop-test.true c.in_err-specifier.ensures c.loop.invariant)

pub returns-in_default : goal.returns-in_default
returns-in_default g c =
    specifiers_left _ _ c.loop.counter c.loop.said (map (specifier_tree (seen c.args.on)) c.loop.all.items) (drop c.loop.at (seen c.args.on)) (drop c.in_ok-specifier.after (seen c.args.on)) _ _
    c.loop-test.true (ap (option_map (specifier_tree (seen c.args.on))) c.in_default.is) c.in_ok-specifier.ensures c.loop.invariant

pub loop-preserved : goal.loop-preserved
loop-preserved g c =
    let e : map (specifier_tree (seen c.args.on)) c.push.new.self.items ≡ map (specifier_tree (seen c.args.on)) c.loop.all.items ++ specifier_tree (seen c.args.on) c.in-Some.specifier ∷ [] =
    rw c.in_ok-push.ensures.items (map_push _ c.loop.all.items c.in-Some.specifier) in
    rw e
    (specifiers_next _ _ c.loop.counter c.loop.said _ (map (specifier_tree (seen c.args.on)) c.loop.all.items) (drop c.loop.at (seen c.args.on)) (drop c.in_ok-specifier.after (seen c.args.on)) _
    (specifier_tree (seen c.args.on) c.in-Some.specifier) _ c.loop-test.true (ap (option_map (specifier_tree (seen c.args.on))) c.in-Some.is) c.in_ok-specifier.ensures
    (ap (λ z. c.loop.said || z) (c.says_type-said.ensures (seen c.args.on))) c.loop.invariant)

pub returns : goal.returns
returns g c = specifiers_full _ _ c.loop.said (map (specifier_tree (seen c.args.on)) c.loop.all.items) (drop c.loop.at (seen c.args.on)) _ (omega (arith, c.loop-test.false)) c.loop.invariant
