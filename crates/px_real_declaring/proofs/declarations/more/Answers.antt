use Rattle.std.proofs.Common.{◌≡◌, ◌-◌, ◌++◌, ◌∷◌, [], map, length, drop, arith}
use Rattle.std.proofs.lemmas.Result.{err_from_is_err_and}
use Rattle.std.proofs.lemmas.List.{map_push}
use Rattle.px_real_symbols.specs.Symbols.{see, seen}
use Rattle.px_real_declaring.specs.Trees.{declared_tree}
use Rattle.px_real_declaring.proofs.ListLoops.{more_first, more_left, more_next, more_err, more_full}
use Rattle.px_real_declaring.proofs.declarations.more.Goals as goal

pub loop-init : goal.loop-init
loop-init g c =
    let m : length (drop c.args.start (seen c.args.on)) - 0 ≡ length (drop c.args.start (seen c.args.on)) = omega arith in
    rw (c.in_ok-push.ensures.items, c.new-all.ensures.items, c.left-end.ensures) (more_first _ (declared_tree (seen c.args.on) c.args.first) _ (drop c.args.start (seen c.args.on)) m)

pub returns-in_default : goal.returns-in_default
returns-in_default g c =
    more_left _ c.loop.counter _ (map (declared_tree (seen c.args.on)) c.loop.all.items) (drop c.loop.at (seen c.args.on)) _ c.loop-test.true c.in_default.ensures c.loop.invariant

pub returns-in_err-item : goal.returns-in_err-item
returns-in_err-item g c =
    let p = err_from_is_err_and c.from_residual-in_err-item.result c.from_residual-in_err-item.ensures.1 in
    rw (p.1, p.2)
    (more_err _ (seen c.args.on) _ c.loop.counter _ (map (declared_tree (seen c.args.on)) c.loop.all.items) (drop c.loop.at (seen c.args.on)) (see c.args.on.source.now c.in-Some.field-0-0, drop c.in-Some.next (seen c.args.on)) _
    c.loop-test.true c.in-Some.ensures c.in_err-item.ensures c.loop.invariant)

pub loop-preserved : goal.loop-preserved
loop-preserved g c =
    let e : map (declared_tree (seen c.args.on)) c.push-in-loop.new.self.items ≡ map (declared_tree (seen c.args.on)) c.loop.all.items ++ declared_tree (seen c.args.on) c.in_ok-item.item ∷ [] =
    rw c.in_ok-push-2.ensures.items (map_push _ c.loop.all.items c.in_ok-item.item) in
    rw e
    (more_next _ c.loop.counter _ (map (declared_tree (seen c.args.on)) c.loop.all.items) (drop c.loop.at (seen c.args.on)) (drop c.in_ok-item.after (seen c.args.on))
    (see c.args.on.source.now c.in-Some.field-0-0, drop c.in-Some.next (seen c.args.on)) (declared_tree (seen c.args.on) c.in_ok-item.item) _ c.loop-test.true c.in-Some.ensures c.in_ok-item.ensures c.loop.invariant)

pub returns : goal.returns
returns g c = more_full _ _ (map (declared_tree (seen c.args.on)) c.loop.all.items) (drop c.loop.at (seen c.args.on)) _ (omega (arith, c.loop-test.false)) c.loop.invariant
