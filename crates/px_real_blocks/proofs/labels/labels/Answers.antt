use Rattle.std.proofs.Common.{◌≡◌, ◌-◌, ◌++◌, ◌∷◌, [], option_map, map, length, drop, ap, arith}
use Rattle.std.proofs.lemmas.Result.{err_from_is_err_and}
use Rattle.std.proofs.lemmas.List.{map_push}
use Rattle.px_real_symbols.specs.Symbols.{seen}
use Rattle.px_real_blocks.specs.Trees.{label_tree}
use Rattle.px_real_blocks.proofs.Loops.{after_none, labels_left, labels_next, labels_err, labels_full}
use Rattle.px_real_blocks.proofs.labels.labels.Goals as goal

pub loop-init : goal.loop-init
loop-init c =
    let m : length (drop c.args.start (seen c.args.on)) - 0 ≡ length (drop c.args.start (seen c.args.on)) = omega arith in
    rw (c.new-all.ensures.items, c.left-end.ensures, m) (after_none _)

pub returns-in_err-label : goal.returns-in_err-label
returns-in_err-label c =
    let p = err_from_is_err_and c.from_residual.result c.from_residual.ensures.1 in
    rw (p.1, p.2) (labels_err _ (seen c.args.on) _ c.loop.counter (map (label_tree (seen c.args.on)) c.loop.all.items) (drop c.loop.at (seen c.args.on)) _ c.loop-test.true c.in_err-label.ensures c.loop.invariant)

pub returns-in_default : goal.returns-in_default
returns-in_default c =
    labels_left _ c.loop.counter (map (label_tree (seen c.args.on)) c.loop.all.items) (drop c.loop.at (seen c.args.on)) (drop c.in_ok-label.after (seen c.args.on)) _ _
    c.loop-test.true (ap (option_map (label_tree (seen c.args.on))) c.in_default.is) c.in_ok-label.ensures c.loop.invariant

pub loop-preserved : goal.loop-preserved
loop-preserved c =
    let e : map (label_tree (seen c.args.on)) c.push.new.self.items ≡ map (label_tree (seen c.args.on)) c.loop.all.items ++ label_tree (seen c.args.on) c.in-Some.label ∷ [] =
    rw c.in_ok-push.ensures.items (map_push _ c.loop.all.items c.in-Some.label) in
    rw e
    (labels_next _ c.loop.counter (map (label_tree (seen c.args.on)) c.loop.all.items) (drop c.loop.at (seen c.args.on)) (drop c.in_ok-label.after (seen c.args.on)) _ (label_tree (seen c.args.on) c.in-Some.label) _
    c.loop-test.true (ap (option_map (label_tree (seen c.args.on))) c.in-Some.is) c.in_ok-label.ensures c.loop.invariant)

pub returns : goal.returns
returns c = labels_full _ (map (label_tree (seen c.args.on)) c.loop.all.items) (drop c.loop.at (seen c.args.on)) _ (omega (arith, c.loop-test.false)) c.loop.invariant
