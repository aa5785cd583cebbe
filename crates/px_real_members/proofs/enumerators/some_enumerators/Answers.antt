use Rattle.std.proofs.Common.{◌≡◌, ◌-◌, ◌++◌, ◌∷◌, [], Ok, map, length, drop, ap, ◌∙◌, arith}
use Rattle.std.proofs.lemmas.Result.{err_from_is_err_and}
use Rattle.std.proofs.lemmas.List.{map_push}
use Rattle.px_real_symbols.specs.Symbols.{seen}
use Rattle.px_real_declarations.specs.declared.trailing.Trailing.TheVariants as E
use Rattle.px_real_declarations.specs.HeldReading.{enumerator_at}
use Rattle.px_real_members.specs.Trees.{enumerator_tree}
use Rattle.px_real_members.specs.Trees.{next_view}
use Rattle.px_real_members.proofs.CommaLoops.{before_none, last_one, dots_behind, another_one, item_err, next_err, none_there}
use Rattle.px_real_members.proofs.enumerators.some_enumerators.Goals as goal

pub loop-init : goal.loop-init
loop-init c =
    let m : length (drop c.args.start (seen c.args.on)) - 0 ≡ length (drop c.args.start (seen c.args.on)) = omega arith in
    rw (c.new-all.ensures.items, c.left-end.ensures, m) (before_none _)

pub returns-in_err-enumerator : goal.returns-in_err-enumerator
returns-in_err-enumerator c =
    let p = err_from_is_err_and c.from_residual.result c.from_residual.ensures.1 in
    rw (p.1, p.2) (item_err E.Comma enumerator_at _ (seen c.args.on) _ c.loop.counter (map (enumerator_tree (seen c.args.on)) c.loop.all.items) (drop c.loop.at (seen c.args.on)) _ c.loop-test.true c.in_err-enumerator.ensures c.loop.invariant)

pub returns-in_err-next : goal.returns-in_err-next
returns-in_err-next c =
    let p = err_from_is_err_and c.from_residual-in_err-next.result c.from_residual-in_err-next.ensures.1 in
    rw (p.1, p.2)
    (next_err E.Comma enumerator_at _ (seen c.args.on) _ c.loop.counter (map (enumerator_tree (seen c.args.on)) c.loop.all.items) (drop c.loop.at (seen c.args.on)) (drop c.in_ok-enumerator.after (seen c.args.on)) (enumerator_tree (seen c.args.on) c.in_ok-enumerator.enumerator) _ c.loop-test.true c.in_ok-enumerator.ensures c.in_err-next.ensures c.loop.invariant)

pub returns-in-Last : goal.returns-in-Last
returns-in-Last c =
    let e : map (enumerator_tree (seen c.args.on)) c.push.new.self.items ≡ map (enumerator_tree (seen c.args.on)) c.loop.all.items ++ enumerator_tree (seen c.args.on) c.in_ok-enumerator.enumerator ∷ [] =
    rw c.in_ok-push.ensures.items (map_push _ c.loop.all.items c.in_ok-enumerator.enumerator) in
    rw e
    (last_one E.Comma enumerator_at _ c.loop.counter (map (enumerator_tree (seen c.args.on)) c.loop.all.items) (drop c.loop.at (seen c.args.on)) (drop c.in_ok-enumerator.after (seen c.args.on)) (drop c.in-Last.last (seen c.args.on)) (enumerator_tree (seen c.args.on) c.in_ok-enumerator.enumerator) _ c.loop-test.true c.in_ok-enumerator.ensures
    (c.in_ok-next.ensures ∙ ap (λ z. Ok (next_view (seen c.args.on) z)) c.in-Last.is) c.loop.invariant)

pub returns-in-Dots : goal.returns-in-Dots
returns-in-Dots c =
    let e : map (enumerator_tree (seen c.args.on)) c.push.new.self.items ≡ map (enumerator_tree (seen c.args.on)) c.loop.all.items ++ enumerator_tree (seen c.args.on) c.in_ok-enumerator.enumerator ∷ [] =
    rw c.in_ok-push.ensures.items (map_push _ c.loop.all.items c.in_ok-enumerator.enumerator) in
    rw e
    (dots_behind E.Comma enumerator_at _ c.loop.counter (map (enumerator_tree (seen c.args.on)) c.loop.all.items) (drop c.loop.at (seen c.args.on)) (drop c.in_ok-enumerator.after (seen c.args.on)) (drop c.in-Dots.last (seen c.args.on)) (enumerator_tree (seen c.args.on) c.in_ok-enumerator.enumerator) _ c.loop-test.true c.in_ok-enumerator.ensures
    (c.in_ok-next.ensures ∙ ap (λ z. Ok (next_view (seen c.args.on) z)) c.in-Dots.is) c.loop.invariant)

pub loop-preserved : goal.loop-preserved
loop-preserved c =
    let e : map (enumerator_tree (seen c.args.on)) c.push.new.self.items ≡ map (enumerator_tree (seen c.args.on)) c.loop.all.items ++ enumerator_tree (seen c.args.on) c.in_ok-enumerator.enumerator ∷ [] =
    rw c.in_ok-push.ensures.items (map_push _ c.loop.all.items c.in_ok-enumerator.enumerator) in
    rw e
    (another_one E.Comma enumerator_at _ c.loop.counter (map (enumerator_tree (seen c.args.on)) c.loop.all.items) (drop c.loop.at (seen c.args.on)) (drop c.in_ok-enumerator.after (seen c.args.on)) (drop c.in-Another.another (seen c.args.on)) (enumerator_tree (seen c.args.on) c.in_ok-enumerator.enumerator) _ c.loop-test.true c.in_ok-enumerator.ensures
    (c.in_ok-next.ensures ∙ ap (λ z. Ok (next_view (seen c.args.on) z)) c.in-Another.is) c.loop.invariant)

pub returns : goal.returns
returns c = none_there E.Comma enumerator_at _ (map (enumerator_tree (seen c.args.on)) c.loop.all.items) (drop c.loop.at (seen c.args.on)) _ (omega (arith, c.loop-test.false)) c.loop.invariant
