use Rattle.std.proofs.Common.{◌≡◌, ◌-◌, ◌++◌, ◌∷◌, [], Ok, map, length, drop, ap, ◌∙◌, arith}
use Rattle.std.proofs.lemmas.Result.{err_from_is_err_and}
use Rattle.std.proofs.lemmas.List.{map_push}
use Rattle.px_real_symbols.specs.Symbols.{seen}
use Rattle.px_real_declarations.specs.declared.trailing.Trailing.TheVariants as E
use Rattle.px_real_declarations.specs.Reading.{parameter_at}
use Rattle.px_real_declaring.specs.Items.{nesting_limit}
use Rattle.px_real_declaring.specs.Trees.{declaration_tree}
use Rattle.px_real_members.specs.Trees.{next_view}
use Rattle.px_real_members.proofs.CommaLoops.{before_none, last_one, dots_behind, another_one, item_err, next_err, none_there}
use Rattle.px_real_members.proofs.parameters.declared.Goals as goal

pub loop-init : goal.loop-init
loop-init g c =
    let m : length (drop c.args.start (seen c.args.on)) - 0 ≡ length (drop c.args.start (seen c.args.on)) = omega arith in
    rw (c.new-all.ensures.items, c.left-end.ensures, m) (before_none _)

pub returns-in_err-parameter : goal.returns-in_err-parameter
returns-in_err-parameter g c =
    let p = err_from_is_err_and c.from_residual.result c.from_residual.ensures.1 in
    rw (p.1, p.2) (item_err E.Dots (parameter_at (g.T.TypeNames.named c.args.types.now) nesting_limit) _ (seen c.args.on) _ c.loop.counter (map (declaration_tree (seen c.args.on)) c.loop.all.items) (drop c.loop.at (seen c.args.on)) _ c.loop-test.true c.in_err-parameter.ensures c.loop.invariant)

pub returns-in_err-next : goal.returns-in_err-next
returns-in_err-next g c =
    let p = err_from_is_err_and c.from_residual-in_err-next.result c.from_residual-in_err-next.ensures.1 in
    rw (p.1, p.2)
    (next_err E.Dots (parameter_at (g.T.TypeNames.named c.args.types.now) nesting_limit) _ (seen c.args.on) _ c.loop.counter (map (declaration_tree (seen c.args.on)) c.loop.all.items) (drop c.loop.at (seen c.args.on)) (drop c.in_ok-parameter.after (seen c.args.on)) (declaration_tree (seen c.args.on) c.in_ok-parameter.parameter) _ c.loop-test.true c.in_ok-parameter.ensures c.in_err-next.ensures c.loop.invariant)

pub returns-in-Last : goal.returns-in-Last
returns-in-Last g c =
    let e : map (declaration_tree (seen c.args.on)) c.push.new.self.items ≡ map (declaration_tree (seen c.args.on)) c.loop.all.items ++ declaration_tree (seen c.args.on) c.in_ok-parameter.parameter ∷ [] =
    rw c.in_ok-push.ensures.items (map_push _ c.loop.all.items c.in_ok-parameter.parameter) in
    rw e
    (last_one E.Dots (parameter_at (g.T.TypeNames.named c.args.types.now) nesting_limit) _ c.loop.counter (map (declaration_tree (seen c.args.on)) c.loop.all.items) (drop c.loop.at (seen c.args.on)) (drop c.in_ok-parameter.after (seen c.args.on)) (drop c.in-Last.last (seen c.args.on)) (declaration_tree (seen c.args.on) c.in_ok-parameter.parameter) _ c.loop-test.true c.in_ok-parameter.ensures
    (c.in_ok-next.ensures ∙ ap (λ z. Ok (next_view (seen c.args.on) z)) c.in-Last.is) c.loop.invariant)

pub returns-in-Dots : goal.returns-in-Dots
returns-in-Dots g c =
    let e : map (declaration_tree (seen c.args.on)) c.push.new.self.items ≡ map (declaration_tree (seen c.args.on)) c.loop.all.items ++ declaration_tree (seen c.args.on) c.in_ok-parameter.parameter ∷ [] =
    rw c.in_ok-push.ensures.items (map_push _ c.loop.all.items c.in_ok-parameter.parameter) in
    rw e
    (dots_behind E.Dots (parameter_at (g.T.TypeNames.named c.args.types.now) nesting_limit) _ c.loop.counter (map (declaration_tree (seen c.args.on)) c.loop.all.items) (drop c.loop.at (seen c.args.on)) (drop c.in_ok-parameter.after (seen c.args.on)) (drop c.in-Dots.last (seen c.args.on)) (declaration_tree (seen c.args.on) c.in_ok-parameter.parameter) _ c.loop-test.true c.in_ok-parameter.ensures
    (c.in_ok-next.ensures ∙ ap (λ z. Ok (next_view (seen c.args.on) z)) c.in-Dots.is) c.loop.invariant)

pub loop-preserved : goal.loop-preserved
loop-preserved g c =
    let e : map (declaration_tree (seen c.args.on)) c.push.new.self.items ≡ map (declaration_tree (seen c.args.on)) c.loop.all.items ++ declaration_tree (seen c.args.on) c.in_ok-parameter.parameter ∷ [] =
    rw c.in_ok-push.ensures.items (map_push _ c.loop.all.items c.in_ok-parameter.parameter) in
    rw e
    (another_one E.Dots (parameter_at (g.T.TypeNames.named c.args.types.now) nesting_limit) _ c.loop.counter (map (declaration_tree (seen c.args.on)) c.loop.all.items) (drop c.loop.at (seen c.args.on)) (drop c.in_ok-parameter.after (seen c.args.on)) (drop c.in-Another.another (seen c.args.on)) (declaration_tree (seen c.args.on) c.in_ok-parameter.parameter) _ c.loop-test.true c.in_ok-parameter.ensures
    (c.in_ok-next.ensures ∙ ap (λ z. Ok (next_view (seen c.args.on) z)) c.in-Another.is) c.loop.invariant)

pub returns : goal.returns
returns g c = none_there E.Dots (parameter_at (g.T.TypeNames.named c.args.types.now) nesting_limit) _ (map (declaration_tree (seen c.args.on)) c.loop.all.items) (drop c.loop.at (seen c.args.on)) _ (omega (arith, c.loop-test.false)) c.loop.invariant
