use Rattle.std.proofs.Common.{◌≡◌, sym, ◌∙◌, map, ◌++◌, ◌∷◌, [], arith}
use Rattle.std.proofs.lemmas.Result.{err_from_is_err_and}
use Rattle.std.proofs.lemmas.List.{map_push}
use Rattle.px_syntax.specs.StatementTree.{init_tree}
use Rattle.px_expressions.specs.Lexemes.{see, seen}
use Rattle.px_expressions.proofs.Loops.{items_left, items_full, items_err, items_next}
use Rattle.px_statements.proofs.declarations.inits.Goals as goal

pub returns-in_default : goal.returns-in_default
returns-in_default c = sym c.loop.invariant ∙ items_left _ _ _ _ c.in_default.ensures

pub returns-in_err-next : goal.returns-in_err-next
returns-in_err-next c =
    let p = err_from_is_err_and c.from_residual-in_err-next.result c.from_residual-in_err-next.ensures.1 in
    rw (p.1, p.2) (items_err _ _ c.loop.counter _ (map init_tree c.loop.all.items) (seen c.loop.rest) (see c.in-Some.after.source.now c.in-Some.field-0-0, seen c.in-Some.after) _ c.loop-test.true c.in-Some.ensures c.in_err-next.ensures c.loop.invariant)

pub loop-preserved : goal.loop-preserved
loop-preserved c =
    let e : map init_tree c.push-in-loop.new.self.items ≡ map init_tree c.loop.all.items ++ init_tree c.in_ok-next.next ∷ [] = rw c.in_ok-push-2.ensures.items (map_push _ c.loop.all.items c.in_ok-next.next) in
    rw e (items_next _ c.loop.counter _ (map init_tree c.loop.all.items) (seen c.loop.rest) (see c.in-Some.after.source.now c.in-Some.field-0-0, seen c.in-Some.after) (init_tree c.in_ok-next.next, seen c.in_ok-next.after) _ c.loop-test.true c.in-Some.ensures c.in_ok-next.ensures c.loop.invariant)

pub returns : goal.returns
returns c = sym c.loop.invariant ∙ items_full _ _ _ _ (omega (arith, c.loop-test.false))
