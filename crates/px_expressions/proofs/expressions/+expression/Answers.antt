use Rattle.std.proofs.Common.{◌≡◌, ◌+◌, ◌-◌, sym, refl, ap, ◌∙◌, map, ◌++◌, ◌∷◌, [], Some, arith}
use Rattle.std.proofs.lemmas.Result.{err_from_is_err_and}
use Rattle.std.proofs.lemmas.List.{map_push}
use Rattle.px_syntax.specs.ExpressionTree.{expression_tree, expressions_of, call}
use Rattle.px_syntax.proofs.ExpressionEquations.{tree-Unary, tree-Call}
use Rattle.px_expressions.specs.Lexemes.{see, seen}
use Rattle.px_expressions.specs.Reading.{chain_limit, unary_at}
use Rattle.px_expressions.proofs.UnaryEquations.{unary_shut, unary_err, unary_prefixed, unary_plain, named_call}
use Rattle.px_expressions.proofs.Loops.{chain_left, chain_full, chain_err, chain_next, levels_unary, levels_same, levels_err, items_left, items_full, items_err, items_next}
use Rattle.px_expressions.proofs.expressions.+expression.Goals as goal

pub chain-returns-in_default : goal.chain-returns-in_default
chain-returns-in_default t c = sym c.loop.invariant ∙ chain_left _ _ _ _ _ c.in_default.ensures

pub chain-returns-in_err-right : goal.chain-returns-in_err-right
chain-returns-in_err-right t c =
    let p = err_from_is_err_and c.from_residual.result c.from_residual.ensures.1 in
    rw (p.1, p.2) (chain_err _ chain_limit c.loop.counter c.args.level _ (expression_tree c.loop.left) (seen c.loop.rest) (c.in-Some.operator, see c.in-Some.after.source.now c.in-Some.symbol, seen c.in-Some.after) _ c.loop-test.true c.in-Some.ensures c.in_err-right.ensures c.loop.invariant)

pub chain-loop-preserved : goal.chain-loop-preserved
chain-loop-preserved t c =
    rw c.in_ok-left.ensures (chain_next chain_limit c.loop.counter c.args.level _ (expression_tree c.loop.left) (seen c.loop.rest) (c.in-Some.operator, see c.in-Some.after.source.now c.in-Some.symbol, seen c.in-Some.after) (expression_tree c.in_ok-right.right, seen c.in_ok-right.after) _ c.loop-test.true c.in-Some.ensures c.in_ok-right.ensures c.loop.invariant)

pub chain-returns : goal.chain-returns
chain-returns t c = sym c.loop.invariant ∙ chain_full _ _ _ _ _ (omega (arith, c.loop-test.false))

pub separated-returns-in_default : goal.separated-returns-in_default
separated-returns-in_default t c = sym c.loop.invariant ∙ items_left _ _ _ _ c.in_default.ensures

pub separated-returns-in_err-next : goal.separated-returns-in_err-next
separated-returns-in_err-next t c =
    let p = err_from_is_err_and c.from_residual-in_err-next.result c.from_residual-in_err-next.ensures.1 in
    rw (p.1, p.2) (items_err _ _ c.loop.counter _ (map expression_tree c.loop.all.items) (seen c.loop.rest) (see c.in-Some.after.source.now c.in-Some.field-0-0, seen c.in-Some.after) _ c.loop-test.true c.in-Some.ensures c.in_err-next.ensures c.loop.invariant)

pub separated-loop-preserved : goal.separated-loop-preserved
separated-loop-preserved t c =
    let e : map expression_tree c.push-in-loop.new.self.items ≡ map expression_tree c.loop.all.items ++ expression_tree c.in_ok-next.next ∷ [] = rw c.in_ok-push-2.ensures.items (map_push _ c.loop.all.items c.in_ok-next.next) in
    rw e (items_next _ c.loop.counter _ (map expression_tree c.loop.all.items) (seen c.loop.rest) (see c.in-Some.after.source.now c.in-Some.field-0-0, seen c.in-Some.after) (expression_tree c.in_ok-next.next, seen c.in_ok-next.after) _ c.loop-test.true c.in-Some.ensures c.in_ok-next.ensures c.loop.invariant)

pub separated-returns : goal.separated-returns
separated-returns t c = sym c.loop.invariant ∙ items_full _ _ _ _ (omega (arith, c.loop-test.false))

pub unary-returns-then-depth-eq0 : goal.unary-returns-then-depth-eq0
unary-returns-then-depth-eq0 t c = unary_shut _ _ (c.in-Some.operator, see c.in-Some.rest.source.now c.in-Some.symbol, seen c.in-Some.rest) c.in-Some.ensures c.if-depth-eq0.true

pub unary-returns-in_err-operand-in-Some : goal.unary-returns-in_err-operand-in-Some
unary-returns-in_err-operand-in-Some t c =
    let p = err_from_is_err_and c.from_residual.result c.from_residual.ensures.1 in
    rw (p.1, p.2) (unary_err _ _ _ (c.in-Some.operator, see c.in-Some.rest.source.now c.in-Some.symbol, seen c.in-Some.rest) c.in-Some.ensures (omega (arith, c.if-depth-eq0.false)) c.in_err-operand-in-Some.ensures)

pub unary-returns-in_ok-new-in-Some : goal.unary-returns-in_ok-new-in-Some
unary-returns-in_ok-new-in-Some t c =
    rw (tree-Unary, c.in_ok-new-in-Some.ensures.ok) (unary_prefixed _ _ (c.in-Some.operator, see c.in-Some.rest.source.now c.in-Some.symbol, seen c.in-Some.rest) (expression_tree c.in_ok-operand-in-Some.operand, seen c.in_ok-operand-in-Some.rest) c.in-Some.ensures (omega (arith, c.if-depth-eq0.false)) c.in_ok-operand-in-Some.ensures)

pub unary-returns-in-None : goal.unary-returns-in-None
unary-returns-in-None t c = rw (unary_plain _ _ c.in-None.ensures) c.postfix.ensures

pub levels-returns-in_err-first : goal.levels-returns-in_err-first
levels-returns-in_err-first t c =
    let p = err_from_is_err_and c.from_residual.result c.from_residual.ensures.1 in
    rw (p.1, p.2) (levels_unary _ (unary_at c.args.depth) (seen c.args.input) c.args.level c.in_err-first.ensures)

pub levels-loop-below-preserved-in_default : goal.levels-loop-below-preserved-in_default
levels-loop-below-preserved-in_default t c = record {
  within = omega arith;
  so_far = levels_same _ _ c.loop-below.below (c.loop-below.below + 1) (expression_tree c.loop-below.left, seen c.loop-below.rest) refl c.loop-below.invariant.so_far c.in_default.ensures;
}

pub levels-returns-in_err-next : goal.levels-returns-in_err-next
levels-returns-in_err-next t c =
    let p = err_from_is_err_and c.from_residual-in_err-next.result c.from_residual-in_err-next.ensures.1 in
    rw (p.1, p.2) (levels_err _ _ _ c.loop-below.below (c.loop-below.below + 1) (c.loop-below.below + 1 - 1) c.args.level (expression_tree c.loop-below.left, seen c.loop-below.rest) c.loop-below-test.true refl (omega arith) c.loop-below.invariant.so_far c.in_err-next.ensures)

pub named-returns : goal.named-returns
named-returns t c =
    let name = c.in_ok-name.name in
    let site = c.args.symbol.site in
    let arguments = c.in_ok-arguments.arguments in
    let rest = seen c.in_ok-arguments.rest in
    named_call c.args.depth _ (see c.args.input.source.now c.args.symbol) (seen c.args.input) (see c.in-Some.rest.source.now c.in-Some.field-0-0, seen c.in-Some.rest) (map expression_tree arguments.items, rest) c.in-Some.ensures (omega (arith, c.if-depth-eq0.false)) c.in_ok-arguments.ensures
    ∙ (ap (λ n. Some (call n site (expressions_of (map expression_tree arguments.items)), rest)) (sym c.in_ok-name.ensures)
    ∙ ap (λ e. Some (e, rest)) (sym (tree-Call name site arguments)))
