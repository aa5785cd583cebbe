use Rattle.std.proofs.Common.{◌≡◌, ◌+◌, ◌-◌, sym, refl, ap, ◌∙◌, map, ◌++◌, ◌∷◌, [], Some, Ok, drop, length, option_map, arith}
use Rattle.std.proofs.lemmas.Result.{err_from_is_err_and}
use Rattle.std.proofs.lemmas.List.{map_push}
use Rattle.px_real_expressions.specs.Reading.{readers, assignment_by, operand_of}
use Rattle.px_real_symbols.specs.Symbols.{see, seen}
use Rattle.px_real_reading.specs.declared.expressions.Part.TheVariants as P
use Rattle.px_real_reading.specs.Heads.{head_tree, head_at}
use Rattle.px_real_reading.specs.Parts.{part_reader}
use Rattle.px_real_reading.specs.Trees.{expression_tree, suffix_tree}
use Rattle.px_real_reading.proofs.TreeEquations.{suffix-Call}
use Rattle.px_real_reading.proofs.HeadLemmas.{operand_read, operand_stops}
use Rattle.px_real_reading.proofs.ReaderEquations.{may_open_is, part_shut, operand_is, conditional_is, assignment_is, expression_is, suffixes_next, suffixes_left, suffixes_full, suffixes_err, call_suffix}
use Rattle.px_real_symbols.proofs.AnswerLemmas.{passes_on, stops_so, gives_same}
use Rattle.px_real_reading.proofs.Loops.{chain_left, chain_full, chain_err, chain_next, levels_first, levels_same, levels_next, levels_err, no_items, items_first, items_none, items_left, items_full, items_err, items_next}
use Rattle.px_real_reading.proofs.expressions.+expression.Goals as goal

-- ---- what is opened

pub inside-returns-then-depth-eq0 : goal.inside-returns-then-depth-eq0
inside-returns-then-depth-eq0 t c = stops_so _ (seen c.args.on) _ _ (part_shut c.args.part c.args.depth (drop c.args.at (seen c.args.on)) c.if-depth-eq0.true) c.shut.ensures

pub inside-returns-in-Operand : goal.inside-returns-in-Operand
inside-returns-in-Operand t c =
    gives_same (seen c.args.on) _ _ _ _
    (ap (λ z. part_reader z (readers c.args.depth) (drop c.args.at (seen c.args.on))) c.in-Operand.is ∙ operand_is _ c.args.depth (drop c.args.at (seen c.args.on)) (omega (arith, c.if-depth-eq0.false))) c.operand.ensures

pub inside-returns-in-Conditional : goal.inside-returns-in-Conditional
inside-returns-in-Conditional t c =
    gives_same (seen c.args.on) _ _ _ _
    (ap (λ z. part_reader z (readers c.args.depth) (drop c.args.at (seen c.args.on))) c.in-Conditional.is ∙ conditional_is c.args.depth (drop c.args.at (seen c.args.on)) (omega (arith, c.if-depth-eq0.false))) c.conditional.ensures

pub inside-returns-in-Assignment : goal.inside-returns-in-Assignment
inside-returns-in-Assignment t c =
    gives_same (seen c.args.on) _ _ _ _
    (ap (λ z. part_reader z (readers c.args.depth) (drop c.args.at (seen c.args.on))) c.in-Assignment.is ∙ assignment_is c.args.depth (drop c.args.at (seen c.args.on)) (omega (arith, c.if-depth-eq0.false))) c.assigned.ensures

pub inside-returns-in-Expression : goal.inside-returns-in-Expression
inside-returns-in-Expression t c =
    gives_same (seen c.args.on) _ _ _ _
    (ap (λ z. part_reader z (readers c.args.depth) (drop c.args.at (seen c.args.on))) c.in-Expression.is ∙ expression_is c.args.depth (drop c.args.at (seen c.args.on)) (omega (arith, c.if-depth-eq0.false))) c.expression.ensures

-- ---- operators

pub chain-returns-in_default : goal.chain-returns-in_default
chain-returns-in_default t c = sym c.loop.invariant ∙ chain_left _ _ _ _ _ c.in_default.ensures

pub chain-returns-in_err-right : goal.chain-returns-in_err-right
chain-returns-in_err-right t c =
    let p = err_from_is_err_and c.from_residual.result c.from_residual.ensures.1 in
    rw (p.1, p.2)
    (chain_err _ (seen c.args.on) _ c.loop.counter c.args.level _ (expression_tree (seen c.args.on) c.loop.tree) (drop c.loop.rest (seen c.args.on)) (c.in-Some.operator, see c.args.on.source.now c.in-Some.symbol, drop c.in-Some.after (seen c.args.on)) _
    c.loop-test.true c.in-Some.ensures c.in_err-right.ensures c.loop.invariant)

pub chain-loop-preserved : goal.chain-loop-preserved
chain-loop-preserved t c =
    rw (c.in_ok-tree.ensures (seen c.args.on))
    (chain_next _ c.loop.counter c.args.level _ (expression_tree (seen c.args.on) c.loop.tree) (drop c.loop.rest (seen c.args.on)) (c.in-Some.operator, see c.args.on.source.now c.in-Some.symbol, drop c.in-Some.after (seen c.args.on))
    (expression_tree (seen c.args.on) c.in_ok-right.right, drop c.in_ok-right.after (seen c.args.on)) _ c.loop-test.true c.in-Some.ensures c.in_ok-right.ensures c.loop.invariant)

pub chain-returns : goal.chain-returns
chain-returns t c = sym c.loop.invariant ∙ chain_full _ _ _ _ _ (omega (arith, c.loop-test.false))

pub expression-returns-in_default : goal.expression-returns-in_default
expression-returns-in_default t c = sym c.loop.invariant ∙ chain_left _ _ _ _ _ c.in_default.ensures

pub expression-returns-in_err-right : goal.expression-returns-in_err-right
expression-returns-in_err-right t c =
    let p = err_from_is_err_and c.from_residual-in_err-right.result c.from_residual-in_err-right.ensures.1 in
    rw (p.1, p.2)
    (chain_err _ (seen c.args.on) _ c.loop.counter 13 (assignment_by (readers c.args.depth)) (expression_tree (seen c.args.on) c.loop.tree) (drop c.loop.rest (seen c.args.on)) (c.in-Some.operator, see c.args.on.source.now c.in-Some.symbol, drop c.in-Some.after (seen c.args.on)) _
    c.loop-test.true c.in-Some.ensures c.in_err-right.ensures c.loop.invariant)

pub expression-loop-preserved : goal.expression-loop-preserved
expression-loop-preserved t c =
    rw (c.in_ok-tree.ensures (seen c.args.on))
    (chain_next _ c.loop.counter 13 (assignment_by (readers c.args.depth)) (expression_tree (seen c.args.on) c.loop.tree) (drop c.loop.rest (seen c.args.on)) (c.in-Some.operator, see c.args.on.source.now c.in-Some.symbol, drop c.in-Some.after (seen c.args.on))
    (expression_tree (seen c.args.on) c.in_ok-right.right, drop c.in_ok-right.after (seen c.args.on)) _ c.loop-test.true c.in-Some.ensures c.in_ok-right.ensures c.loop.invariant)

pub expression-returns : goal.expression-returns
expression-returns t c = sym c.loop.invariant ∙ chain_full _ _ _ _ _ (omega (arith, c.loop-test.false))

pub levels-returns-in_err-first : goal.levels-returns-in_err-first
levels-returns-in_err-first t c =
    let p = err_from_is_err_and c.from_residual.result c.from_residual.ensures.1 in
    rw (p.1, p.2) (levels_first _ (seen c.args.on) _ (drop c.args.at (seen c.args.on)) c.args.level c.in_err-first.ensures)

pub levels-loop-below-preserved-in_default : goal.levels-loop-below-preserved-in_default
levels-loop-below-preserved-in_default t c = record {
  within = omega arith;
  so_far = levels_same _ _ c.loop-below.below (c.loop-below.below + 1) (expression_tree (seen c.args.on) c.loop-below.tree, drop c.loop-below.rest (seen c.args.on)) refl c.loop-below.invariant.so_far c.in_default.ensures;
}

pub levels-returns-in_err-next : goal.levels-returns-in_err-next
levels-returns-in_err-next t c =
    let p = err_from_is_err_and c.from_residual-in_err-next.result c.from_residual-in_err-next.ensures.1 in
    rw (p.1, p.2)
    (levels_err _ (seen c.args.on) _ _ c.loop-below.below (c.loop-below.below + 1) (c.loop-below.below + 1 - 1) c.args.level (expression_tree (seen c.args.on) c.loop-below.tree, drop c.loop-below.rest (seen c.args.on)) c.loop-below-test.true refl (omega arith)
    c.loop-below.invariant.so_far c.in_err-next.ensures)

pub levels-loop-below-preserved : goal.levels-loop-below-preserved
levels-loop-below-preserved t c = record {
  within = omega (arith, c.loop-below-test.true);
  so_far = levels_next _ _ c.loop-below.below (c.loop-below.below + 1) (c.loop-below.below + 1 - 1) (expression_tree (seen c.args.on) c.loop-below.tree, drop c.loop-below.rest (seen c.args.on))
      (expression_tree (seen c.args.on) c.in_ok-next.next, drop c.in_ok-next.after (seen c.args.on)) refl (omega arith) c.loop-below.invariant.so_far c.in_ok-next.ensures;
}

-- ---- operands

pub operand-returns-in_err-head : goal.operand-returns-in_err-head
operand-returns-in_err-head t c =
    let p = err_from_is_err_and c.from_residual.result c.from_residual.ensures.1 in
    rw (p.1, p.2)
    (passes_on _ (seen c.args.on) (head_at c.args.only _ (drop c.args.at (seen c.args.on))) (operand_of c.args.only (readers c.args.depth) (drop c.args.at (seen c.args.on)))
    (λ st h. operand_stops c.args.only (readers c.args.depth) _ (drop c.args.at (seen c.args.on)) st (may_open_is c.args.depth) h) c.in_err-head.ensures)

pub operand-returns : goal.operand-returns
operand-returns t c =
    gives_same (seen c.args.on) _ _ _ _
    (operand_read c.args.only (readers c.args.depth) _ (drop c.args.at (seen c.args.on)) (drop c.in_ok-head.next (seen c.args.on)) (head_tree (seen c.args.on) c.in_ok-head.head) (may_open_is c.args.depth) c.in_ok-head.ensures) c.behind.ensures

-- ---- suffixes

pub suffix-returns-in_ok-arguments-in-OpenParenthesis : goal.suffix-returns-in_ok-arguments-in-OpenParenthesis
suffix-returns-in_ok-arguments-in-OpenParenthesis t c =
    call_suffix (readers c.args.depth) (drop c.args.at (seen c.args.on)) (drop c.in-Some.next (seen c.args.on)) (drop c.in_ok-arguments-in-OpenParenthesis.rest (seen c.args.on)) (see c.args.on.source.now c.in-Some.symbol)
    (map (expression_tree (seen c.args.on)) c.in_ok-arguments-in-OpenParenthesis.arguments.items) c.in-Some.ensures c.in-OpenParenthesis.is c.in_ok-arguments-in-OpenParenthesis.ensures
    ∙ ap (λ z. Ok (Some z, drop c.in_ok-arguments-in-OpenParenthesis.rest (seen c.args.on))) (sym (suffix-Call (seen c.args.on) c.in-Some.symbol.site c.in_ok-arguments-in-OpenParenthesis.arguments))

pub suffixes-returns-in_err-suffix : goal.suffixes-returns-in_err-suffix
suffixes-returns-in_err-suffix t c =
    let p = err_from_is_err_and c.from_residual.result c.from_residual.ensures.1 in
    rw (p.1, p.2) (suffixes_err _ (seen c.args.on) _ c.loop.counter (readers c.args.depth) (expression_tree (seen c.args.on) c.loop.tree) (drop c.loop.rest (seen c.args.on)) _ c.loop-test.true c.in_err-suffix.ensures c.loop.invariant)

pub suffixes-returns : goal.suffixes-returns
suffixes-returns t c = sym c.loop.invariant ∙ suffixes_full _ _ _ _ (omega (arith, c.loop-test.false))

pub suffixes-returns-in_default : goal.suffixes-returns-in_default
suffixes-returns-in_default t c =
    sym c.loop.invariant
    ∙ suffixes_left _ c.loop.counter (readers c.args.depth) (expression_tree (seen c.args.on) c.loop.tree) (drop c.loop.rest (seen c.args.on)) _ (drop c.in_ok-suffix.after (seen c.args.on)) c.loop-test.true (ap (option_map (suffix_tree (seen c.args.on))) c.in_default.is) c.in_ok-suffix.ensures

pub suffixes-loop-preserved : goal.suffixes-loop-preserved
suffixes-loop-preserved t c =
    rw (c.in_ok-tree.ensures (seen c.args.on))
    (suffixes_next _ c.loop.counter (readers c.args.depth) (expression_tree (seen c.args.on) c.loop.tree) (drop c.loop.rest (seen c.args.on)) _ (suffix_tree (seen c.args.on) c.in-Some.suffix) (drop c.in_ok-suffix.after (seen c.args.on)) _
    c.loop-test.true (ap (option_map (suffix_tree (seen c.args.on))) c.in-Some.is) c.in_ok-suffix.ensures c.loop.invariant)

-- ---- arguments

pub arguments-returns-in-Some : goal.arguments-returns-in-Some
arguments-returns-in-Some t c =
    rw c.new.ensures.items (no_items (part_reader P.Assignment (readers c.args.depth)) (drop c.args.at (seen c.args.on)) (see c.args.on.source.now c.in-Some.field-0-0, drop c.in-Some.rest (seen c.args.on)) c.in-Some.ensures)

pub arguments-returns-in_err-first : goal.arguments-returns-in_err-first
arguments-returns-in_err-first t c =
    let p = err_from_is_err_and c.from_residual.result c.from_residual.ensures.1 in
    rw (p.1, p.2) (items_none _ (seen c.args.on) (part_reader P.Assignment (readers c.args.depth)) (drop c.args.at (seen c.args.on)) c.in_default.ensures c.in_err-first.ensures)

pub arguments-loop-init : goal.arguments-loop-init
arguments-loop-init t c =
    let e : map (expression_tree (seen c.args.on)) c.push.new.self.items ≡ expression_tree (seen c.args.on) c.in_ok-first.first ∷ [] =
    rw (c.in_ok-push.ensures.items, c.new-all.ensures.items) refl in
    let m : length (drop c.in_ok-first.after (seen c.args.on)) - 0 ≡ length (drop c.in_ok-first.after (seen c.args.on)) = omega arith in
    rw (e, c.left-end.ensures, m)
    (items_first (part_reader P.Assignment (readers c.args.depth)) (drop c.args.at (seen c.args.on)) (expression_tree (seen c.args.on) c.in_ok-first.first, drop c.in_ok-first.after (seen c.args.on)) c.in_default.ensures c.in_ok-first.ensures)

pub arguments-returns-in_default-front : goal.arguments-returns-in_default-front
arguments-returns-in_default-front t c =
    gives_same (seen c.args.on) _ _ _ _ (sym c.loop.invariant ∙ items_left _ (part_reader P.Assignment (readers c.args.depth)) (map (expression_tree (seen c.args.on)) c.loop.all.items) (drop c.loop.rest (seen c.args.on)) c.in_default-front.ensures) c.all_arguments.ensures

pub arguments-returns-in_err-next : goal.arguments-returns-in_err-next
arguments-returns-in_err-next t c =
    let p = err_from_is_err_and c.from_residual-in_err-next.result c.from_residual-in_err-next.ensures.1 in
    rw (p.1, p.2)
    (items_err _ (seen c.args.on) _ c.loop.counter (part_reader P.Assignment (readers c.args.depth)) (map (expression_tree (seen c.args.on)) c.loop.all.items) (drop c.loop.rest (seen c.args.on)) (see c.args.on.source.now c.in-Some-front.field-0-0, drop c.in-Some-front.after (seen c.args.on)) _
    c.loop-test.true c.in-Some-front.ensures c.in_err-next.ensures c.loop.invariant)

pub arguments-loop-preserved : goal.arguments-loop-preserved
arguments-loop-preserved t c =
    let e : map (expression_tree (seen c.args.on)) c.push-in-loop.new.self.items ≡ map (expression_tree (seen c.args.on)) c.loop.all.items ++ expression_tree (seen c.args.on) c.in_ok-next.next ∷ [] =
    rw c.in_ok-push-2.ensures.items (map_push _ c.loop.all.items c.in_ok-next.next) in
    rw e
    (items_next _ c.loop.counter (part_reader P.Assignment (readers c.args.depth)) (map (expression_tree (seen c.args.on)) c.loop.all.items) (drop c.loop.rest (seen c.args.on)) (see c.args.on.source.now c.in-Some-front.field-0-0, drop c.in-Some-front.after (seen c.args.on))
    (expression_tree (seen c.args.on) c.in_ok-next.next, drop c.in_ok-next.after (seen c.args.on)) _ c.loop-test.true c.in-Some-front.ensures c.in_ok-next.ensures c.loop.invariant)

pub arguments-returns : goal.arguments-returns
arguments-returns t c =
    gives_same (seen c.args.on) _ _ _ _ (sym c.loop.invariant ∙ items_full _ (part_reader P.Assignment (readers c.args.depth)) (map (expression_tree (seen c.args.on)) c.loop.all.items) (drop c.loop.rest (seen c.args.on)) (omega (arith, c.loop-test.false))) c.all_arguments-2.ensures
