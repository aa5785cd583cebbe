use Rattle.std.proofs.Common.{◌≡◌, ◌-◌, ◌++◌, ◌∷◌, [], Ok, option_map, map, length, drop, sym, ap, ◌∙◌, arith}
use Rattle.std.proofs.lemmas.Result.{err_from_is_err_and}
use Rattle.std.proofs.lemmas.List.{map_push}
use Rattle.px_real_symbols.specs.Symbols.{see, seen}
use Rattle.px_real_statements.specs.Reading.{statement_at}
use Rattle.px_real_blocks.specs.Trees.{label_tree, statement_tree}
use Rattle.px_real_blocks.specs.Parts.{read_view}
use Rattle.px_real_blocks.proofs.ReaderEquations.{no_statement_at, labels_fail, unlabelled_fails, statement_read}
use Rattle.px_real_blocks.proofs.Loops.{after_none, items_end, items_next, items_unread, items_err, items_full}
use Rattle.px_real_blocks.proofs.statements.+statement.Goals as goal

-- ---- statements

pub statement-returns-then-depth-eq0 : goal.statement-returns-then-depth-eq0
statement-returns-then-depth-eq0 t c = no_statement_at c.args.depth (drop c.args.at (seen c.args.on)) c.if-depth-eq0.true

pub statement-returns-in_err-labels : goal.statement-returns-in_err-labels
statement-returns-in_err-labels t c =
    let p = err_from_is_err_and c.from_residual.result c.from_residual.ensures.1 in
    rw (p.1, p.2) (labels_fail _ (seen c.args.on) c.args.depth (drop c.args.at (seen c.args.on)) (omega (arith, c.if-depth-eq0.false)) c.in_err-labels.ensures)

pub statement-returns-in_err-statement : goal.statement-returns-in_err-statement
statement-returns-in_err-statement t c =
    let p = err_from_is_err_and c.from_residual-in_err-statement.result c.from_residual-in_err-statement.ensures.1 in
    rw (p.1, p.2)
    (unlabelled_fails _ (seen c.args.on) c.args.depth (drop c.args.at (seen c.args.on)) (map (label_tree (seen c.args.on)) c.in_ok-labels.labels.items, drop c.in_ok-labels.next (seen c.args.on))
    (omega (arith, c.if-depth-eq0.false)) c.in_ok-labels.ensures c.in_err-statement.ensures)

pub statement-returns : goal.statement-returns
statement-returns t c =
    statement_read c.args.depth (drop c.args.at (seen c.args.on)) (map (label_tree (seen c.args.on)) c.in_ok-labels.labels.items, drop c.in_ok-labels.next (seen c.args.on))
    (statement_tree (seen c.args.on) c.in_ok-statement.statement, drop c.in_ok-statement.after (seen c.args.on)) (omega (arith, c.if-depth-eq0.false)) c.in_ok-labels.ensures c.in_ok-statement.ensures
    ∙ ap (λ z. Ok (z, drop c.in_ok-statement.after (seen c.args.on))) (sym (c.in_ok-statement-2.ensures (seen c.args.on)))

-- ---- items

pub items-loop-init : goal.items-loop-init
items-loop-init t c =
    let m : length (drop c.args.start (seen c.args.on)) - 0 ≡ length (drop c.args.start (seen c.args.on)) = omega arith in
    rw (c.new-all.ensures.items, c.left-end.ensures, m) (after_none _)

pub items-returns-in-Some : goal.items-returns-in-Some
items-returns-in-Some t c =
    items_end _ c.loop.counter (statement_at c.args.depth) (map (statement_tree (seen c.args.on)) c.loop.all.items) (drop c.loop.at (seen c.args.on)) (see c.args.on.source.now c.in-Some.field-0.0, drop c.in-Some.field-0.1 (seen c.args.on)) _
    c.loop-test.true c.in-Some.ensures c.loop.invariant

pub items-returns-in_err-last : goal.items-returns-in_err-last
items-returns-in_err-last t c =
    let p = err_from_is_err_and c.from_residual-in_err-last.result c.from_residual-in_err-last.ensures.1 in
    rw (p.1, p.2)
    (items_err _ (seen c.args.on) _ c.loop.counter (statement_at c.args.depth) (map (statement_tree (seen c.args.on)) c.loop.all.items) (drop c.loop.at (seen c.args.on)) _ c.loop-test.true c.in_default.ensures (sym (ap (option_map (read_view (seen c.args.on))) c.in_default-2.is) ∙ c.in_ok-next.ensures) c.in_err-last.ensures
    c.loop.invariant)

pub items-returns-in_default-2 : goal.items-returns-in_default-2
items-returns-in_default-2 t c =
    let e : map (statement_tree (seen c.args.on)) c.push.new.self.items ≡ map (statement_tree (seen c.args.on)) c.loop.all.items ++ statement_tree (seen c.args.on) c.in_ok-last.last ∷ [] =
    rw c.in_ok-push.ensures.items (map_push _ c.loop.all.items c.in_ok-last.last) in
    rw e
    (items_unread _ c.loop.counter (statement_at c.args.depth) (map (statement_tree (seen c.args.on)) c.loop.all.items) (drop c.loop.at (seen c.args.on)) (statement_tree (seen c.args.on) c.in_ok-last.last, drop c.in_ok-last.after (seen c.args.on)) _
    c.loop-test.true c.in_default.ensures (sym (ap (option_map (read_view (seen c.args.on))) c.in_default-2.is) ∙ c.in_ok-next.ensures) c.in_ok-last.ensures c.loop.invariant)

pub items-loop-preserved : goal.items-loop-preserved
items-loop-preserved t c =
    let e : map (statement_tree (seen c.args.on)) c.push-in-loop.new.self.items ≡ map (statement_tree (seen c.args.on)) c.loop.all.items ++ statement_tree (seen c.args.on) c.in-Some-2.next ∷ [] =
    rw c.in_ok-push-2.ensures.items (map_push _ c.loop.all.items c.in-Some-2.next) in
    rw e
    (items_next _ c.loop.counter (statement_at c.args.depth) (map (statement_tree (seen c.args.on)) c.loop.all.items) (drop c.loop.at (seen c.args.on))
    (statement_tree (seen c.args.on) c.in-Some-2.next, drop c.in-Some-2.after (seen c.args.on)) _ c.loop-test.true c.in_default.ensures (sym (ap (option_map (read_view (seen c.args.on))) c.in-Some-2.is) ∙ c.in_ok-next.ensures) c.loop.invariant)

pub items-returns : goal.items-returns
items-returns t c = items_full _ (statement_at c.args.depth) (map (statement_tree (seen c.args.on)) c.loop.all.items) (drop c.loop.at (seen c.args.on)) _ (omega (arith, c.loop-test.false)) c.loop.invariant
