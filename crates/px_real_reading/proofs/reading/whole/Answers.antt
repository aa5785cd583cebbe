use Rattle.std.proofs.Common.{drop, length-drop, arith}
use Rattle.std.proofs.lemmas.List.{length-map}
use Rattle.std.proofs.lemmas.Result.{err_from_is_err_and}
use Rattle.px_real_expressions.specs.Reading.{readers, expression_by}
use Rattle.px_real_symbols.specs.Symbols.{see, seen}
use Rattle.px_real_reading.specs.Trees.{expression_tree}
use Rattle.px_real_reading.specs.Faults.{nesting_limit, whole_at}
use Rattle.px_real_symbols.proofs.FrontLemmas.{drop_past}
use Rattle.px_real_symbols.proofs.AnswerLemmas.{passes_on}
use Rattle.px_real_reading.proofs.WholeLemmas.{whole_stops, whole_left, whole_done}
use Rattle.px_real_reading.proofs.reading.whole.Goals as goal

pub returns-in_err-tree : goal.returns-in_err-tree
returns-in_err-tree c =
    let p = err_from_is_err_and c.from_residual.result c.from_residual.ensures.1 in
    rw (p.1, p.2) (passes_on _ (seen c.args.on) (expression_by (readers nesting_limit) (seen c.args.on)) (whole_at nesting_limit (seen c.args.on)) (λ s h. whole_stops nesting_limit (seen c.args.on) s h) c.in_err-tree.ensures)

pub returns-then-next-on : goal.returns-then-next-on
returns-then-next-on c =
    whole_left nesting_limit (seen c.args.on) (drop c.in_ok-tree.next (seen c.args.on)) (expression_tree (seen c.args.on) c.in_ok-tree.tree)
    (omega (arith, c.if-next-on.true, length-drop c.in_ok-tree.next (seen c.args.on), length-map c.args.on.symbols.now (see c.args.on.source.now))) c.in_ok-tree.ensures

pub returns : goal.returns
returns c =
    whole_done nesting_limit (seen c.args.on) (drop c.in_ok-tree.next (seen c.args.on)) (expression_tree (seen c.args.on) c.in_ok-tree.tree)
    (drop_past (see c.args.on.source.now) c.args.on.symbols.now c.in_ok-tree.next (omega (arith, c.if-next-on.false))) c.in_ok-tree.ensures
