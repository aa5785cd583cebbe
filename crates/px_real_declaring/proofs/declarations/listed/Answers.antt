use Rattle.std.proofs.Common.{drop, sym, ◌∙◌}
use Rattle.std.proofs.lemmas.Result.{err_from_is_err_and}
use Rattle.px_real_symbols.specs.Symbols.{seen}
use Rattle.px_real_symbols.proofs.AnswerLemmas.{gives_same}
use Rattle.px_real_declaring.specs.Trees.{declared_tree}
use Rattle.px_real_declaring.specs.Items.{item_at}
use Rattle.px_real_declaring.proofs.ListLoops.{nothing_listed, listed_err, listed_so}
use Rattle.px_real_declaring.proofs.declarations.listed.Goals as goal

pub returns-then-is_over : goal.returns-then-is_over
returns-then-is_over g c = rw c.new-nothing.ensures.items (nothing_listed (item_at (g.T.TypeNames.named c.args.types.now) c.args.members) (drop c.args.start (seen c.args.on)) (sym c.if-is_over.true ∙ c.is_over.ensures))

pub returns-in_err-first : goal.returns-in_err-first
returns-in_err-first g c =
    let p = err_from_is_err_and c.from_residual.result c.from_residual.ensures.1 in
    rw (p.1, p.2)
    (listed_err _ (seen c.args.on) (item_at (g.T.TypeNames.named c.args.types.now) c.args.members) (drop c.args.start (seen c.args.on)) (sym c.if-is_over.false ∙ c.is_over.ensures) c.in_err-first.ensures)

pub returns : goal.returns
returns g c =
    gives_same (seen c.args.on) _ _ _ _
    (listed_so _ (drop c.args.start (seen c.args.on)) (drop c.in_ok-first.after (seen c.args.on)) (declared_tree (seen c.args.on) c.in_ok-first.first) (sym c.if-is_over.false ∙ c.is_over.ensures) c.in_ok-first.ensures)
    c.more.ensures
