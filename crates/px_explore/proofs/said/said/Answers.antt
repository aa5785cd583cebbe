use Rattle.std.proofs.Common.{sym, ◌∙◌}
use Rattle.std.proofs.lemmas.Result.{IfOk-weaker}
use Rattle.px_walks.specs.Walks.{walk_of}
use Rattle.px_explore.proofs.SaidLemmas.{some_weaker, next_said}
use Rattle.px_explore.proofs.said.said.Goals as goal

pub returns-in-Command : goal.returns-in-Command
returns-in-Command c =
    let w = walk_of c.args.walk.now in
    let (rest, is) = c.next_item.ensures in
    IfOk-weaker c.said_by.result _ _ (λ o. some_weaker _ _ o (λ x h j n. next_said j w c.next_item.result c.in-Command.command rest c.args.way x c.in-Command.is is (sym c.is_calling.ensures ∙ c.if-is_calling.false) (h j rest n)))
    c.said_by.ensures
