use Rattle.std.proofs.Common.{sym, ◌∙◌}
use Rattle.px_walks.specs.Walks.{walk_of}
use Rattle.px_explore.proofs.SaidLemmas.{some_weaker}
use Rattle.px_explore.proofs.KnownLemmas.{next_through}
use Rattle.px_explore.proofs.known.pointer_of.Goals as goal

pub returns-in-Command : goal.returns-in-Command
returns-in-Command c =
    let w = walk_of c.args.walk.now in
    let (rest, is) = c.next_item.ensures in
    some_weaker _ _ c.pointer_by.result (λ x h. next_through w c.next_item.result c.in-Command.command rest x c.in-Command.is is (sym c.is_calling.ensures ∙ c.if-is_calling.false) (h rest)) c.pointer_by.ensures
