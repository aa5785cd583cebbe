use Rattle.px_book.proofs.CallLemmas.{held_is}
use Rattle.px_book.proofs.book.Book.held_elsewhere.Goals as goal

pub returns : goal.returns
returns g c = let i = c.self.inside in held_is g.H.Honesty.says i.sources i.roll i.parts i.total.total i.rest.amount i.rest.parts c.self.invariant c.args.self.now c.self.view_is c.is_held.result c.is_held.ensures
