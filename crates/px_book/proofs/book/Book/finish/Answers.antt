use Rattle.std.proofs.Common.{◌≡◌, ◌↔◌, true, false, subst}
use Rattle.px_book.specs.Rolls.{AllSettled}
use Rattle.px_book.specs.Books.{roll_in}
use Rattle.px_book.proofs.CallLemmas.{done_is}
use Rattle.px_book.proofs.book.Book.finish.Goals as goal

pub returns-then-not-is_done-clause-done : goal.returns-then-not-is_done-clause-done
returns-then-not-is_done-clause-done g c =
    let i = c.self.inside in
    let no : c.is_done.result ≡ false = (let e = c.if-not-is_done.true in cc) in
    subst (λ z. (z ≡ true) ↔ AllSettled (roll_in c.args.self)) no (done_is g.H.Honesty.says i.sources i.roll i.parts i.total.total i.rest.amount i.rest.parts c.self.invariant c.args.self c.self.view_is c.is_done.result c.is_done.ensures)
