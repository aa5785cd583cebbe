use Rattle.std.proofs.Common.{◌∙◌, ap}
use Rattle.std.specs.Prelude.{is_some}
use Rattle.px_pieces.specs.Desk.{is_of_desk}
use Rattle.px_book.specs.Rolls.{RollParts, desk_of, no_bodies}
use Rattle.px_book.specs.Books.{BookParts, its_desk}
use Rattle.px_book.proofs.DeskLemmas.{some_of_desk}
use Rattle.px_book.proofs.KeepLemmas.{same_roll}
use Rattle.px_book.proofs.book.Book.is_of_desk.Goals as goal

pub returns : goal.returns
returns g c =
    let i = c.self.inside in
    let f = c.args.proc.0 in
    c.is_some.ensures ∙ ap is_some c.status.ensures ∙ some_of_desk (desk_of no_bodies i.roll) i.roll.history f
    ∙ ap (λ (r : RollParts). is_of_desk (desk_of no_bodies r) f) (same_roll g.H.Honesty.says i.sources i.roll i.parts i.total.total i.rest.amount i.rest.parts c.self.invariant)
    ∙ ap (λ (b : BookParts). is_of_desk (its_desk b) f) c.self.view_is
