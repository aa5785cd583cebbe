use Rattle.std.proofs.Common.{◌≡◌, true, refl}
use Rattle.px_book.proofs.CallLemmas.{kept_lost, loss_held}
use Rattle.px_book.proofs.book.Book.lose.Goals as goal

pub invariant_of-self-2 : goal.invariant_of-self-2
invariant_of-self-2 g c = let i = c.self.inside in kept_lost g.H.Honesty.says i.sources i.roll i.parts i.total.total i.rest.amount i.rest.parts c.self.invariant c.args.self.now c.self.view_is c.args.ticket c.args.why c.lose.result c.lose.new.self c.lose.ensures.held c.lose.ensures.lost

pub returns-clause-held : goal.returns-clause-held
returns-clause-held g c =
    let i = c.self.inside in
    let yes : c.lose.result ≡ true = (let e = c.if-not-lose.false in cc) in
    (λ e. loss_held g.H.Honesty.says i.sources i.roll i.parts i.total.total i.rest.amount i.rest.parts c.self.invariant c.args.self.now c.self.view_is c.args.ticket (c.lose.ensures.held.0 yes), λ h. refl)
