use Rattle.std.proofs.Common.{◌≡◌, true}
use Rattle.px_pieces.specs.Pieces.{PieceParts}
use Rattle.px_book.proofs.CallLemmas.{due_place, due_room, due_kept}
use Rattle.px_book.proofs.book.Book.publish.Goals as goal

pub set-requires : goal.set-requires
set-requires g c =
    let i = c.self.inside in
    let r = c.into_parts-job.result in
    let p : PieceParts = record { job = r.0; entries = r.1; drops = r.2 } in
    let yes : c.is_due.result ≡ true = (let e = c.if-not-is_due.false in cc) in
    due_place g.H.Honesty.says i.sources i.roll i.parts i.total.total i.rest.amount i.rest.parts c.self.invariant c.args.self.now c.self.view_is c.args.ticket p (c.is_due.ensures.0 yes)

pub of_one-requires-clause-parts : goal.of_one-requires-clause-parts
of_one-requires-clause-parts g c =
    let i = c.self.inside in
    let r = c.into_parts-job.result in
    let p : PieceParts = record { job = r.0; entries = r.1; drops = r.2 } in
    let yes : c.is_due.result ≡ true = (let e = c.if-not-is_due.false in cc) in
    due_room g.H.Honesty.says i.sources i.roll i.parts i.total.total i.rest.amount i.rest.parts c.self.invariant c.args.self.now c.self.view_is c.args.ticket p (c.is_due.ensures.0 yes)

pub invariant_of-self : goal.invariant_of-self
invariant_of-self g c =
    let i = c.self.inside in
    let r = c.into_parts-job.result in
    let p : PieceParts = record { job = r.0; entries = r.1; drops = r.2 } in
    let yes : c.is_due.result ≡ true = (let e = c.if-not-is_due.false in cc) in
    due_kept g.H.Honesty.says i.sources i.roll i.parts i.total.total i.rest.amount i.rest.parts c.self.invariant c.args.self.now c.self.view_is c.args.ticket p (c.is_due.ensures.0 yes)
    c.into_parts-job.ensures.derived c.into_parts-job.ensures.told c.publish.result c.publish.new.self c.set.new.self c.of_one.new.total.total c.of_one.new.rest.amount c.of_one.new.rest.parts
    c.publish.ensures.held c.publish.ensures.published c.set.ensures c.of_one.ensures.total c.of_one.ensures.spent c.of_one.ensures.parts
