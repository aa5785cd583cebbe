use Rattle.std.proofs.Common.{◌≡◌, true, Option, Some, None, slice_index_or, sym, subst, ◌∙◌}
use Rattle.px_pieces.specs.declared.desk.Status.{Status}
use Rattle.px_pieces.specs.Desk.{is_of_desk}
use Rattle.px_book.specs.Ready.{status_at}
use Rattle.px_book.specs.Rolls.{RollParts, desk_in, desk_of, no_bodies}
use Rattle.px_book.proofs.Histories.{stands_on}
use Rattle.px_book.proofs.roll.Roll.standing.Goals as goal

pub unreachable-requires : goal.unreachable-requires
unreachable-requires c =
    let i = c.self.inside in
    let f = c.args.proc.0 in
    let of_desk : is_of_desk (desk_in no_bodies i.graph i.out) f ≡ true =
    subst (λ (z : RollParts). is_of_desk (desk_of no_bodies z) f ≡ true) (sym c.self.view_is) c.requires in
    let there = stands_on (desk_in no_bodies i.graph i.out) i.history.items f of_desk in
    let none : status_at i.statuses.items f ≡ None = subst (λ z. slice_index_or i.statuses.items f z ≡ z) c.in_default.is (sym c.index.ensures) in
    let e : ◌≡◌ {A = Option Status} None (Some there.0) = sym none ∙ c.self.invariant.0.stands f ∙ there.1 in cc
