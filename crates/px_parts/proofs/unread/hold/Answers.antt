use Rattle.std.proofs.Common.{rules, ◌≡◌, ◌++◌, ap, ◌∙◌}
use Rattle.std.specs.Prelude.{drop}
use Rattle.px_parts.specs.Kept.{place_in, held_in}
use Rattle.px_parts.proofs.Holding.{skim_held, held_more}
use Rattle.px_parts.proofs.unread.hold.Goals as goal

pub returns-clause-skim : goal.returns-clause-skim
returns-clause-skim c =
    let u = c.make_room.new.unread in
    let all = c.extend_from_slice.new.self.items in
    let more : all ≡ u.held.items ++ c.args.bytes.now = search rules in
    skim_held (place_in u) (drop u.start all) (held_in u) c.args.bytes.now u.skim (ap (λ l. drop u.start l) more ∙ held_more u.start u.held.items c.args.bytes.now c.make_room.ensures.within) c.make_room.ensures.skim
