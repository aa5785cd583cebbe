use Rattle.std.proofs.Common.{subst}
use Rattle.px_plain.specs.Trees.{IsSomeOne, linked}
use Rattle.px_plain.proofs.JoinLemmas.{cannot_meet}
use Rattle.px_plain.proofs.merging.merge_below.Goals as goal

pub returns : goal.returns
returns c =
    let t = c.args.table.now in
    let us = c.args.unequal.now in
    let no = c.link_apart.ensures.no c.if-link_apart.false in
    (no.0, cannot_meet t us c.args.root c.args.parent c.requires.meeting (subst (λ z. IsSomeOne (linked t z) us) c.link_of-link.ensures no.1) c.requires.inside)
