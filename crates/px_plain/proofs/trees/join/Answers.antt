use Rattle.std.proofs.Common.{rules}
use Rattle.px_plain.proofs.JoinLemmas.{broken_link, clash_of_one}
use Rattle.px_plain.proofs.TreeLinks.{tied_by}
use Rattle.px_plain.proofs.trees.join.Goals as goal

pub returns-else-link_apart : goal.returns-else-link_apart
returns-else-link_apart c =
    let t = c.args.table.now in
    let d = c.args.difference in
    let l = c.in-By.link in
    let h = c.in-By.ensures in
    let no = c.link_apart.ensures.no c.if-link_apart.false in
    (no.0, λ f w k a b. broken_link t c.args.unequal.now l h.0 f w k no.1 c.requires.inside a (tied_by t f d l c.requires.from_inside c.requires.to_inside (h.1 f) w k b))

pub returns-in-Clash : goal.returns-in-Clash
returns-in-Clash c =
    (search rules, clash_of_one c.args.table.now c.args.unequal.now c.args.difference c.requires.from_inside c.requires.to_inside c.in-Clash.ensures)
