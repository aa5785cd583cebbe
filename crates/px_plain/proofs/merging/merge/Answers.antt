use Rattle.px_plain.proofs.JoinLemmas.{below_joins, null_joins}
use Rattle.px_plain.proofs.merging.merge.Goals as goal

pub returns-in-Below : goal.returns-in-Below
returns-in-Below c =
    let m = c.in-Below.ensures in
    below_joins c.args.vars.now c.args.owners.now c.args.table.now c.args.unequal.now c.args.difference c.merge_below.new.table c.find-a.result.parent c.find-b.result.parent
    c.find-a.ensures.found c.find-b.ensures.found c.in-Below.root c.in-Below.parent m.1 m.2 c.merge_below.result c.merge_below.ensures

pub returns-in-Null : goal.returns-in-Null
returns-in-Null c =
    let m = c.in-Null.ensures in
    null_joins c.args.vars.now c.args.owners.now c.args.table.now c.args.unequal.now c.args.difference c.merge_null.new.table c.find-a.result.parent c.find-b.result.parent
    c.find-a.ensures.found c.find-b.ensures.found c.in-Null.first c.in-Null.second m.1 m.2 m.3 c.merge_null.result c.merge_null.ensures
