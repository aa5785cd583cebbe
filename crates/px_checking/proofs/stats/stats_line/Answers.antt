use Rattle.px_checking.proofs.StatsLemmas.{put_together}
use Rattle.px_checking.proofs.stats.stats_line.Goals as goal

pub returns : goal.returns
returns c =
    let t = c.tally_of-by_workers in
    put_together c.args.history.now t.result.by_workers t.result.by_parent t.result.lost c.new-line.result.items
    c.put.new.out.items c.put_number.new.out.items c.put-2.new.out.items c.put_number-2.new.out.items c.put-3.new.out.items c.put_number-3.new.out.items c.put-4.new.out.items
    t.ensures.by_workers t.ensures.by_parent t.ensures.lost c.new-line.ensures.items
    c.in_ok-put.ensures c.in_ok-put_number.ensures c.in_ok-put-2.ensures c.in_ok-put_number-2.ensures c.in_ok-put-3.ensures c.in_ok-put_number-3.ensures c.in_ok-put-4.ensures
