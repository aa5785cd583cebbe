use Rattle.px_rechecking.proofs.LineLemmas.{line_put}
use Rattle.px_rechecking.proofs.lines.stats_line.Goals as goal

pub returns : goal.returns
returns c =
    line_put c.args.used c.args.tables _ c.new-line.result.items c.put.new.out.items c.put_number.new.out.items c.put-2.new.out.items c.put_number-2.new.out.items c.put-3.new.out.items
    c.saturating_sub.ensures c.new-line.ensures.items c.in_ok-put.ensures c.in_ok-put_number.ensures c.in_ok-put-2.ensures c.in_ok-put_number-2.ensures c.in_ok-put-3.ensures
