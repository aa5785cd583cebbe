use Rattle.px_rechecking.proofs.LineLemmas.{text_put}
use Rattle.px_rechecking.proofs.lines.bad_item_text.Goals as goal

pub returns : goal.returns
returns c =
    text_put c.args.place c.new-text.result.items c.put.new.out.items c.put_number.new.out.items c.put-2.new.out.items
    c.new-text.ensures.items c.in_ok-put.ensures c.in_ok-put_number.ensures c.in_ok-put-2.ensures
