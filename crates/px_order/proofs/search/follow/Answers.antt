use Rattle.std.proofs.Common.{◌≡◌, ◌+◌, sym, ◌∙◌, arith}
use Rattle.std.specs.Prelude.{slice_index}
use Rattle.std.proofs.lemmas.List.{get_or_default}
use Rattle.px_order.proofs.Following.{learns_both, but_next}
use Rattle.px_order.proofs.search.follow.Goals as goal

pub loop-next-preserved : goal.loop-next-preserved
loop-next-preserved c =
    let h = c.loop-next.invariant in
    let a = c.in_ok-follow_from.ensures.learns in
    let l = a.longer in
    let here : slice_index c.loop-next.reached.items c.loop-next.next ≡ c.index-variable.result.now =
    get_or_default c.loop-next.reached.items c.loop-next.next 0 c.index-variable.result.now (omega arith) ∙ sym c.index-variable.ensures in
    record {
      within = omega arith;
      listed = c.follow_from.ensures.listed;
      learns = learns_both c.args.comparisons.now c.args.marks.now c.loop-next.marks c.follow_from.new.marks c.args.reached.now.items c.loop-next.reached.items c.follow_from.new.reached.items h.learns a;
      handled = c.in_ok-follow_from.ensures.handled (c.loop-next.next + 1) (omega arith)
          (but_next c.args.comparisons.now c.loop-next.marks c.loop-next.reached.items c.loop-next.next c.index-variable.result.now here h.handled);
    }
