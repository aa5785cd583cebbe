use Rattle.std.proofs.Common.{ap, ◌∙◌, length}
use Rattle.std.proofs.lemmas.Result.{on_ok_weaker}
use Rattle.px_walks.specs.Nexts.{items_from}
use Rattle.px_walks.specs.Items.{items_of}
use Rattle.px_explore.specs.Taken.{is_freed_way, item_rule}
use Rattle.px_explore.proofs.TakenLemmas.{put_none, put_some}
use Rattle.px_explore.proofs.taken.put_item_steps.Goals as goal

pub returns-then-is_silent : goal.returns-then-is_silent
returns-then-is_silent c =
    let n = c.next_item-next.ensures in
    put_none c.next_item-next.result (items_of c.args.walk.now.control.items) n.0 n.1 c.args.walk.now.state.atoms c.args.way c.is_silent.result (c.is_silent.ensures n.0) c.args.steps.now c.if-is_silent.true

pub returns : goal.returns
returns c =
    let n = c.next_item-next.ensures in
    on_ok_weaker c.put_use.result
    (λ h. put_some c.next_item-next.result (items_of c.args.walk.now.control.items) n.0 n.1 c.args.walk.now.state.atoms c.args.way c.is_silent.result (c.is_silent.ensures n.0)
    c.args.steps.now c.push.new.self c.put_use.new.steps _ _ c.if-is_silent.false c.in_ok-push.ensures.added
    (c.item_rule.ensures n.0 ∙ ap (λ z. item_rule (items_from c.next_item-next.result n.0) z c.args.way) (c.is_freed.ensures ∙ ap (λ z. is_freed_way z c.args.way) c.as_slice-atoms.ensures))
    c.in_ok-choices.ensures (ap length c.as_slice-atoms.ensures) (h n.0))
    c.put_use.ensures
