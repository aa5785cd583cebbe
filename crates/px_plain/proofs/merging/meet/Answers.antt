use Rattle.px_plain.proofs.JoinLemmas.{owned_meets}
use Rattle.px_plain.proofs.merging.meet.Goals as goal

pub returns-then-have_one_type : goal.returns-then-have_one_type
returns-then-have_one_type c =
    owned_meets c.args.vars.now c.args.owners.now c.args.a c.args.b c.if-a-b.false (c.is_made_node.ensures.no c.if-is_made_node.false) (c.is_made_node-2.ensures.no c.if-is_made_node-2.false)
    c.meet_owned.result c.if-a-eq0.false c.if-b-eq0.false (c.have_one_type.ensures.yes c.if-have_one_type.true) c.meet_owned.ensures
