use Rattle.px_syntax.specs.ParsedTree.{parsed_tree}
use Rattle.px_typing.proofs.ApartLemmas.{apart_more}
use Rattle.px_typing.proofs.apart.add_item.Goals as goal

pub returns : goal.returns
returns c =
    apart_more c.args.apart.now (record { heads = c.push.new.self; bodies = c.push-2.new.self }) (parsed_tree c.args.item) _ _
    c.in_ok-push.ensures.items c.in_ok-push-2.ensures.items c.split-head.ensures
