use Rattle.std.proofs.Common.{rules, append_assoc}
use Rattle.std.proofs.lemmas.Result.{IfOk-equal}
use Rattle.px_typing.proofs.ChainMentions.{mentions-Binary, mentions-Member, mentions-Call}
use Rattle.px_typing.proofs.walk.+expressions.Goals as goal

pub expression_mentions-returns-in_ok-links_mentions-in-Binary :
    goal.expression_mentions-returns-in_ok-links_mentions-in-Binary
expression_mentions-returns-in_ok-links_mentions-in-Binary t c =
    let b = c.in-Binary in
    rw (mentions-Binary _ b.first b.before b.operator b.site b.right b.is) (search (rules, IfOk-equal, append_assoc))

pub expression_mentions-returns-in-Member : goal.expression_mentions-returns-in-Member
expression_mentions-returns-in-Member t c =
    let m = c.in-Member in
    rw (mentions-Member _ m.site m.pointer m.before m.field m.is) (search rules)

pub expression_mentions-returns-in_ok-push-in-Call :
    goal.expression_mentions-returns-in_ok-push-in-Call
expression_mentions-returns-in_ok-push-in-Call t c =
    let k = c.in-Call in
    rw (mentions-Call _ k.function k.site k.arguments k.is) (search (rules, IfOk-equal, append_assoc))
