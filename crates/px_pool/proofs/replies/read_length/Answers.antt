use Rattle.std.proofs.Common.{rules, sym, subst, ◌≡◌, length, false}
use Rattle.px_pool.specs.Reading.{Gives}
use Rattle.px_pool.proofs.ReplyLemmas.{length_given}
use Rattle.px_pool.proofs.replies.read_length.Goals as goal

pub returns-else-length-gt-MOST_BYTES-clause-given : goal.returns-else-length-gt-MOST_BYTES-clause-given
returns-else-length-gt-MOST_BYTES-clause-given g c =
    let t0 = g.K.Link.told c.args.link.now in
    let t1 = g.K.Link.told c.fill.new.link in
    let four : length c.fill.new.into ≡ 4 = search rules in
    subst (λ l. Gives t0 t1 l false) (sym c.length_in-length.ensures.spelled)
    (length_given t0 t1 c.fill.new.into c.in-Ok.count four c.if-count-lt4.false c.in-Ok.ensures.bound c.in-Ok.ensures.given)
