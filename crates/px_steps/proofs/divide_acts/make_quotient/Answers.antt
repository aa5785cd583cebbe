use Rattle.std.proofs.Common.{rules, []}
use Rattle.px_steps.proofs.PathLimitLemmas.{next_led, cut_led}
use Rattle.px_steps.proofs.DivideLemmas.{dividing, quotient_made, made_grows, made_is}
use Rattle.px_steps.proofs.divide_acts.make_quotient.Goals as goal

pub returns-in-Some : goal.returns-in-Some
returns-in-Some c =
    let a = c.args in
    let s = a.state.now in
    let o = c.in_ok-other in
    let l = c.lacks_quotient-lacking in
    let g = made_grows s a.to a.p.now a.q.now o.other l.result o.ensures l.ensures c.keep_short.ensures c.keep_short-2.ensures c.count_both.result c.count_both.ensures in
    cut_led c.cut.result s (dividing c.count_both.result) (quotient_made s a.to a.p.now a.q.now) [] c.in-Some.passed c.in-Some.ensures.first g c.cut.ensures

pub returns-in_ok-take_quotient-in-None : goal.returns-in_ok-take_quotient-in-None
returns-in_ok-take_quotient-in-None c =
    let a = c.args in
    let s = a.state.now in
    let o = c.in_ok-other in
    let l = c.lacks_quotient-lacking in
    let g = made_grows s a.to a.p.now a.q.now o.other l.result o.ensures l.ensures c.keep_short.ensures c.keep_short-2.ensures c.count_both.result c.count_both.ensures in
    let m = made_is s a.to a.p.now a.q.now o.other l.result o.ensures l.ensures c.keep_short.ensures c.keep_short-2.ensures in
    next_led s (dividing c.count_both.result) c.take_quotient.new.state (quotient_made s a.to a.p.now a.q.now) []
    (search (rules, m)) c.in-None.ensures.first g
