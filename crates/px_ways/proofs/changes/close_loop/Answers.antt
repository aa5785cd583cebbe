use Rattle.std.proofs.Common.{ap}
use Rattle.px_ways.proofs.LoopLemmas.{rest_left}
use Rattle.px_ways.proofs.changes.close_loop.Goals as goal

pub returns : goal.returns
returns c =
    let s = c.args.state.now in
    let e = rest_left s.loops c.pop-loop.new.self c.pop-loop.result c.pop-loop.ensures.parts c.pop-loop.ensures.none in
    ap (λ z. record s { loops = z }) e
