use Rattle.std.proofs.Common.{arith}
use Rattle.px_explore.proofs.TrailLemmas.{held_length}
use Rattle.px_explore.proofs.trail.Trail.len.Goals as goal

pub returns : goal.returns
returns c = λ items h.
    let holders = c.args.self.now.holders in
    let n = held_length c.args.self.now items h in omega (arith, c.len.ensures, holders.ok.0, n)
