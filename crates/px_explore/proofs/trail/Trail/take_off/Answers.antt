use Rattle.std.proofs.Common.{◌<◌, ◌≤◌, ◌∙◌, length, arith}
use Rattle.px_explore.proofs.TrailLemmas.{top_of, still_less, still_all, fewer_held}
use Rattle.px_explore.proofs.trail.Trail.take_off.Goals as goal

pub pop_item-requires : goal.pop_item-requires
pop_item-requires g c =
    let holders = c.loop-self.self.holders in
    let more : c.args.held < length holders.items = omega (arith, c.loop-self-test.true, c.len.ensures, holders.ok.0) in
    top_of c.args.self.now _ c.args.held c.loop-self.self _ c.requires c.loop-self.invariant.still more

pub loop-self-smaller : goal.loop-self-smaller
loop-self-smaller g c =
    let holders = c.loop-self.self.holders in
    let more : c.args.held < length holders.items = omega (arith, c.loop-self-test.true, c.len.ensures, holders.ok.0) in
    fewer_held c.args.self.now _ c.args.held c.loop-self.self _ c.pop_item.new.self _ c.requires c.loop-self.invariant.still more c.pop_item.ensures.popped

pub loop-self-preserved : goal.loop-self-preserved
loop-self-preserved g c =
    let holders = c.loop-self.self.holders in
    let more : c.args.held < length holders.items = omega (arith, c.loop-self-test.true, c.len.ensures, holders.ok.0) in record {
      still = still_less c.args.self.now _ c.args.held c.loop-self.self _ c.pop_item.new.self _ c.loop-self.invariant.still more c.pop_item.ensures.popped;
      kinds = c.pop_item.ensures.kinds ∙ c.loop-self.invariant.kinds;
    }

pub returns-clause-off : goal.returns-clause-off
returns-clause-off g c =
    let holders = c.loop-self.self.holders in
    let few : length holders.items ≤ c.args.held = omega (arith, c.loop-self-test.false, c.len.ensures, holders.ok.0) in
    still_all c.args.self.now _ c.args.held c.loop-self.self _ c.loop-self.invariant.still few
