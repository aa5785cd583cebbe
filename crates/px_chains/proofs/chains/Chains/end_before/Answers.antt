use Rattle.px_chains.proofs.Linking.{before_is}
use Rattle.px_chains.proofs.chains.Chains.end_before.Goals as goal

pub returns : goal.returns
returns c = before_is c.self.inside.links.items c.self.inside.ends.items c.args.self.now c.self.invariant c.self.view_is c.args.place c.index.result.now c.requires c.index.ensures
