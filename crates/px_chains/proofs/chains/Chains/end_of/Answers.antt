use Rattle.std.proofs.Common.{arith}
use Rattle.std.proofs.lemmas.List.{get_or_past}
use Rattle.px_chains.proofs.Linking.{end_is}
use Rattle.px_chains.proofs.chains.Chains.end_of.Goals as goal

pub returns-else-key-len : goal.returns-else-key-len
returns-else-key-len c =
    end_is c.self.inside.links.items c.self.inside.ends.items c.args.self.now c.self.invariant c.self.view_is c.args.key 0
    (get_or_past c.self.inside.ends.items c.args.key 0 (omega arith))
