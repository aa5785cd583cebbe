use Rattle.std.proofs.Common.{subst}
use Rattle.px_chains.specs.Links.{AreLinked}
use Rattle.px_chains.proofs.Linking.{linked_less}
use Rattle.px_chains.proofs.chains.take_link.Goals as goal

pub returns-in-Some-clause-linked : goal.returns-in-Some-clause-linked
returns-in-Some-clause-linked c =
    linked_less c.pop.new.self.items c.in-Some.link c.args.ends.now.items (subst (λ ls. AreLinked ls c.args.ends.now.items) c.in-Some.ensures.items c.requires)
