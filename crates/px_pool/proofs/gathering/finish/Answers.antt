use Rattle.std.proofs.Common.{subst}
use Rattle.px_pool.specs.Gathering.{IsStanding}
use Rattle.px_pool.proofs.GatheringLemmas.{tells_nothing, tells_fault}
use Rattle.px_pool.proofs.gathering.finish.Goals as goal

pub returns-in-Unbegun : goal.returns-in-Unbegun
returns-in-Unbegun c v j parts standing = tells_nothing j v parts c.args.standing c.in-Unbegun.is standing

pub returns-in-Open : goal.returns-in-Open
returns-in-Open c v j parts standing = c.close.ensures v j parts (subst (λ s. IsStanding v j parts s) c.in-Open.is standing)

pub returns-in-Lost : goal.returns-in-Lost
returns-in-Lost c v j parts standing = tells_fault j v parts c.args.standing c.in-Lost.why c.in-Lost.is standing
