use Rattle.std.proofs.Common.{map, ap, subst, ◌∙◌}
use Rattle.px_real_symbols.specs.Symbols.{see}
use Rattle.px_real_reading.specs.Faults.{GoesWrong, NestsTooDeep}
use Rattle.px_real_reading.proofs.reading.expression_of.Goals as goal

pub returns-clause-wrong : goal.returns-clause-wrong
returns-clause-wrong g c = λ at h. subst (GoesWrong at) (ap (map (see c.args.source.now)) c.deref.ensures.value ∙ c.in_ok-symbols.ensures) (c.read.ensures.wrong at h)

pub returns-clause-deep : goal.returns-clause-deep
returns-clause-deep g c = λ at h. subst (NestsTooDeep at) (ap (map (see c.args.source.now)) c.deref.ensures.value ∙ c.in_ok-symbols.ensures) (c.read.ensures.deep at h)
