use Rattle.std.proofs.Common.{rules, ◌∙◌, ap, Err}
use Rattle.px_parts.proofs.Streaming.{come_falls}
use Rattle.px_parts.proofs.finding.find.Goals as goal

pub loop-come-smaller : goal.loop-come-smaller
loop-come-smaller c = come_falls c.loop-come.here c.in-Ok.come.1 c.args.terms.now c.loop-come.rest.now c.in-Ok.come.2.now c.in-Ok.come.0 (search rules) c.in-Ok.ensures.arrives

pub returns-in-Err-NotAMessage-clause-stuck : goal.returns-in-Err-NotAMessage-clause-stuck
returns-in-Err-NotAMessage-clause-stuck c none = c.step.ensures.stuck (c.in-Err-NotAMessage.is ∙ ap (λ f. Err f) c.in-Err-NotAMessage.field-0-is)
