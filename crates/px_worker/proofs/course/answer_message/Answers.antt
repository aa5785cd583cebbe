use Rattle.std.proofs.Common.{ap, refl, Err}
use Rattle.px_io.proofs.TellingLemmas.{Appends-nil}
use Rattle.px_worker.proofs.course.answer_message.Goals as goal

pub returns-in-Err-NoRequest-clause-speaks : goal.returns-in-Err-NoRequest-clause-speaks
returns-in-Err-NoRequest-clause-speaks g c = (
  refl,
  Appends-nil (g.K.Sink.told c.args.sink.now),
  c.in-Err-NoRequest.ensures.no_request (ap (λ e. Err e) c.in-Err-NoRequest.field-0-is),
)

pub returns-in-Err-OtherKinds-clause-speaks : goal.returns-in-Err-OtherKinds-clause-speaks
returns-in-Err-OtherKinds-clause-speaks g c = (
  refl,
  Appends-nil (g.K.Sink.told c.args.sink.now),
  c.in-Err-OtherKinds.ensures.others (ap (λ e. Err e) c.in-Err-OtherKinds.field-0-is),
)

pub returns-clause-speaks : goal.returns-clause-speaks
returns-clause-speaks g c = Appends-nil (g.K.Sink.told c.args.sink.now)
