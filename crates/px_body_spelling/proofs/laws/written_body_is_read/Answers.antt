use Rattle.px_body_spelling.proofs.BodyLaw.{body_round_trip, body_is_spelled}
use Rattle.px_body_spelling.proofs.laws.written_body_is_read.Goals as goal

pub returns : goal.returns
returns c = record {
  round_trip = λ b fits rest. (body_round_trip b fits).reads rest;
  spelled = body_is_spelled;
}
