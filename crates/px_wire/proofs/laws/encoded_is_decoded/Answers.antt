use Rattle.std.proofs.Common.{refl}
use Rattle.px_wire.proofs.MessageRoundTrips.{spelled_is_read}
use Rattle.px_wire.proofs.laws.encoded_is_decoded.Goals as goal

pub returns : goal.returns
returns c = record {
  spelled = λ number m fits has. (refl, fits, has);
  read = spelled_is_read;
}
