use Rattle.std.proofs.Common.{sym, ◌∙◌}
use Rattle.px_wire.proofs.MessageRoundTrips.{one_message, one_told}
use Rattle.px_wire.proofs.laws.one_spelling.Goals as goal

pub returns : goal.returns
returns c = record {
  one_list = λ m bytes others p q. p.0 ∙ sym q.0;
  one_message = one_message;
  one_list_in = λ number m bytes others p q. p.0 ∙ sym q.0;
  one_told = one_told;
}
