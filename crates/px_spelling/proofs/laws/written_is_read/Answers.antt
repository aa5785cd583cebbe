use Rattle.px_spelling.proofs.TraceRoundTrips.{proc_id_round_trip, site_round_trip}
use Rattle.px_spelling.proofs.TypeRoundTrips.{value_type_round_trip, block_type_round_trip}
use Rattle.px_spelling.proofs.PolynomialRoundTrips.{polynomial_round_trip}
use Rattle.px_spelling.proofs.DerivationRoundTrips.{derivation_round_trip}
use Rattle.px_spelling.proofs.OperandRoundTrips.{operand_round_trip, operator_round_trip, comparison_round_trip}
use Rattle.px_spelling.proofs.laws.written_is_read.Goals as goal

pub returns : goal.returns
returns c = record {
  proc_ids = λ x fits rest. (proc_id_round_trip x fits).reads rest;
  sites = λ x fits rest. (site_round_trip x fits).reads rest;
  value_types = λ x fits rest. (value_type_round_trip x fits).reads rest;
  block_types = λ x fits rest. (block_type_round_trip x fits).reads rest;
  polynomials = λ x fits rest. (polynomial_round_trip x fits).reads rest;
  derivations = λ x fits rest. (derivation_round_trip x fits).reads rest;
  operands = λ x fits rest. (operand_round_trip x fits).reads rest;
  operators = λ x fits rest. (operator_round_trip x fits).reads rest;
  comparisons = λ x fits rest. (comparison_round_trip x fits).reads rest;
}
