-- What commands take are read again as they were written.
use Rattle.px_core.specs.declared.command.Operand.TheVariants as A
use Rattle.px_core.specs.declared.command.Operator.TheVariants as O
use Rattle.px_core.specs.declared.command.Comparison.TheVariants as T
use Rattle.px_spelling.specs.Operands.{operand_bytes, IsOperand, operand_at, operand_with, operator_bytes, IsOperator, operator_at, operator_with, comparison_bytes, IsComparison, comparison_at, comparison_with}
use Rattle.px_spelling.proofs.RoundTrip.{RoundTrip, done_reads, ◌⊛◌, tagged, u32_round_trip, i32_round_trip}

pub operand_round_trip : RoundTrip operand_bytes IsOperand operand_at
unfolding operand_at operand_with
operand_round_trip (A.Slot a) fits = tagged 0 operand_with (done_reads A.Slot ⊛ u32_round_trip a fits)
operand_round_trip (A.Word a) fits = tagged 1 operand_with (done_reads A.Word ⊛ i32_round_trip a fits)
operand_round_trip A.Null fits = tagged 2 operand_with (done_reads A.Null)

pub operator_round_trip : RoundTrip operator_bytes IsOperator operator_at
unfolding operator_at operator_with
operator_round_trip O.Copy fits = tagged 0 operator_with (done_reads O.Copy)
operator_round_trip O.Neg fits = tagged 1 operator_with (done_reads O.Neg)
operator_round_trip O.Add fits = tagged 2 operator_with (done_reads O.Add)
operator_round_trip O.Sub fits = tagged 3 operator_with (done_reads O.Sub)
operator_round_trip O.Mul fits = tagged 4 operator_with (done_reads O.Mul)

pub comparison_round_trip : RoundTrip comparison_bytes IsComparison comparison_at
unfolding comparison_at comparison_with
comparison_round_trip T.Equal fits = tagged 0 comparison_with (done_reads T.Equal)
comparison_round_trip T.Unequal fits = tagged 1 comparison_with (done_reads T.Unequal)
comparison_round_trip T.Less fits = tagged 2 comparison_with (done_reads T.Less)
comparison_round_trip T.AtMost fits = tagged 3 comparison_with (done_reads T.AtMost)
comparison_round_trip T.SamePlace fits = tagged 4 comparison_with (done_reads T.SamePlace)
comparison_round_trip T.OtherPlace fits = tagged 5 comparison_with (done_reads T.OtherPlace)
