-- The worked expressions, read.
use Rattle.std.proofs.Common.{drop, refl}
use Rattle.px_real_expressions.specs.declared.terminal.Terminal.TheVariants as T
use Rattle.px_real_expressions.specs.Reading.{closed_at, held_up_to, type_at, braces_at, after_strings, typed_front, more_items, arguments_at, opened_at, form_at, primary_of, index_at, suffixes_at, postfix_of, cast_at, typed_at, prefixed_at, measured_at, measure_at, label_at, operand_of, more_at, chain_at, levels_at, choice_at, conditional_of, assigned_at, assignment_with, readers, expression_at}
use Rattle.px_real_reading.specs.WorkedExpressions.{assignment, assignment_tree, two_groups, cast_tree, call_tree, size, size_tree, literal_size, literal_size_tree, chosen_place, Worked}
use Rattle.px_real_reading.proofs.Deeper.{whole_is, never}

pub worked : Worked
unfolding closed_at held_up_to type_at braces_at after_strings typed_front more_items arguments_at opened_at form_at primary_of index_at suffixes_at postfix_of cast_at typed_at prefixed_at measured_at measure_at label_at operand_of more_at chain_at levels_at choice_at conditional_of assigned_at assignment_with readers expression_at
worked = record {
  assigned = whole_is 1 assignment assignment_tree refl;
  typed = whole_is 2 (two_groups T.TypeName) cast_tree refl;
  called = whole_is 1 (two_groups T.Name) call_tree refl;
  sized = whole_is 0 size size_tree refl;
  literal_sized = whole_is 1 literal_size literal_size_tree refl;
  no_place = λ d e g. never 1 d chosen_place (drop 5 chosen_place) e refl g;
}
