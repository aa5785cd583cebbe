-- The worked declarations.
use Rattle.std.proofs.Common.{refl}
use Rattle.px_real_expressions.specs.Reading.{closed_at, held_up_to}
use Rattle.px_real_declarations.specs.Roles.{role_of, role}
use Rattle.px_real_statements.specs.PhraseReading.{part_at}
use Rattle.px_real_declarations.specs.Reading.{group_behind, group_at, many_at, attributes_at, tag_at, braces_at, tagged_at, atomic_at, specifier_at, specifiers_at, qualifier_at, inner_at, core_at, behind_at, direct_at, pointer_at, declarator_of, declarator_at, value_at, declared_at, more_declared, declaration_by, parameter_at}
use Rattle.px_real_declarations.specs.WorkedDeclarations.{one_type, twice, twice_tree, with_choice, with_choice_tree, in_parentheses, takes_type, has_name, Worked}
use Rattle.px_real_declarations.proofs.DeclarationExact.{declared_exact, declaration_exact}
use Rattle.px_real_declarations.proofs.ParameterExact.{parameter_exact}
use Rattle.px_real_declarations.proofs.OneReading.{whole_is}

pub worked : Worked
unfolding closed_at held_up_to role_of role part_at group_behind group_at many_at attributes_at tag_at braces_at tagged_at atomic_at specifier_at specifiers_at qualifier_at inner_at core_at behind_at direct_at pointer_at declarator_of declarator_at value_at declared_at more_declared declaration_by parameter_at
worked = record {
  second_is_declared = whole_is (declaration_exact one_type (declared_exact one_type 1)) twice twice_tree refl;
  comma_in_choice = whole_is (declaration_exact one_type (declared_exact one_type 1)) with_choice with_choice_tree refl;
  parameter_of_a_type = whole_is (parameter_exact one_type 2) (in_parentheses 84) takes_type refl;
  parameter_with_name = whole_is (parameter_exact one_type 2) (in_parentheses 120) has_name refl;
}
