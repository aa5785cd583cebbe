-- The worked declarations: what is held is read, and what is in scope computes.
use Rattle.std.proofs.Common.{refl}
use Rattle.px_real_expressions.specs.Reading.{closed_at, held_up_to}
use Rattle.px_real_statements.specs.PhraseReading.{phrase_at, part_at}
use Rattle.px_real_declarations.specs.Roles.{role_of, role}
use Rattle.px_real_declarations.specs.Reading.{group_behind, group_at, many_at, attributes_at, tag_at, braces_at, tagged_at, atomic_at, specifier_at, specifiers_at, qualifier_at, inner_at, core_at, behind_at, direct_at, pointer_at, declarator_of, declarator_at, value_at, declared_at, member_at, more_declared, declaration_by, parameter_at}
use Rattle.px_real_declarations.specs.HeldReading.{line_at, lines_from, separated_from, enumerator_at, other_at}
use Rattle.px_real_scopes.specs.Entering.{deeper_by}
use Rattle.px_real_scopes.specs.WorkedScopes.{Structs, Enumerations, Names, Heads, Blocks, Worked}

structs : Structs
unfolding closed_at held_up_to phrase_at part_at role_of role group_behind group_at many_at attributes_at tag_at braces_at tagged_at atomic_at specifier_at specifiers_at qualifier_at inner_at core_at behind_at direct_at pointer_at declarator_of declarator_at value_at declared_at member_at more_declared declaration_by parameter_at line_at lines_from separated_from enumerator_at other_at deeper_by
structs = record { defined = refl; with_typedef = refl; defined_later = refl; by_mention = refl; without_a_name = refl; unread = refl }

enumerations : Enumerations
unfolding closed_at held_up_to phrase_at part_at role_of role group_behind group_at many_at attributes_at value_at separated_from enumerator_at deeper_by
enumerations = record { counted = refl; not_beyond_int = refl }

names : Names
unfolding closed_at held_up_to phrase_at part_at role_of role group_behind group_at many_at attributes_at tag_at braces_at tagged_at atomic_at specifier_at specifiers_at qualifier_at inner_at core_at behind_at direct_at pointer_at declarator_of declarator_at parameter_at separated_from other_at deeper_by
names = record { objects = refl; a_prototype = refl; of_nothing = refl; of_anything = refl; gives_a_pointer = refl; a_pointer = refl; of_a_union = refl; of_an_array = refl }

heads : Heads
unfolding role_of role separated_from other_at deeper_by
heads = record { in_the_old_style = refl; of_no_parameters = refl; an_array = refl }

blocks : Blocks
unfolding role_of role deeper_by
blocks = record { another = refl; the_same = refl; behind_it = refl; hidden_one = refl }

pub worked : Worked
worked = record { structs = structs; enumerations = enumerations; names = names; heads = heads; blocks = blocks }
