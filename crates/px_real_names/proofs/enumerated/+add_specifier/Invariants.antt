use Rattle.std.proofs.Common.{◌≡◌, ◌+◌, ◌*◌, Some, map, drop}
use Rattle.px_real_declaring.specs.Trees.{specifier_tree, declaration_tree}
use Rattle.px_real_types.specs.Scopes.{texts}
use Rattle.px_real_names.specs.Enumerated.{both, of_each, of_members, enumerated_by}
use Rattle.px_real_names.proofs.enumerated.+add_specifier.Given as goal

abbrev pub decreases-add_record : goal.decreases-add_record
decreases-add_record g l = 8 * l.depth

abbrev pub decreases-add_held : goal.decreases-add_held
decreases-add_held g l = 8 * l.depth + 1

abbrev pub decreases-add_specifier : goal.decreases-add_specifier
decreases-add_specifier g l = 8 * l.depth + 2

abbrev pub decreases-add_specifiers : goal.decreases-add_specifiers
decreases-add_specifiers g l = 8 * l.depth + 3

abbrev pub decreases-add_member : goal.decreases-add_member
decreases-add_member g l = 8 * l.depth + 4

abbrev pub decreases-add_members : goal.decreases-add_members
decreases-add_members g l = 8 * l.depth + 5

-- the names so far, and those of what is left, are all
abbrev pub invariant-add_specifiers-loop-specifier : goal.invariant-add_specifiers-loop-specifier
invariant-add_specifiers-loop-specifier g l =
    both (Some l.names.items) (of_each (enumerated_by (g.T.TypeNames.named l.types) l.depth) (map (specifier_tree (texts l.on)) (drop l.specifier-index l.specifiers)))
    ≡ both (Some l.initial.names.items) (of_each (enumerated_by (g.T.TypeNames.named l.types) l.depth) (map (specifier_tree (texts l.on)) l.specifiers))

abbrev pub invariant-add_members-loop-member : goal.invariant-add_members-loop-member
invariant-add_members-loop-member g l =
    both (Some l.names.items) (of_members (enumerated_by (g.T.TypeNames.named l.types) l.depth) (map (declaration_tree (texts l.on)) (drop l.member-index l.members)))
    ≡ both (Some l.initial.names.items) (of_members (enumerated_by (g.T.TypeNames.named l.types) l.depth) (map (declaration_tree (texts l.on)) l.members))
