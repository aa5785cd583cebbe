use Rattle.std.proofs.Common.{◌≡◌, ◌+◌, ◌*◌, false, map, drop}
use Rattle.px_real_declaring.specs.Trees.{specifier_tree, declaration_tree}
use Rattle.px_real_types.specs.Scopes.{texts}
use Rattle.px_real_scopes.specs.Entering.{in_turn, with_line, with_specifier, deeper_by}
use Rattle.px_real_scopes.specs.Steps.{Grows}
use Rattle.px_real_scopes.proofs.entering.+enter_specifier.Given as goal

abbrev pub decreases-define : goal.decreases-define
decreases-define l = 8 * l.depth

abbrev pub decreases-enter_record : goal.decreases-enter_record
decreases-enter_record l = 8 * l.depth + 1

abbrev pub decreases-enter_specifier : goal.decreases-enter_specifier
decreases-enter_specifier l = 8 * l.depth + 2

abbrev pub decreases-enter_specifiers : goal.decreases-enter_specifiers
decreases-enter_specifiers l = 8 * l.depth + 3

abbrev pub decreases-enter_line : goal.decreases-enter_line
decreases-enter_line l = 8 * l.depth + 4

abbrev pub decreases-enter_lines : goal.decreases-enter_lines
decreases-enter_lines l = 8 * l.depth + 5

abbrev pub decreases-define_by : goal.decreases-define_by
decreases-define_by l = 8 * l.depth + 6

-- with what is left it comes to the same
abbrev pub invariant-enter_specifiers-loop-specifier : goal.invariant-enter_specifiers-loop-specifier
invariant-enter_specifiers-loop-specifier l = record {
  comes : in_turn (with_specifier (deeper_by l.depth) l.alone) l.scopes (map (specifier_tree (texts l.on)) (drop l.specifier-index l.specifiers))
      ≡ in_turn (with_specifier (deeper_by l.depth) l.alone) l.initial.scopes (map (specifier_tree (texts l.on)) l.specifiers);
  grows : Grows l.initial.scopes l.scopes;
}

abbrev pub invariant-enter_lines-loop-line : goal.invariant-enter_lines-loop-line
invariant-enter_lines-loop-line l = record {
  comes : in_turn (with_line (with_specifier (deeper_by l.depth) false) l.members.cells) (l.scopes, l.members.members) (map (declaration_tree (texts l.on)) (drop l.line-index l.lines))
      ≡ in_turn (with_line (with_specifier (deeper_by l.depth) false) l.initial.members.cells) (l.initial.scopes, l.initial.members.members) (map (declaration_tree (texts l.on)) l.lines);
  grows : Grows l.initial.scopes l.scopes;
}
