use Rattle.std.proofs.Common.{◌≡◌, map, drop}
use Rattle.px_real_links.specs.Files.{definition_tree, first_named}
use Rattle.px_real_links.proofs.definition.first_named.Given as goal

abbrev pub invariant-loop-definition : goal.invariant-loop-definition
invariant-loop-definition l = record {
  counted : l.number ≡ l.definition-index;
  so_far : first_named l.number (map definition_tree (drop l.definition-index l.definitions)) l.name ≡ first_named 0 (map definition_tree l.definitions) l.name;
}
