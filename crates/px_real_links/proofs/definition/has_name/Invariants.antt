use Rattle.std.proofs.Common.{◌≡◌, map, drop}
use Rattle.px_real_links.specs.Files.{definition_tree, has_name}
use Rattle.px_real_links.proofs.definition.has_name.Given as goal

abbrev pub invariant-loop-definition : goal.invariant-loop-definition
invariant-loop-definition l = has_name (map definition_tree (drop l.definition-index l.definitions)) l.name ≡ has_name (map definition_tree l.definitions) l.name
