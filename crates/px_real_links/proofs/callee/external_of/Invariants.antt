use Rattle.std.proofs.Common.{◌≡◌, ◌++◌, map, drop}
use Rattle.px_real_links.specs.Files.{file_tree}
use Rattle.px_real_links.specs.Callees.{listed, externals, only_one}
use Rattle.px_real_links.proofs.callee.external_of.Given as goal

-- those found so far, and those of the files that are left, are all
abbrev pub invariant-loop-links : goal.invariant-loop-links
invariant-loop-links l = record {
  counted : l.file ≡ l.links-index;
  so_far : only_one (listed l.found ++ externals l.file (map file_tree (drop l.links-index l.files)) l.name) ≡ only_one (externals 0 (map file_tree l.files) l.name);
}
