-- What the files of a run say of functions.
use Rattle.std.specs.Prelude.{ℕ, ◌+◌, List, [], ◌∷◌, map, Bool, true, false, Option, Some, None, if◌then◌else◌}
use Rattle.std.specs.Str.{bytes_eq}
use Rattle.px_real_links.specs.declared.definition.Definition.{Definition}
use Rattle.px_real_links.specs.declared.definition.FileLinks.{FileLinks}

-- a function-shaped item: its name, whether it is static, and whether the grammar gives it a tree
pub record DefinitionTree : Type 0 where
  pub name : List ℕ
  pub is_static : Bool
  pub is_read : Bool

-- those of a file, in order, and the names that a declaration makes weak
pub record FileTree : Type 0 where
  pub definitions : List DefinitionTree
  pub weak : List (List ℕ)

abbrev pub definition_tree : Definition → DefinitionTree
definition_tree d = record { name = d.name; is_static = d.is_static; is_read = d.is_read }

abbrev pub file_tree : FileLinks → FileTree
file_tree f = record { definitions = map definition_tree f.definitions.items; weak = f.weak.items }

-- ---- by name

abbrev pub is_named : List (List ℕ) → List ℕ → Bool
is_named [] name = false
is_named (x ∷ xs) name = if bytes_eq x name then true else is_named xs name

abbrev pub has_name : List DefinitionTree → List ℕ → Bool
has_name [] name = false
has_name (d ∷ ds) name = if bytes_eq d.name name then true else has_name ds name

-- the number of the first, where the first of all has the number n
abbrev pub first_named : ℕ → List DefinitionTree → List ℕ → Option ℕ
first_named n [] name = None
first_named n (d ∷ ds) name = if bytes_eq d.name name then Some n else first_named (n + 1) ds name
