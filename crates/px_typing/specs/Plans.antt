-- What is known of a program before its procedures are made.
use Rattle.std.specs.Prelude.{◌≡◌, ℕ, List, map, filter_map}
use Rattle.px_syntax.specs.declared.type_name.TypeName.{TypeName}
use Rattle.px_syntax.specs.ParsedTree.{FileTree}
use Rattle.px_syntax.specs.ProgramTree.{ProcedureTree}
use Rattle.px_bodies.specs.Environment.{Environment}
use Rattle.px_typing.specs.declared.typing.Plan.{Plan}
use Rattle.px_typing.specs.Keeping.{Judged, kept_trees}
use Rattle.px_typing.specs.Declarations.{signature_in}
use Rattle.px_typing.specs.Programs.{environment_in, judged_in, names_of, blocks_of, block_type, left_of, procedure_of}
use Rattle.px_typing.specs.Apart.{items_in, is_kept}

-- all that a program is, but for its procedures, and which items are kept
pub record IsPlanWith (env : Environment) (js : List Judged) (ts : List TypeName) (ns : List (List ℕ)) (fs : List FileTree) (p : Plan) : Type 0 where
  pub names : p.names ≡ ns
  pub types : p.types.items ≡ ts
  pub blocks : p.blocks ≡ map (block_type env) ts
  pub left : p.left ≡ filter_map (left_of env) js
  pub files : p.files ≡ map (λ f. f.name) fs
  pub kept : p.kept.items ≡ map is_kept js

-- the items of files, each with its word, and the names and block types that they number
abbrev pub judged_of_files : List FileTree → List Judged
judged_of_files files = judged_in (items_in files)

abbrev pub names_of_files : List FileTree → List (List ℕ)
names_of_files files = names_of (judged_of_files files)

abbrev pub types_of_files : List FileTree → List TypeName
types_of_files files = blocks_of (signature_in (items_in files)) (judged_of_files files)

-- what bodies see of the items of files, with all numbers
abbrev pub environment_of_files : List FileTree → Environment
environment_of_files files = environment_in (items_in files) (types_of_files files) (names_of_files files)

abbrev pub IsPlanOf : List FileTree → Plan → Type 0
IsPlanOf files = IsPlanWith (environment_of_files files) (judged_of_files files) (types_of_files files) (names_of_files files) files

-- the procedures of the program of files
abbrev pub procedures_of : List FileTree → List ProcedureTree
procedures_of files = filter_map (procedure_of (environment_of_files files)) (kept_trees (judged_of_files files))
