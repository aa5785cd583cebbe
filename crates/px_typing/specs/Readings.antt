-- What is known of a program while its items are read.
use Rattle.std.specs.Prelude.{◌≡◌, ℕ, Bool, List, Option, None, Some, is_some, if◌then◌else◌}
use Rattle.std.specs.List.{list_any}
use Rattle.std.specs.Str.{bytes_eq}
use Rattle.px_syntax.specs.declared.type_name.TypeName.{TypeName}
use Rattle.px_syntax.specs.ParsedTree.{ParsedTree}
use Rattle.std.specs.Option.{option_or}
use Rattle.px_bodies.specs.Environment.{Environment, Signature, environment_of, with_struct, with_signature}
use Rattle.px_typing.specs.declared.marking.Reading.{Reading}
use Rattle.px_typing.specs.Declarations.{Fields, first_of, fields_by, defined_by, declared_by, fields_in, kept_fields}

-- a struct's definition is taken in: the first counts, where it is kept
abbrev pub with_fields : Environment → List ℕ → Option Fields → Environment
with_fields env tag None = env
with_fields env tag (Some fs) = with_struct env tag fs

abbrev pub with_definition : Bool → Environment → List ℕ → Fields → Environment
with_definition duplicate env tag fs = if duplicate then env else with_fields env tag (kept_fields fs)

-- a signature is taken in: the first counts
abbrev pub with_first : Environment → List ℕ → Signature → Environment
with_first env name signature = if is_some (env.signature name) then env else with_signature env name signature

-- what these items define is in an environment, and the prototypes of these others
pub record Holds (defined prototypes : List ParsedTree) (env : Environment) : Type 0 where
  pub fields : (tag : List ℕ) → env.fields tag ≡ fields_in defined tag
  pub signatures : (name : List ℕ) → env.signature name ≡ option_or (first_of (defined_by name) defined) (first_of (declared_by name) prototypes)
  pub types : (t : TypeName) → env.type_number t ≡ 0
  pub names : (name : List ℕ) → env.proc_number name ≡ 0

-- and the structs that they define are known
pub record Knows (defined prototypes : List ParsedTree) (r : Reading) : Type 0 where
  pub structs : (tag : List ℕ) → list_any (bytes_eq tag) r.structs ≡ is_some (first_of (fields_by tag) defined)
  pub holds : Holds defined prototypes (environment_of r.environment)
