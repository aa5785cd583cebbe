-- Names and types are numbered as they are seen.
use Rattle.std.specs.Prelude.{◌≡◌, ℕ, List}
use Rattle.std.specs.Str.{bytes_eq}
use Rattle.indexmap.specs.IndexSet.{insert_all}
use Rattle.px_syntax.specs.declared.type_name.TypeName.{TypeName}
use Rattle.px_bodies.specs.Types.{same_type}
use Rattle.px_bodies.specs.Environment.{Environment, environment_of}
use Rattle.px_typing.specs.declared.numbering.Numbering.{Numbering}
use Rattle.px_typing.specs.Sights.{number_in}

-- an environment with the numbers of these names and types
abbrev pub with_numbers : Environment → List (List ℕ) → List TypeName → Environment
with_numbers env names types = record env { type_number = number_in same_type types; proc_number = number_in bytes_eq names }

abbrev pub IsNumbered : Environment → Numbering → Type 0
IsNumbered env n = environment_of n.environment ≡ with_numbers env n.names n.types

-- these names and types are seen, and numbered
pub record Sees (old new : Numbering) (ns : List (List ℕ)) (ts : List TypeName) : Type 0 where
  pub names : new.names ≡ insert_all bytes_eq old.names ns
  pub types : new.types ≡ insert_all same_type old.types ts
  pub numbers : (env : Environment) → IsNumbered env old → IsNumbered env new
  pub signature : (environment_of new.environment).signature ≡ (environment_of old.environment).signature
