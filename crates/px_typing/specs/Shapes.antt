-- The typing rules of structs and prototypes, declaration by declaration.
use Rattle.std.specs.Prelude.{ℕ, Bool, true, not, ◌&&◌, List, [], ◌∷◌, ◌++◌, Option, None, Some}
use Rattle.std.specs.List.{list_any}
use Rattle.std.specs.Str.{bytes_eq}
use Rattle.px_bodies.specs.Types.{is_value}
use Rattle.px_typing.specs.Declarations.{Declared}

-- a name that isn't among others, or none
abbrev pub is_new : List (List ℕ) → Option (List ℕ) → Bool
is_new names None = true
is_new names (Some name) = not (list_any (bytes_eq name) names)

abbrev pub with_name : List (List ℕ) → Option (List ℕ) → List (List ℕ)
with_name names None = names
with_name names (Some name) = names ++ name ∷ []

-- each is a value, and no name stands twice, nor among these
abbrev pub is_typed_after : List (List ℕ) → Declared → Bool
is_typed_after names d = is_value d.value && is_new names d.name

abbrev pub are_typed_after : List (List ℕ) → List Declared → Bool
are_typed_after names [] = true
are_typed_after names (d ∷ ds) = is_typed_after names d && are_typed_after (with_name names d.name) ds

abbrev pub names_after : List (List ℕ) → List Declared → List (List ℕ)
names_after names [] = names
names_after names (d ∷ ds) = names_after (with_name names d.name) ds
