-- What the code has, as plain data.
use Rattle.std.specs.Prelude.{ℕ, List, Bool, false, Option, Some, None, is_some}
use Rattle.std.specs.Str.{bytes_eq}
use Rattle.std.specs.Map.{lookup}
use Rattle.px_real_locals.specs.declared.names.AddressedNames.{AddressedNames}

abbrev pub holds : AddressedNames → List ℕ → Bool
holds a name = is_some (lookup (λ k. bytes_eq name k.now) a.table.entries)

-- whether it is the name that is taken
abbrev pub is_taken : Option (List ℕ) → List ℕ → Bool
is_taken (Some taken) name = bytes_eq name taken
is_taken None name = false
