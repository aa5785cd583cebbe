-- The bytes of a name, in the two ways that it keeps them.
use Rattle.std.specs.Prelude.{ℕ, List, take}
use Rattle.px_syntax.specs.declared.name.Bytes.{Bytes}
use Rattle.px_syntax.specs.declared.name.Bytes.TheVariants.{Short, Long}

abbrev pub name_bytes : Bytes → List ℕ
name_bytes (Short length bytes) = take length bytes
name_bytes (Long bytes) = bytes.value.items
