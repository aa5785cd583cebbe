-- Where the search for a field has come.
use Rattle.std.specs.Prelude.{◌≡◌, ℕ, List, Option, Some}
use Rattle.px_syntax.specs.declared.type_name.TypeName.{TypeName}
use Rattle.px_bodies.specs.declared.fields.Search.{Search}
use Rattle.px_bodies.specs.declared.fields.Search.TheVariants.{Found, Behind}
use Rattle.px_bodies.specs.Environment.{field_from}
use Rattle.px_bodies.specs.Lent.{field_seen}

-- the search for a name finds its field, or goes on among the rest
abbrev pub Finds : Search → Option (ℕ × TypeName) → List ℕ → List (List ℕ × TypeName) → Type 0
Finds (Found field) found name rest = found ≡ Some (field_seen field)
Finds (Behind number) found name rest = found ≡ field_from number name rest
