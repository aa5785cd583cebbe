-- What is lent, as plain data.
use Rattle.std.specs.Prelude.{ℕ, List, Option, Some, None}
use Rattle.std.specs.Borrow.{Bor}
use Rattle.px_syntax.specs.declared.type_name.Base.{Base}
use Rattle.px_syntax.specs.declared.type_name.Base.TheVariants.{Int, Struct}
use Rattle.px_syntax.specs.declared.type_name.TypeName.{TypeName}
use Rattle.px_syntax.specs.declared.item.FieldDeclaration.{FieldDeclaration}
use Rattle.px_bodies.specs.declared.types.CType.{CType}
use Rattle.px_bodies.specs.declared.environment.Prototype.{Prototype}
use Rattle.px_bodies.specs.declared.fields.Field.{Field}
use Rattle.px_bodies.specs.Environment.{Signature, signature_of, fields_of}

abbrev pub base_of : Option (Bor (List ℕ)) → Base
base_of None = Int
base_of (Some tag) = Struct tag.now

abbrev pub type_of : CType → TypeName
type_of t = record { base = base_of t.tag; stars = t.stars }

abbrev pub lent_struct : Bor (List ℕ) × Bor (List FieldDeclaration) → List ℕ × List (List ℕ × TypeName)
lent_struct e = (e.0.now, fields_of e.1.now)

abbrev pub lent_signature : Bor (List ℕ) × Prototype → List ℕ × Signature
lent_signature e = (e.0.now, signature_of e.1.result.now e.1.parameters.now)

abbrev pub lent_type : CType × ℕ → TypeName × ℕ
lent_type e = (type_of e.0, e.1)

abbrev pub lent_name : Bor (List ℕ) × ℕ → List ℕ × ℕ
lent_name e = (e.0.now, e.1)

abbrev pub prototype_seen : Prototype → Signature
prototype_seen p = signature_of p.result.now p.parameters.now

abbrev pub field_seen : Field → ℕ × TypeName
field_seen f = (f.number, type_of f.value)
