-- What the items of a program declare: the fields of structs, and what functions take and give.
use Rattle.std.specs.Prelude.{ℕ, Bool, true, not, ◌&&◌, List, [], ◌∷◌, length, map, filter_map, Option, None, Some, option_and_then, nat_lt}
use Rattle.std.specs.Option.{option_or}
use Rattle.std.specs.List.{list_any, list_all}
use Rattle.std.specs.Str.{bytes_eq}
use Rattle.px_base.specs.Bounds.{most_fields}
use Rattle.px_syntax.specs.declared.type_name.TypeName.{TypeName}
use Rattle.px_syntax.specs.declared.item.Parameter.{Parameter}
use Rattle.px_syntax.specs.declared.item.ResultType.{ResultType}
use Rattle.px_syntax.specs.ItemTree.{struct, declared, prototype, function}
use Rattle.px_syntax.specs.ParsedTree.{ParsedTree, parsed, out}
use Rattle.px_bodies.specs.Types.{when, is_value}
use Rattle.px_bodies.specs.Environment.{Signature, signature_of, fields_of, result_of}

-- names and their types, in order
abbrev pub Fields : Type 0
Fields = List (List ℕ × TypeName)

-- no name stands twice
abbrev pub are_different : List (List ℕ) → Bool
are_different [] = true
are_different (n ∷ ns) = not (list_any (bytes_eq n) ns) && are_different ns

-- what a field or a parameter declares: a name, which a parameter may lack, and a type
pub record Declared : Type 0 where
  pub name : Option (List ℕ)
  pub value : TypeName

abbrev pub declared_field : List ℕ × TypeName → Declared
declared_field f = record { name = Some f.0; value = f.1 }

abbrev pub declared_parameter : Parameter → Declared
declared_parameter p = record { name = p.name; value = p.value }

-- each is an int or a pointer, and no two have one name
abbrev pub are_typed : List Declared → Bool
are_typed ds = list_all (λ d. is_value d.value) ds && are_different (filter_map (λ d. d.name) ds)

-- a result is an int, a pointer or void
abbrev pub is_result : Option TypeName → Bool
is_result None = true
is_result (Some t) = is_value t

-- the typing rules of a struct, and of a prototype
abbrev pub are_typed_fields : Fields → Bool
are_typed_fields fs = are_typed (map declared_field fs)

abbrev pub is_typed_prototype : ResultType → List Parameter → Bool
is_typed_prototype result ps = is_result (result_of result) && are_typed (map declared_parameter ps)

-- what an item says of a name: the fields of a struct that it defines, the signature of a function that it
-- defines, or that of one that it only declares
abbrev pub fields_by : List ℕ → ParsedTree → Option Fields
fields_by tag (parsed (struct site name ds)) = when (bytes_eq tag name) (fields_of ds)
fields_by tag _ = None

abbrev pub defined_by : List ℕ → ParsedTree → Option Signature
defined_by name (parsed (function site result own ps body)) = when (bytes_eq name own) (signature_of result ps)
defined_by name _ = None

abbrev pub declared_by : List ℕ → ParsedTree → Option Signature
declared_by name (parsed (prototype site result own ps)) = when (bytes_eq name own) (signature_of result ps)
declared_by name _ = None

-- what the first item that says something says
abbrev pub first_of : {A B : Type 0} → (A → Option B) → List A → Option B
first_of says [] = None
first_of says (x ∷ xs) = option_or (says x) (first_of says xs)

-- a function's signature: that of its first definition, else of its first prototype
abbrev pub signature_in : List ParsedTree → List ℕ → Option Signature
signature_in items name = option_or (first_of (defined_by name) items) (first_of (declared_by name) items)

-- a struct's fields: those of its first definition, where this is kept
abbrev pub kept_fields : Fields → Option Fields
kept_fields fs = when (not (nat_lt most_fields (length fs)) && are_typed_fields fs) fs

abbrev pub fields_in : List ParsedTree → List ℕ → Option Fields
fields_in items tag = option_and_then kept_fields (first_of (fields_by tag) items)
