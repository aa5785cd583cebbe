-- What a function's body sees of its program.
use Rattle.std.specs.Prelude.{ℕ, ◌+◌, List, [], ◌∷◌, map, flat_map, Option, Some, None, bytes_eq, cond, unwrap_or}
use Rattle.std.specs.Map.{lookup}
use Rattle.px_terms.specs.declared.types.TypeId.{TypeId}
use Rattle.px_terms.specs.declared.types.ValueType.{ValueType}
use Rattle.px_terms.specs.declared.types.ValueType.TheVariants as V
use Rattle.px_base.specs.declared.trace.ProcId.{ProcId}
use Rattle.px_syntax.specs.declared.type_name.Base.{Base}
use Rattle.px_syntax.specs.declared.type_name.Declarator.{Declarator}
use Rattle.px_syntax.specs.declared.type_name.TypeName.{TypeName}
use Rattle.px_syntax.specs.declared.item.ResultType.{ResultType}
use Rattle.px_syntax.specs.declared.item.ResultType.TheVariants.{Void, Value}
use Rattle.px_syntax.specs.declared.item.Parameter.{Parameter}
use Rattle.px_syntax.specs.declared.item.FieldDeclaration.{FieldDeclaration}
use Rattle.px_bodies.specs.Types.{pointee, same_type}

-- what a function's declaration says: no result where it is void
pub record Signature : Type 0 where
  pub result : Option TypeName
  pub parameters : List TypeName

pub record Environment : Type 0 where
  -- the fields of a struct that is defined, in order, by its tag
  pub fields : List ℕ → Option (List (List ℕ × TypeName))
  -- of a function's name
  pub signature : List ℕ → Option Signature
  -- the numbers of block types and of functions' names
  pub type_number : TypeName → ℕ
  pub proc_number : List ℕ → ℕ

-- ---- what declarations say

abbrev pub result_of : ResultType → Option TypeName
result_of Void = None
result_of (Value t) = Some t

abbrev pub signature_of : ResultType → List Parameter → Signature
signature_of result parameters = record { result = result_of result; parameters = map (λ p. p.value) parameters }

abbrev pub fields_of_base : Base → List Declarator → List (List ℕ × TypeName)
fields_of_base base declarators = map (λ f. (f.name, record { base = base; stars = f.stars })) declarators

abbrev pub fields_of_one : FieldDeclaration → List (List ℕ × TypeName)
fields_of_one d = fields_of_base d.base d.declarators

-- the fields of a struct, in order
abbrev pub fields_of : List FieldDeclaration → List (List ℕ × TypeName)
fields_of declarations = flat_map fields_of_one declarations

-- the first field of this name, counted from k, and its type
abbrev pub field_from : ℕ → List ℕ → List (List ℕ × TypeName) → Option (ℕ × TypeName)
field_from k name [] = None
field_from k name (f ∷ rest) = cond (bytes_eq f.0 name) (Some (k, f.1)) (field_from (k + 1) name rest)

-- ---- how an environment is built

-- nothing is defined or declared, and each number is 0
abbrev pub empty_environment : Environment
empty_environment = record { fields = λ tag. None; signature = λ name. None; type_number = λ t. 0; proc_number = λ name. 0 }

abbrev pub with_struct : Environment → List ℕ → List (List ℕ × TypeName) → Environment
with_struct e tag fields = record e { fields = λ other. cond (bytes_eq tag other) (Some fields) (e.fields other) }

abbrev pub with_signature : Environment → List ℕ → Signature → Environment
with_signature e name signature = record e { signature = λ other. cond (bytes_eq name other) (Some signature) (e.signature other) }

abbrev pub with_type_number : Environment → TypeName → ℕ → Environment
with_type_number e t number = record e { type_number = λ other. cond (same_type t other) number (e.type_number other) }

abbrev pub with_proc_number : Environment → List ℕ → ℕ → Environment
with_proc_number e name number = record e { proc_number = λ other. cond (bytes_eq name other) number (e.proc_number other) }

-- ---- what the code keeps: each list has a key once

pub record Tables : Type 0 where
  pub structs : List (List ℕ × List (List ℕ × TypeName))
  pub signatures : List (List ℕ × Signature)
  pub types : List (TypeName × ℕ)
  pub procs : List (List ℕ × ℕ)

abbrev pub environment_of : Tables → Environment
environment_of t = record {
  fields = λ tag. lookup (bytes_eq tag) t.structs;
  signature = λ name. lookup (bytes_eq name) t.signatures;
  type_number = λ of. unwrap_or (lookup (same_type of) t.types) 0;
  proc_number = λ name. unwrap_or (lookup (bytes_eq name) t.procs) 0;
}

-- ---- numbers in typed trees

abbrev pub type_id : Environment → TypeName → TypeId
type_id e t = record { 0 = e.type_number t }

abbrev pub proc_id : Environment → List ℕ → ProcId
proc_id e name = record { 0 = e.proc_number name }

abbrev pub pointing_type : Environment → Option TypeName → ValueType
pointing_type e None = V.Int
pointing_type e (Some t) = V.Pointer (type_id e t)

-- the type of the values that an int or a pointer of this type has
abbrev pub value_type : Environment → TypeName → ValueType
value_type e t = pointing_type e (pointee t)
