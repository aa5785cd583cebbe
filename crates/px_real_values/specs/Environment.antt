-- What an expression's place sees of the program.
use Rattle.std.specs.Prelude.{ℕ, List, map, Bool, Option, Some, None}
use Rattle.px_base.specs.declared.trace.ProcId.{ProcId}
use Rattle.px_terms.specs.declared.types.TypeId.{TypeId}
use Rattle.px_terms.specs.declared.types.ValueType.{ValueType}
use Rattle.px_terms.specs.declared.types.ValueType.TheVariants as V
use Rattle.px_real_expressions.specs.Lexemes.{Lexeme}
use Rattle.px_real_declarations.specs.Grammar.{Types}
use Rattle.px_real_types.specs.declared.shape.ProfileType.{ProfileType}
use Rattle.px_real_types.specs.Scopes.{Meanings}
use Rattle.px_real_types.specs.declared.known.Known.{Known}
use Rattle.px_real_types.specs.declared.known.Member.{Member}
use Rattle.px_real_values.specs.declared.environment.Library.{Library}
use Rattle.px_real_types.specs.Types.{pointee}
use Rattle.px_real_values.specs.Spelled.{Spelled, spelled_by, untabled}

-- a function: its parameters in order, of which those that aren't of the profile are erased, whether it takes more arguments, which are
-- erased too, and the type of its result, if that is of the profile
pub record Signature : Type 0 where
  pub proc : ProcId
  pub parameters : List (Option ProfileType)
  pub takes_more : Bool
  pub result : Option ProfileType

-- what a call of a name goes to: a function, one of the library where no file of the run defines it, or nothing of the profile
pub data Callee : Type 0 where
  function : Signature → Callee
  library : Library → Callee
  no_function : Callee

-- what a name means
pub data Meaning : Type 0 where
  -- a local of the profile
  local : ℕ → ProfileType → Meaning
  -- with its value, where that is written as a constant or counted from one
  enumerator : Option ℕ → Meaning
  -- any other name that is declared: what is known of its type, and the number of its type's word
  other : Callee → Known → ℕ → Meaning
  undeclared : Meaning

pub record Environment : Type 0 where
  pub meaning : List ℕ → Meaning
  -- the members of a struct or union, by its number
  pub member : ℕ → List ℕ → Option Member
  -- whether a struct is defined
  pub is_defined : ℕ → Bool
  -- what the declarations in scope say of types, and which words are names of types
  pub scope : Meanings
  pub types : Types
  -- the numbers of block types and of words
  pub block_number : ProfileType → ℕ
  pub word_number : List ℕ → ℕ

-- the type that held tokens spell
abbrev pub spelled : Environment → List Lexeme → Spelled
spelled env held = spelled_by env.scope env.types (map untabled held)

abbrev pub type_id : Environment → ProfileType → TypeId
type_id env t = record { 0 = env.block_number t }

abbrev pub pointing_type : Environment → Option ProfileType → ValueType
pointing_type env None = V.Int
pointing_type env (Some t) = V.Pointer (type_id env t)

-- the type of the values that an int or a pointer of this type has
abbrev pub value_type : Environment → ProfileType → ValueType
value_type env t = pointing_type env (pointee t)
