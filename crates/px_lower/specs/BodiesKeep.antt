-- What lowered bodies keep.
use Rattle.std.specs.Prelude.{◌≡◌, ℕ, Some}
use Rattle.px_core.specs.BodyTree.{BodyTree}
use Rattle.px_core.specs.WellFormed.{IsWellFormedBody}
use Rattle.px_core.specs.Constants.{HasConstantsInRange}
use Rattle.px_meaning.specs.CoreTypes.{KeepsTypes, IsTypedBody}
use Rattle.px_meaning.specs.TypedProgram.{TypedProgram}
use Rattle.px_meaning.specs.TreeTypes.{KeepsTyping}
use Rattle.px_lower.specs.LoweredProgram.{lowered_program}

-- Of a program that keeps the typing rules: each operand, stored value and argument is of the type that its
-- command needs, the bodies are well-formed, and their constants are words of 32 bits.
pub record BodiesKeep : Type 0 where
  pub types : (P : TypedProgram) → KeepsTyping P → KeepsTypes (lowered_program P)
  pub well_formed : (P : TypedProgram) → KeepsTyping P → (f : ℕ) (b : BodyTree) → (lowered_program P).bodies f ≡ Some b → IsWellFormedBody b
  pub ranges : (P : TypedProgram) → KeepsTyping P → (f : ℕ) (b : BodyTree) → (lowered_program P).bodies f ≡ Some b → HasConstantsInRange b

-- the same of one body of a program
abbrev pub IsTypedAndWellFormed : TypedProgram → BodyTree → Type 0
IsTypedAndWellFormed P b = IsTypedBody (lowered_program P) b × IsWellFormedBody b
