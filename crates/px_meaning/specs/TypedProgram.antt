-- A program as its kept procedures and the block types that they name.
use Rattle.std.specs.Prelude.{ℕ, List, Option, slice_get}
use Rattle.px_syntax.specs.ProgramTree.{ProcedureTree, ProgramTree}
use Rattle.px_meaning.specs.Values.{BlockType}

-- the block types by their numbers, and the procedure of each number, where one is kept
pub record TypedProgram : Type 0 where
  pub types : List BlockType
  pub procedures : ℕ → Option ProcedureTree

-- the kept procedures have the numbers of their places
abbrev pub typed_program : ProgramTree → TypedProgram
typed_program p = record { types = p.types; procedures = λ f. slice_get p.procedures f }
