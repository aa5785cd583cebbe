-- What holds of the lowered bodies of the program that files say, whatever the files.
use Rattle.std.specs.Prelude.{◌≡◌, ℕ, List, length, Some}
use Rattle.px_core.specs.BodyTree.{BodyTree}
use Rattle.px_core.specs.WellFormed.{IsWellFormedBody}
use Rattle.px_core.specs.Constants.{HasConstantsInRange}
use Rattle.px_syntax.specs.ParsedTree.{FileTree}
use Rattle.px_typing.specs.Programs.{program_of}
use Rattle.px_meaning.specs.CoreCalls.{CoreProgram}
use Rattle.px_meaning.specs.CoreTypes.{KeepsTypes}
use Rattle.px_meaning.specs.TypedProgram.{typed_program}
use Rattle.px_lower.specs.LoweredProgram.{lowered_program}
use Rattle.px_programs.specs.ListedBodies.{IsBodyListed}

-- the bodies of the program that files say
abbrev pub bodies_of_files : List FileTree → CoreProgram
bodies_of_files files = lowered_program (typed_program (program_of files))

-- each procedure's body is so
abbrev pub EachBody : (BodyTree → Type 0) → CoreProgram → Type 0
EachBody Q P = (f : ℕ) (b : BodyTree) → P.bodies f ≡ Some b → Q b

-- each number of a callee or a block type is that of one that is listed
abbrev pub HaveListedNumbers : List FileTree → Type 0
HaveListedNumbers files = EachBody (IsBodyListed (length (program_of files).names) (length (program_of files).types)) (bodies_of_files files)

abbrev pub BodiesHaveTheirNumbers : Type 0
BodiesHaveTheirNumbers = (files : List FileTree) → HaveListedNumbers files

-- each operand, stored value and argument is of the type that its command needs; the bodies are well-formed, their
-- constants are words of 32 bits, and their numbers are listed
pub record BodiesOfFilesKeep : Type 0 where
  pub types : (files : List FileTree) → KeepsTypes (bodies_of_files files)
  pub well_formed : (files : List FileTree) → EachBody IsWellFormedBody (bodies_of_files files)
  pub ranges : (files : List FileTree) → EachBody HasConstantsInRange (bodies_of_files files)
  pub listed : BodiesHaveTheirNumbers
