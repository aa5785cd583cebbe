-- What a source is read as is there, and determined.
use Rattle.std.specs.Prelude.{◌≡◌, ◌⊎◌, ℕ, List}
use Rattle.px_syntax.specs.ParsedTree.{FileTree}
use Rattle.px_reading.specs.declared.reading.SourceFault.{SourceFault}
use Rattle.px_reading.specs.Sources.{IsFileOf, HasFault}

pub record OneReading : Type 0 where
  pub one_file : (number : ℕ) (name source : List ℕ) (f g : FileTree) → IsFileOf number name source f → IsFileOf number name source g → f ≡ g
  pub one_fault : (number : ℕ) (source : List ℕ) (a b : SourceFault) → HasFault number source a → HasFault number source b → a ≡ b
  pub not_both : (number : ℕ) (name source : List ℕ) (f : FileTree) (a : SourceFault) → IsFileOf number name source f → ¬ HasFault number source a

-- a source is read as a file, or it has a fault
abbrev pub SomeReading : Type 0
SomeReading = (number : ℕ) (name source : List ℕ) → ((file : FileTree) × IsFileOf number name source file) ⊎ ((fault : SourceFault) × HasFault number source fault)
