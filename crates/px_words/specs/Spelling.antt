-- How options, flags and files are written.
use Rattle.std.specs.Prelude.{◌≡◌, ◌≢◌, ◌↔◌, List, [], ◌∷◌, ◌++◌, map, Some, codes, ⊤}
use Rattle.px_words.specs.declared.flag_name.FlagName.{FlagName}
use Rattle.px_words.specs.declared.option_name.OptionName.{OptionName}
use Rattle.px_words.specs.OptionTable.{option_name, flag_name}
use Rattle.px_base.specs.Texts.{Text}
use Rattle.px_words.specs.Arguments.{Argument, option, flag, file, arguments_of}

-- the word names a file or a value: no word that is longer than `-` and begins with it
abbrev pub IsPlain : Text → Type 0
IsPlain [] = ⊤
IsPlain (b ∷ []) = ⊤
IsPlain (b ∷ c ∷ bs) = b ≢ 45

abbrev pub long_name : OptionName → Text
long_name o = codes "--" ++ option_name o

-- an option has its value in the next word or after `=`, a flag and a file are each a word, and all words after `--` are files
pub data IsWritten : List Argument → List Text → Type 0 where
  nothing : IsWritten [] []
  apart : (o : OptionName) (value : Text) (rest : List Argument) (words : List Text) → IsPlain value → IsWritten rest words
      → IsWritten (option o value ∷ rest) (long_name o ∷ value ∷ words)
  attached : (o : OptionName) (value : Text) (rest : List Argument) (words : List Text) → IsWritten rest words
      → IsWritten (option o value ∷ rest) ((long_name o ++ codes "=" ++ value) ∷ words)
  alone : (f : FlagName) (rest : List Argument) (words : List Text) → IsWritten rest words → IsWritten (flag f ∷ rest) ((codes "--" ++ flag_name f) ∷ words)
  plain : (word : Text) (rest : List Argument) (words : List Text) → IsPlain word → IsWritten rest words → IsWritten (file word ∷ rest) (word ∷ words)
  ended : (words : List Text) → IsWritten (map file words) (codes "--" ∷ words)

-- words are read as these arguments exactly where the arguments are so written
abbrev pub ReadsWritten : Type 0
ReadsWritten = (arguments : List Argument) (words : List Text) → IsWritten arguments words ↔ (arguments_of words ≡ Some arguments)
