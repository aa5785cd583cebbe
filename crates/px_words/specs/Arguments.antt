-- The options, flags and files that words name.
use Rattle.std.specs.Prelude.{ℕ, List, [], ◌∷◌, ◌++◌, map, Bool, ◌==◌, if◌then◌else◌, Option, Some, None, option_map, option_and_then, find, codes}
use Rattle.std.specs.List.{list_any, before_first, after_first}
use Rattle.std.specs.Str.{bytes_eq}
use Rattle.px_base.specs.Texts.{Text}
use Rattle.px_words.specs.declared.flag_name.FlagName.{FlagName}
use Rattle.px_words.specs.declared.option_name.OptionName.{OptionName}
use Rattle.px_words.specs.OptionTable.{all_options, all_flags, option_name, flag_name}

-- an option with its value, a flag, which has none, or a file
pub data Argument : Type 0 where
  option : OptionName → Text → Argument
  flag : FlagName → Argument
  file : Text → Argument

-- what a word is on its own: an option that wants a value, an option with its value, a flag, a file or value, or none of these
pub data Word : Type 0 where
  named : OptionName → Word
  given : OptionName → Text → Word
  raised : FlagName → Word
  plain : Text → Word
  unknown : Word

-- `-`
abbrev pub is_dash : ℕ → Bool
is_dash b = b == 45

-- `=`
abbrev pub is_equals : ℕ → Bool
is_equals b = b == 61

abbrev pub is_double_dash : Text → Bool
is_double_dash word = bytes_eq word (codes "--")

-- what a name may be of: an option that wants a value, or a flag
pub data Called : Type 0 where
  an_option : OptionName → Called
  a_flag : FlagName → Called

abbrev pub all_called : List Called
all_called = map an_option all_options ++ map a_flag all_flags

abbrev pub name_of : Called → Text
name_of (an_option o) = option_name o
name_of (a_flag f) = flag_name f

-- the option or flag of this name
abbrev pub called : Text → Option Called
called name = find (λ c. bytes_eq (name_of c) name) all_called

-- `NAME` or `NAME=VALUE`, of which the name is this one's; a flag has no value
abbrev pub option_word : Option Called → Text → Word
option_word None text = unknown
option_word (Some (an_option o)) text = if list_any is_equals text then given o (after_first is_equals text) else named o
option_word (Some (a_flag f)) text = if list_any is_equals text then unknown else raised f

-- the word after its first two bytes, where these are `-` and another
abbrev pub dashed_word : ℕ → Text → Word
dashed_word b text = if is_dash b then option_word (called (before_first is_equals text)) text else unknown

-- only a word that is longer than `-` and begins with it is no plain word
abbrev pub word_of : Text → Word
word_of [] = plain []
word_of (b ∷ []) = plain (b ∷ [])
word_of (b ∷ c ∷ bs) = if is_dash b then dashed_word c bs else plain (b ∷ c ∷ bs)

-- an option that wants a value takes the plain word after it, which would else be a file
abbrev pub with_value : OptionName → List Argument → Option (List Argument)
with_value o (file value ∷ arguments) = Some (option o value ∷ arguments)
with_value o arguments = None

abbrev pub with_word : Word → List Argument → Option (List Argument)
with_word (named o) arguments = with_value o arguments
with_word (given o value) arguments = Some (option o value ∷ arguments)
with_word (raised f) arguments = Some (flag f ∷ arguments)
with_word (plain text) arguments = Some (file text ∷ arguments)
with_word unknown arguments = None

-- the arguments of words of which none is `--`
abbrev pub arguments_before : List Text → Option (List Argument)
arguments_before [] = Some []
arguments_before (word ∷ words) = option_and_then (with_word (word_of word)) (arguments_before words)

-- what stands after `--` is files
abbrev pub arguments_of : List Text → Option (List Argument)
arguments_of words = option_map (λ arguments. arguments ++ map file (after_first is_double_dash words)) (arguments_before (before_first is_double_dash words))
