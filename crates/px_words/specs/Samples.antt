-- What the words after `sample` mean.
use Rattle.std.specs.Prelude.{ℕ, List, [], ◌∷◌, length, Bool, ◌&&◌, ◌^◌, nat_lt, if◌then◌else◌, Option, Some, None}
use Rattle.std.specs.Char.{is_ascii_digit}
use Rattle.std.specs.List.{list_all}
use Rattle.std.specs.Str.Parse.{digits_value}
use Rattle.px_words.specs.declared.sample.Sample.{Sample}
use Rattle.px_base.specs.Texts.{Text}
use Rattle.px_words.specs.Meaning.{is_within, number_written, ◌>>=◌}

-- where the draws start, and how many procedures there are to be
pub record SampleAsked : Type 0 where
  pub start : ℕ
  pub count : ℕ

-- one to twenty decimal digits, whose number is below 2^64
abbrev pub is_start : Text → Bool
is_start text = (is_within 1 20 (length text) && list_all is_ascii_digit text) && nat_lt (digits_value 10 text) (2 ^ 64)

abbrev pub start_written : Text → Option ℕ
start_written text = if is_start text then Some (digits_value 10 text) else None

-- from 1 to 1,000, in one to six digits
abbrev pub count_written : Text → Option ℕ
count_written text = number_written text >>= λ n. if is_within 1 1000 n then Some n else None

-- what the words ask for, which are two numbers, or none where they aren't that
abbrev pub sample_asked : List Text → Option SampleAsked
sample_asked (start ∷ count ∷ []) = start_written start >>= λ s. count_written count >>= λ n. Some (record { start = s; count = n })
sample_asked _ = None

-- the same of what was read
abbrev pub view_of : Sample → SampleAsked
view_of s = record { start = s.start; count = s.count }
