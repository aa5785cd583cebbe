-- What the getters of `clap` give, by its rows.
use Rattle.std.proofs.Common.{◌≡◌, ◌∙◌, ap, List, [], Option, codes, option_map, false}
use Rattle.std.specs.Prelude.{unwrap_or, is_some, not}
use Rattle.std.specs.Option.{option_map_or}
use Rattle.std.specs.Str.{bytes_eq}
use Rattle.clap.specs.Words.{first_value, rows_of, first_of}
use Rattle.clap.specs.Matches.{matched_of, raw_values}
use Rattle.clap.specs.declared.parser.matches.Found.{Found}
use Rattle.clap.proofs.WalkLemmas.{first_value-rows, raw_values-rows}
use Rattle.px_words.specs.declared.flag_name.FlagName.{FlagName}
use Rattle.px_words.specs.declared.option_name.NumberName.{NumberName}
use Rattle.px_words.specs.declared.option_name.OptionName.{OptionName}
use Rattle.px_words.specs.declared.option_name.OptionName.TheVariants.{Exec, Bits}
use Rattle.px_words.specs.OptionTable.{number_name, option_name, flag_name, default_of}
use Rattle.px_base.specs.Texts.{Text}
use Rattle.px_words.specs.ClapCommand.{number_or, number_found, exec_or_none, exec_found, bits_or_none, bits_given, flag_found, files_found, lacks}

pub first_is : (f : Found) (id name : Text) (t : Option Text) → t ≡ first_value f id → id ≡ name → t ≡ first_of name (rows_of f)
first_is f id name t is same = is ∙ first_value-rows f id ∙ ap (λ i. first_of i (rows_of f)) same

pub number_is : (f : Found) (o : NumberName) (id : Text) (t : Option Text) → t ≡ first_value f id → id ≡ number_name o → number_or (default_of o) t ≡ number_found o (rows_of f)
number_is f o id t is name = ap (number_or (default_of o)) (first_is f id (number_name o) t is name)

pub exec_is : (f : Found) (id : Text) (t : Option Text) → t ≡ first_value f id → id ≡ option_name Exec → exec_or_none t ≡ exec_found (rows_of f)
exec_is f id t is name = ap exec_or_none (first_is f id (option_name Exec) t is name)

pub bits_is : (f : Found) (id : Text) (t : Option Text) → t ≡ first_value f id → id ≡ option_name Bits → bits_or_none t ≡ bits_given (rows_of f)
bits_is f id t is name = ap bits_or_none (first_is f id (option_name Bits) t is name)

pub lacks_is : (f : Found) (o : OptionName) (id : Text) (t : Option Text) → t ≡ first_value f id → id ≡ option_name o → not (is_some t) ≡ lacks o (rows_of f)
lacks_is f o id t is name = ap (λ (v : Option Text). not (is_some v)) (first_is f id (option_name o) t is name)

pub flag_is : (f : Found) (g : FlagName) (id : Text) (t : Option Text) → t ≡ first_value f id → id ≡ flag_name g
    → option_map_or (λ text. bytes_eq text (codes "true")) t false ≡ flag_found g (rows_of f)
flag_is f g id t is name = ap (λ o. option_map_or (λ text. bytes_eq text (codes "true")) o false) (first_is f id (flag_name g) t is name)

pub files_are : (f : Found) (vs : Option (List Text)) → vs ≡ option_map raw_values (matched_of f (codes "file")) → unwrap_or vs [] ≡ files_found (rows_of f)
files_are f vs is = ap (λ o. unwrap_or o []) (is ∙ raw_values-rows f (codes "file"))
