use Rattle.std.proofs.Common.{◌∙◌, option_map}
use Rattle.clap.specs.Words.{found_of}
use Rattle.px_words.specs.declared.option_name.OptionName.TheVariants.{Kept}
use Rattle.px_words.specs.OptionTable.{option_name}
use Rattle.px_words.proofs.FoundLemmas.{first_is}
use Rattle.px_words.proofs.reading.kept_in.Goals as goal

pub returns : goal.returns
returns c = first_is (found_of c.args.matches.now) c.name.result.now (option_name Kept) (option_map (λ s. s.now) c.get_str.result) c.get_str.ensures c.name.ensures
