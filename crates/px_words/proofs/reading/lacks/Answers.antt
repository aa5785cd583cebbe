use Rattle.std.proofs.Common.{◌∙◌, sym, ap, option_map, Some, None}
use Rattle.clap.specs.Words.{found_of}
use Rattle.px_words.proofs.FoundLemmas.{lacks_is}
use Rattle.px_words.proofs.reading.lacks.Goals as goal

pub returns-in-Some : goal.returns-in-Some
returns-in-Some c = lacks_is (found_of c.args.matches.now) c.args.option c.name.result.now (Some c.in-Some.field-0.now) (ap (option_map (λ s. s.now)) (sym c.in-Some.is) ∙ c.get_str.ensures) c.name.ensures

pub returns-in-None : goal.returns-in-None
returns-in-None c = lacks_is (found_of c.args.matches.now) c.args.option c.name.result.now None (ap (option_map (λ s. s.now)) (sym c.in-None.is) ∙ c.get_str.ensures) c.name.ensures
