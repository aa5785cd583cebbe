use Rattle.px_bits.proofs.AmongLemmas.{no_words_no_model}
use Rattle.px_bits.proofs.laws.no_words_no_model.Goals as goal

pub returns : goal.returns
returns c = no_words_no_model
