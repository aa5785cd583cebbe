use Rattle.px_words.proofs.SpellingLemmas.{written_read, read_written}
use Rattle.px_words.proofs.laws.what_is_written_is_read.Goals as goal

pub returns : goal.returns
returns c = λ arguments words. (written_read arguments words, read_written arguments words)
