use Rattle.std.proofs.Common.{◌∙◌, sym}
use Rattle.px_words.proofs.NumberLemmas.{number_read, no_number}
use Rattle.px_words.proofs.numbers.number_written.Goals as goal

pub returns-then-is_numeral : goal.returns-then-is_numeral
returns-then-is_numeral c = number_read c.args.text.now c.parse.result c.ok.result c.parse.ensures.value.0 (sym c.is_numeral.ensures ∙ c.if-is_numeral.true) c.ok.ensures.value

pub returns-else-is_numeral : goal.returns-else-is_numeral
returns-else-is_numeral c = no_number c.args.text.now (sym c.is_numeral.ensures ∙ c.if-is_numeral.false)
