use Rattle.std.proofs.Common.{Err, ap, sym, ◌∙◌}
use Rattle.px_match.proofs.WordLemmas.{read_word, read_long}
use Rattle.px_match.proofs.words.word_through.Goals as goal

pub returns-in-Ok : goal.returns-in-Ok
returns-in-Ok c = read_word c.args.substitution.now c.args.p.now c.in-Ok.q (sym c.has_words.ensures ∙ c.if-not-has_words.false) c.in-Ok.ensures.form c.in-Ok.ensures.short

pub returns-in-Err-Long : goal.returns-in-Err-Long
returns-in-Err-Long c = read_long c.args.substitution.now c.args.p.now (sym c.has_words.ensures ∙ c.if-not-has_words.false) (c.in-Err-Long.ensures.long (ap Err c.in-Err-Long.field-0-is))
