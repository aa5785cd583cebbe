use Rattle.std.proofs.Common.{rules, ◌≡◌, ◌&&◌, length, true}
use Rattle.std.specs.Char.{is_ascii_digit}
use Rattle.std.specs.List.{list_all}
use Rattle.px_words.specs.Meaning.{is_within}
use Rattle.px_words.proofs.NumberLemmas.{start_read}
use Rattle.px_words.proofs.sample.start_written.Goals as goal

pub returns-then-are_digits : goal.returns-then-are_digits
returns-then-are_digits c =
    let fits : (is_within 1 20 (length c.args.text.now) && list_all is_ascii_digit c.args.text.now) ≡ true = search rules in
    start_read c.args.text.now c.parse.result c.ok.result c.parse.ensures.value.0 fits c.ok.ensures.value
