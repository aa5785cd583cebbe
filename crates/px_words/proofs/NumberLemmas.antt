-- What `parse` reads of one to six digits.
use Rattle.std.proofs.Common.{rules, arith, ◌≡◌, ◌∙◌, ◌≤◌, ◌&&◌, ℕ, Bool, true, false, refl, sym, ap, length, Option, None, Result, Ok, Err, nat_le, nat_lt, ◌<◌, ◌^◌, true≢false}
use Rattle.std.proofs.lemmas.Bool.{and_parts}
use Rattle.std.proofs.lemmas.Str.Parse.{IsNumeralModel, numerals_by_value, parse_digits, parse_gives, digits_value_short}
use Rattle.std.specs.Char.{is_ascii_digit}
use Rattle.std.specs.List.{list_all}
use Rattle.std.specs.Str.Parse.{ParsesUnsigned, digits_value}
use Rattle.std.specs.Result.{result_ok, OkIff}
use Rattle.px_base.specs.Texts.{Text}
use Rattle.px_words.specs.Meaning.{is_within, is_numeral, number_written}
use Rattle.px_words.specs.Samples.{start_written}
use Rattle.px_terms.proofs.Tests.{lt_true}

pub le_of_test : (m n : ℕ) → nat_le m n ≡ true → m ≤ n
le_of_test m n e = search rules

own : IsNumeralModel (λ ds. list_all is_ascii_digit ds ≡ true) (digits_value 10)
own = numerals_by_value _ (search rules)

pub numeral_read : {E : Type 0} (text : Text) (r : Result ℕ E) → ParsesUnsigned 32 10 text r → is_numeral text ≡ true → r ≡ Ok (digits_value 10 text)
numeral_read text r h e =
    let parts = and_parts _ _ e in
    let within = and_parts _ _ parts.0 in
    let some : 1 ≤ length text = le_of_test 1 (length text) within.0 in
    let few : length text ≤ 6 = le_of_test (length text) 6 within.1 in
    parse_gives own 32 text r h parts.1 (omega arith) (omega (arith, digits_value_short own text 6 parts.1 few))

pub number_read : {E : Type 0} (text : Text) (r : Result ℕ E) (o : Option ℕ) → ParsesUnsigned 32 10 text r → is_numeral text ≡ true
    → o ≡ result_ok r → o ≡ number_written text
number_read text r o h e is = is ∙ ap result_ok (numeral_read text r h e) ∙ rw e refl

pub no_number : (text : Text) → is_numeral text ≡ false → None ≡ number_written text
no_number text e = rw e refl

-- ---- the start of a sample

lt_of_test : (m n : ℕ) → nat_lt m n ≡ true → m < n
lt_of_test m n e = search rules

not_parsed : {E : Type 0} (r : Result ℕ E) (P : Type 0) (n : ℕ) → OkIff r P n → ¬ P → result_ok r ≡ None
not_parsed (Ok m) P n h none = absurd (none h.0)
not_parsed (Err e) P n h none = refl

pub start_read : {E : Type 0} (text : Text) (r : Result ℕ E) (o : Option ℕ) → ParsesUnsigned 64 10 text r → (is_within 1 20 (length text) && list_all is_ascii_digit text) ≡ true
    → o ≡ result_ok r → o ≡ start_written text
start_read text r o h e is = is ∙ go (nat_lt (digits_value 10 text) (2 ^ 64)) refl
  where
    digits : list_all is_ascii_digit text ≡ true
    digits = (and_parts (is_within 1 20 (length text)) (list_all is_ascii_digit text) e).1

    some : 1 ≤ length text
    some = le_of_test 1 (length text) (and_parts (nat_le 1 (length text)) (nat_le (length text) 20) (and_parts (is_within 1 20 (length text)) (list_all is_ascii_digit text) e).0).0

    go : (b : Bool) → nat_lt (digits_value 10 text) (2 ^ 64) ≡ b → result_ok r ≡ start_written text
    go true low = ap result_ok (parse_gives own 64 text r h digits (omega (arith, some)) (lt_of_test _ _ low)) ∙ rw (e, low) refl
    go false low = not_parsed r _ _ (parse_digits own 64 text r h digits) (λ p. true≢false (sym (lt_true _ _ p.1) ∙ low)) ∙ rw (e, low) refl

pub no_start : (text : Text) → (is_within 1 20 (length text) && list_all is_ascii_digit text) ≡ false → None ≡ start_written text
no_start text e = rw e refl
