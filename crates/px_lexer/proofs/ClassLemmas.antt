-- What a byte of a class is, and the class of a byte.
use Rattle.std.proofs.Common.{◌≡◌, ◌==◌, ℕ, Bool, true, false, cond, refl, arith}
use Rattle.std.proofs.lemmas.Bool.{eqb-true}
use Rattle.std.proofs.lemmas.Bool.Decides.{nat_tests}
use Rattle.px_lexer.specs.Bytes.{is_letter, is_digit, is_blank}
use Rattle.px_lexer.specs.Scanning.{class_of}
use Rattle.px_lexer.specs.declared.piece.Class.{Class}
use Rattle.px_lexer.specs.declared.piece.Class.TheVariants as C

-- what is known of a byte of this class
pub data IsOf (b : ℕ) : Class → Type 0 where
  letter : is_letter b ≡ true → IsOf b C.Letter
  digit : is_digit b ≡ true → IsOf b C.Digit
  blank : is_blank b ≡ true → IsOf b C.Blank
  quote : b ≡ 34 → IsOf b C.Quote
  apostrophe : b ≡ 39 → IsOf b C.Apostrophe
  hash : b ≡ 35 → IsOf b C.Hash
  slash : b ≡ 47 → IsOf b C.Slash
  other : IsOf b C.Other

at_slash : (b : ℕ) (t : Bool) → (b == 47) ≡ t → IsOf b (cond t C.Slash C.Other)
at_slash b true h = slash (eqb-true b 47 h)
at_slash b false h = other

at_hash : (b : ℕ) (t : Bool) → (b == 35) ≡ t → IsOf b (cond t C.Hash (cond (b == 47) C.Slash C.Other))
at_hash b true h = hash (eqb-true b 35 h)
at_hash b false h = at_slash b (b == 47) refl

at_apostrophe : (b : ℕ) (t : Bool) → (b == 39) ≡ t → IsOf b (cond t C.Apostrophe (cond (b == 35) C.Hash (cond (b == 47) C.Slash C.Other)))
at_apostrophe b true h = apostrophe (eqb-true b 39 h)
at_apostrophe b false h = at_hash b (b == 35) refl

abbrev below_quote : ℕ → Class
below_quote b = cond (b == 39) C.Apostrophe (cond (b == 35) C.Hash (cond (b == 47) C.Slash C.Other))

at_quote : (b : ℕ) (t : Bool) → (b == 34) ≡ t → IsOf b (cond t C.Quote (below_quote b))
at_quote b true h = quote (eqb-true b 34 h)
at_quote b false h = at_apostrophe b (b == 39) refl

at_blank : (b : ℕ) (t : Bool) → is_blank b ≡ t → IsOf b (cond t C.Blank (cond (b == 34) C.Quote (below_quote b)))
at_blank b true h = blank h
at_blank b false h = at_quote b (b == 34) refl

at_digit : (b : ℕ) (t : Bool) → is_digit b ≡ t → IsOf b (cond t C.Digit (cond (is_blank b) C.Blank (cond (b == 34) C.Quote (below_quote b))))
at_digit b true h = digit h
at_digit b false h = at_blank b (is_blank b) refl

at_letter : (b : ℕ) (t : Bool) → is_letter b ≡ t →
    IsOf b (cond t C.Letter (cond (is_digit b) C.Digit (cond (is_blank b) C.Blank (cond (b == 34) C.Quote (below_quote b)))))
at_letter b true h = letter h
at_letter b false h = at_digit b (is_digit b) refl

pub of_its_class : (b : ℕ) → IsOf b (class_of b)
unfolding class_of
of_its_class b = at_letter b (is_letter b) refl

digit_no_letter : (b : ℕ) → is_digit b ≡ true → is_letter b ≡ false
digit_no_letter b h = grind (arith, nat_tests)

blank_no_letter : (b : ℕ) → is_blank b ≡ true → is_letter b ≡ false
blank_no_letter b h = grind (arith, nat_tests)

blank_no_digit : (b : ℕ) → is_blank b ≡ true → is_digit b ≡ false
blank_no_digit b h = grind (arith, nat_tests)

pub class_letter : (b : ℕ) → is_letter b ≡ true → class_of b ≡ C.Letter
unfolding class_of
class_letter b h = rw h refl

pub class_digit : (b : ℕ) → is_digit b ≡ true → class_of b ≡ C.Digit
unfolding class_of
class_digit b h = rw (digit_no_letter b h, h) refl

pub class_blank : (b : ℕ) → is_blank b ≡ true → class_of b ≡ C.Blank
unfolding class_of
class_blank b h = rw (blank_no_letter b h, blank_no_digit b h, h) refl

pub class_quote : class_of 34 ≡ C.Quote
unfolding class_of
class_quote = refl

pub class_apostrophe : class_of 39 ≡ C.Apostrophe
unfolding class_of
class_apostrophe = refl

pub class_hash : class_of 35 ≡ C.Hash
unfolding class_of
class_hash = refl

pub class_slash : class_of 47 ≡ C.Slash
unfolding class_of
class_slash = refl
