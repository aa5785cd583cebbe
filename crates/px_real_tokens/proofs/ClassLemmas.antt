-- What a byte of a class is, and the class of a byte.
use Rattle.std.proofs.Common.{◌≡◌, ◌⊎◌, ◌==◌, ℕ, Bool, true, false, cond, refl, arith, inl, inr}
use Rattle.std.proofs.lemmas.Bool.{eqb-true}
use Rattle.std.proofs.lemmas.Bool.Decides.{nat_tests}
use Rattle.px_lexer.specs.Bytes.{is_digit, is_blank}
use Rattle.px_real_tokens.specs.Bytes.{is_name_letter, number_goes_on}
use Rattle.px_real_tokens.specs.Scanning.{class_of}
use Rattle.px_real_tokens.specs.declared.piece.Class.{Class}
use Rattle.px_real_tokens.specs.declared.piece.Class.TheVariants as C

-- what is known of a byte of this class
pub data IsOf (b : ℕ) : Class → Type 0 where
  letter : is_name_letter b ≡ true → IsOf b C.Letter
  digit : is_digit b ≡ true → IsOf b C.Digit
  blank : is_blank b ≡ true → IsOf b C.Blank
  quote : (b ≡ 34) ⊎ (b ≡ 39) → IsOf b C.Quote
  hash : b ≡ 35 → IsOf b C.Hash
  percent : b ≡ 37 → IsOf b C.Percent
  dot : b ≡ 46 → IsOf b C.Dot
  slash : b ≡ 47 → IsOf b C.Slash
  backslash : b ≡ 92 → IsOf b C.Backslash
  other : IsOf b C.Other

-- one test of the chain
test : (b : ℕ) (t : Bool) (c d : Class) → (t ≡ true → IsOf b c) → IsOf b d → IsOf b (cond t c d)
test b true c d passed failed = passed refl
test b false c d passed failed = failed

pub of_its_class : (b : ℕ) → IsOf b (class_of b)
unfolding class_of
of_its_class b =
    test b (is_name_letter b) _ _ (λ h. letter h)
    (test b (is_digit b) _ _ (λ h. digit h)
    (test b (is_blank b) _ _ (λ h. blank h)
    (test b (b == 34) _ _ (λ h. quote (inl (eqb-true b 34 h)))
    (test b (b == 39) _ _ (λ h. quote (inr (eqb-true b 39 h)))
    (test b (b == 35) _ _ (λ h. hash (eqb-true b 35 h))
    (test b (b == 37) _ _ (λ h. percent (eqb-true b 37 h))
    (test b (b == 46) _ _ (λ h. dot (eqb-true b 46 h))
    (test b (b == 47) _ _ (λ h. slash (eqb-true b 47 h))
    (test b (b == 92) _ _ (λ h. backslash (eqb-true b 92 h)) other)))))))))

digit_no_letter : (b : ℕ) → is_digit b ≡ true → is_name_letter b ≡ false
digit_no_letter b h = grind (arith, nat_tests)

blank_no_letter : (b : ℕ) → is_blank b ≡ true → is_name_letter b ≡ false
blank_no_letter b h = grind (arith, nat_tests)

pub class_letter : (b : ℕ) → is_name_letter b ≡ true → class_of b ≡ C.Letter
unfolding class_of
class_letter b h = rw h refl

pub class_digit : (b : ℕ) → is_digit b ≡ true → class_of b ≡ C.Digit
unfolding class_of
class_digit b h = rw (digit_no_letter b h, h) refl

pub class_blank : (b : ℕ) → is_blank b ≡ true → class_of b ≡ C.Blank
unfolding class_of
class_blank b h = let no_digit : is_digit b ≡ false = grind (arith, nat_tests) in rw (blank_no_letter b h, no_digit, h) refl

pub class_quote : (q : ℕ) → (q ≡ 34) ⊎ (q ≡ 39) → class_of q ≡ C.Quote
unfolding class_of
class_quote q (inl e) = rw e refl
class_quote q (inr e) = rw e refl

pub class_hash : class_of 35 ≡ C.Hash
unfolding class_of
class_hash = refl

pub class_percent : class_of 37 ≡ C.Percent
unfolding class_of
class_percent = refl

pub class_dot : class_of 46 ≡ C.Dot
unfolding class_of
class_dot = refl

pub class_slash : class_of 47 ≡ C.Slash
unfolding class_of
class_slash = refl

pub class_backslash : class_of 92 ≡ C.Backslash
unfolding class_of
class_backslash = refl

-- a number goes on with a digit
pub digit_goes_on : (before b : ℕ) → is_digit b ≡ true → number_goes_on before b ≡ true
digit_goes_on before b h = rw (digit_no_letter b h, h) refl
