-- What a word is to `clap`, beside what it is here.
use Rattle.std.proofs.Common.{◌≡◌, ◌==◌, ℕ, Bool, true, false, refl, ap, ap₂, [], ◌∷◌, Some, None, codes}
use Rattle.std.proofs.lemmas.Bool.{eqb-true}
use Rattle.std.specs.Str.{bytes_eq}
use Rattle.clap.specs.Lexer.{long_of, short_of, name_and_value}
use Rattle.px_base.specs.Texts.{Text}
use Rattle.px_words.specs.Arguments.{unknown, plain, word_of, option_word, called, is_equals}
use Rattle.std.specs.List.{before_first}

-- `--`; a long word, of which the rest is the option's; a word with one `-` and more; and all others
pub data HasShape (word : Text) : Type 0 where
  ends : bytes_eq word (codes "--") ≡ true → HasShape word
  long : (text : Text) → word ≡ 45 ∷ 45 ∷ text → bytes_eq word (codes "--") ≡ false → long_of word ≡ Some (name_and_value text)
      → word_of word ≡ option_word (called (before_first is_equals text)) text → HasShape word
  short : (b : ℕ) (flags : Text) → word ≡ 45 ∷ b ∷ flags → bytes_eq word (codes "--") ≡ false → long_of word ≡ None → short_of word ≡ Some (b ∷ flags)
      → word_of word ≡ unknown → HasShape word
  other : bytes_eq word (codes "--") ≡ false → long_of word ≡ None → short_of word ≡ None → word_of word ≡ plain word → HasShape word

one_byte : (b : ℕ) (x : Bool) → (b == 45) ≡ x → HasShape (b ∷ [])
one_byte b true e = other (rw e refl) (rw e refl) (rw e refl) refl
one_byte b false e = other (rw e refl) (rw e refl) (rw e refl) refl

more_bytes : (b c : ℕ) (bs : Text) (x y : Bool) → (b == 45) ≡ x → (c == 45) ≡ y → HasShape (b ∷ c ∷ bs)
more_bytes b c [] true true e f = ends (rw (e, f) refl)
more_bytes b c (d ∷ bs) true true e f = long (d ∷ bs) (ap₂ (λ x y. x ∷ y ∷ d ∷ bs) (eqb-true b 45 e) (eqb-true c 45 f)) (rw (e, f) refl) (rw (e, f) refl) (rw (e, f) refl)
more_bytes b c bs true false e f = short c bs (ap (λ x. x ∷ c ∷ bs) (eqb-true b 45 e)) (rw (e, f) refl) (rw (e, f) refl) (rw (e, f) refl) (rw (e, f) refl)
more_bytes b c bs false y e f = other (rw e refl) (rw e refl) (rw e refl) (rw e refl)

pub shape_of : (word : Text) → HasShape word
shape_of [] = other refl refl refl refl
shape_of (b ∷ []) = one_byte b (b == 45) refl
shape_of (b ∷ c ∷ bs) = more_bytes b c bs (b == 45) (c == 45) refl refl
