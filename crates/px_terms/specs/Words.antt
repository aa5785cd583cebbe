-- Words of 32 bits. A word is a number below 2^32, and sums, differences and products are those of
-- numbers modulo 2^32; it is read as a signed number in two's complement, as C's `int` is. C17 6.5
-- leaves an `int` result that doesn't fit undefined: here it wraps, as it does on the machines that
-- are meant.
use Rattle.std.specs.Prelude.{◌≡◌, ℕ, ◌+◌, ◌-◌, ◌*◌, ◌%◌, ◌^◌, ◌<◌, ℤ, ◌+ℤ◌, ◌-ℤ◌, ◌*ℤ◌, neg_ℤ, int_div, ◌≢◌, ◌<ℤ◌, ◌≤ℤ◌, ◌⊎◌, FitsSigned}
use Rattle.std.specs.Int.{w32, int_wrap, cast_signed, cast_unsigned}

-- the word of a signed number from -2^31 to 2^31 - 1
abbrev pub word : ℤ → ℕ
word z = cast_unsigned w32 z

-- the signed number that a word is read as
abbrev pub signed : ℕ → ℤ
signed n = cast_signed w32 n

abbrev pub word_sum : ℕ → ℕ → ℕ
word_sum a b = (a + b) % 2 ^ 32

abbrev pub word_difference : ℕ → ℕ → ℕ
word_difference a b = (a + (2 ^ 32 - b)) % 2 ^ 32

abbrev pub word_product : ℕ → ℕ → ℕ
word_product a b = (a * b) % 2 ^ 32

-- the word that makes 0 with another
abbrev pub word_negated : ℕ → ℕ
word_negated a = (2 ^ 32 - a) % 2 ^ 32

-- the quotient of two signed numbers, truncated towards zero (C17 6.5.5), and wrapped: that of the least by -1 is the least
abbrev pub quotient_of : ℤ → ℤ → ℤ
quotient_of x y = int_wrap w32 (int_div x y)

-- the quotient of two words, as signed numbers
abbrev pub word_quotient : ℕ → ℕ → ℕ
word_quotient m n = word (quotient_of (signed m) (signed n))

-- the word q is the quotient of m by n; nothing is one by 0
abbrev pub IsQuotient : ℕ → ℕ → ℕ → Type 0
IsQuotient q m n = (n ≢ 0) × (q ≡ word_quotient m n)

-- words are a ring
pub record WordsAreRing : Type 0 where
  pub sum_order : (a b : ℕ) → word_sum a b ≡ word_sum b a
  pub sum_groups : (a b c : ℕ) → word_sum (word_sum a b) c ≡ word_sum a (word_sum b c)
  pub sum_zero : (a : ℕ) → a < 2 ^ 32 → word_sum a 0 ≡ a
  pub sum_negated : (a : ℕ) → a < 2 ^ 32 → word_sum a (word_negated a) ≡ 0
  pub difference : (a b : ℕ) → b < 2 ^ 32 → word_difference a b ≡ word_sum a (word_negated b)
  pub product_order : (a b : ℕ) → word_product a b ≡ word_product b a
  pub product_groups : (a b c : ℕ) → word_product (word_product a b) c ≡ word_product a (word_product b c)
  pub product_one : (a : ℕ) → a < 2 ^ 32 → word_product a 1 ≡ a
  pub distributes : (a b c : ℕ) → word_product a (word_sum b c) ≡ word_sum (word_product a b) (word_product a c)

-- words and signed numbers are read as one another, and the signed reading of a result is the signed
-- result, wrapped
pub record WordsAreSigned : Type 0 where
  pub word_fits : (z : ℤ) → FitsSigned w32 z → word z < 2 ^ 32
  pub signed_fits : (n : ℕ) → n < 2 ^ 32 → FitsSigned w32 (signed n)
  pub word_signed : (n : ℕ) → n < 2 ^ 32 → word (signed n) ≡ n
  pub signed_word : (z : ℤ) → FitsSigned w32 z → signed (word z) ≡ z
  pub sum : (a b : ℤ) → FitsSigned w32 a → FitsSigned w32 b → signed (word_sum (word a) (word b)) ≡ int_wrap w32 (a +ℤ b)
  pub difference : (a b : ℤ) → FitsSigned w32 a → FitsSigned w32 b → signed (word_difference (word a) (word b)) ≡ int_wrap w32 (a -ℤ b)
  pub product : (a b : ℤ) → FitsSigned w32 a → FitsSigned w32 b → signed (word_product (word a) (word b)) ≡ int_wrap w32 (a *ℤ b)
  pub negated : (a : ℤ) → FitsSigned w32 a → signed (word_negated (word a)) ≡ int_wrap w32 (neg_ℤ a)
  pub fitting_stays : (z : ℤ) → FitsSigned w32 z → int_wrap w32 z ≡ z

-- the order of signed numbers is total
pub record SignedOrder : Type 0 where
  pub irreflexive : (a : ℤ) → ¬ (a <ℤ a)
  pub transitive : (a b c : ℤ) → a <ℤ b → b <ℤ c → a <ℤ c
  pub less_or_equal : (a b : ℤ) → (a ≤ℤ b) ⊎ (b <ℤ a)
  pub not_both : (a b : ℤ) → a ≤ℤ b → ¬ (b <ℤ a)
  pub antisymmetric : (a b : ℤ) → a ≤ℤ b → b ≤ℤ a → a ≡ b
