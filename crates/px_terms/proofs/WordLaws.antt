-- Words are a ring, and are read as signed numbers.
use Rattle.std.proofs.Common.{◌≡◌, ◌+◌, ◌*◌, ◌%◌, ◌^◌, ℕ, ap, sym, ◌∙◌, inl, inr, arith}
use Rattle.std.specs.Int.{w32}
use Rattle.std.proofs.Math.Facts.{Fits-of_z, sfits_to_z}
use Rattle.std.proofs.lemmas.Nat.{mul-mod_first, mul-mod_second}
use Rattle.std.proofs.lemmas.Int.{ints, by_lt_z, to_z-of_z, of_z-to_z, int_wrap_fits, wrapping_add_is, wrapping_sub_is, wrapping_mul_is, wrapping_neg_is}
use Rattle.px_terms.specs.Words.{word_sum, word_product, WordsAreRing, WordsAreSigned, SignedOrder}

product_order : (a b : ℕ) → word_product a b ≡ word_product b a
product_order a b = ap (λ z. z % 2 ^ 32) (turned a b)
  where
    turned : (a b : ℕ) → a * b ≡ b * a
    turned a b = grind arith

product_groups : (a b c : ℕ) → word_product (word_product a b) c ≡ word_product a (word_product b c)
product_groups a b c = mul-mod_first (a * b) c (2 ^ 32) ∙ ap (λ z. z % 2 ^ 32) (grouped a b c) ∙ sym (mul-mod_second a (b * c) (2 ^ 32))
  where
    grouped : (a b c : ℕ) → (a * b) * c ≡ a * (b * c)
    grouped a b c = grind arith

distributes : (a b c : ℕ) → word_product a (word_sum b c) ≡ word_sum (word_product a b) (word_product a c)
distributes a b c = mul-mod_second a (b + c) (2 ^ 32) ∙ ap (λ z. z % 2 ^ 32) (shared a b c) ∙ apart (a * b) (a * c)
  where
    shared : (a b c : ℕ) → a * (b + c) ≡ a * b + a * c
    shared a b c = grind arith

    apart : (x y : ℕ) → (x + y) % 2 ^ 32 ≡ (x % 2 ^ 32 + y % 2 ^ 32) % 2 ^ 32
    apart x y = omega arith

pub words_are_ring : WordsAreRing
words_are_ring = record {
  sum_order = λ a b. omega arith;
  sum_groups = λ a b c. omega arith;
  sum_zero = λ a h. omega arith;
  sum_negated = λ a h. omega arith;
  difference = λ a b h. omega arith;
  product_order = product_order;
  product_groups = product_groups;
  product_one = λ a h. omega arith;
  distributes = distributes;
}

pub words_are_signed : WordsAreSigned
words_are_signed = record {
  word_fits = λ z f. (Fits-of_z {w = w32} f).fits;
  signed_fits = λ n h. sfits_to_z {w = w32} (record { fits = h });
  word_signed = λ n h. of_z-to_z w32 n h;
  signed_word = λ z f. to_z-of_z w32 z f;
  sum = λ a b f g. wrapping_add_is w32 a b f g;
  difference = λ a b f g. wrapping_sub_is w32 a b f g;
  product = λ a b f g. wrapping_mul_is w32 a b f g;
  negated = λ a f. wrapping_neg_is w32 a f;
  fitting_stays = λ z f. int_wrap_fits w32 z f;
}

pub signed_order : SignedOrder
signed_order = record {
  irreflexive = λ a h. omega (arith, ints);
  transitive = λ a b c h k. omega (arith, ints);
  less_or_equal = λ a b. by_lt_z b a inr inl;
  not_both = λ a b h k. omega (arith, ints);
  antisymmetric = λ a b h k. omega (arith, ints);
}
