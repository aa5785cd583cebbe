-- Values whose blocks are moved to other numbers, and what stays true of them.
use Rattle.std.proofs.Common.{◌≡◌, ℕ, ◌+◌, refl, sym, ap, ◌∙◌, subst, arith, ◌%◌, ◌^◌, ap₂}
use mathlib.Core.Path.{fun_ext}
use Rattle.std.specs.Prelude.{◌<ℤ◌, ◌≤ℤ◌}
use Rattle.px_terms.specs.Words.{signed, word_quotient}
use Rattle.px_terms.specs.Polynomials.{Polynomial, value_of}
use Rattle.px_terms.specs.Valuations.{Valuation, IsWord, IsPlace, IsBlock, IsUnwritten, number_of, HasType, FitsSort}
use Rattle.px_terms.specs.Conjuncts.{HasWords, word_of, place_of, IsTrueUnder}
use Rattle.px_terms.specs.declared.types.Value.{Value}
use Rattle.px_terms.specs.declared.types.Value.TheVariants.{Word, Null, Block, Unwritten}
use Rattle.px_terms.specs.declared.types.ValueType.{ValueType}
use Rattle.px_terms.specs.declared.types.ValueType.TheVariants.{Int, Pointer}
use Rattle.px_terms.specs.declared.variables.Sort.{Sort}
use Rattle.px_terms.specs.declared.variables.Sort.TheVariants as sort
use Rattle.px_terms.specs.declared.conjuncts.Place.{Place}
use Rattle.px_terms.specs.declared.conjuncts.Place.TheVariants as place
use Rattle.px_terms.specs.declared.conjuncts.Conj.{Conj}
use Rattle.px_terms.specs.declared.conjuncts.Conj.TheVariants as conjunct

-- each block has a number that is greater by this
abbrev pub moved : ℕ → Value → Value
moved by (Word z) = Word z
moved by Null = Null
moved by (Block n) = Block (by + n)
moved by Unwritten = Unwritten

-- ---- values

module _ (by : ℕ) where
  pub block_from : (u : Value) (n : ℕ) → moved by u ≡ Block n → (k : ℕ) × (u ≡ Block k) × (n ≡ by + k)
  block_from (Word z) n e = absurd (cc)
  block_from Null n e = absurd (cc)
  block_from (Block k) n e = (k, refl, cc)
  block_from Unwritten n e = absurd (cc)

  block_apart : (m n : ℕ) → Block (by + m) ≡ Block (by + n) → Block m ≡ Block n
  block_apart m n e = let f : by + m ≡ by + n = cc in ap Block (omega arith)

  pub moved_apart : (u w : Value) → moved by u ≡ moved by w → u ≡ w
  moved_apart (Word y) (Word z) e = e
  moved_apart Null Null e = refl
  moved_apart (Block m) (Block n) e = block_apart m n e
  moved_apart Unwritten Unwritten e = refl
  moved_apart (Word y) Null e = absurd (cc)
  moved_apart (Word y) (Block n) e = absurd (cc)
  moved_apart (Word y) Unwritten e = absurd (cc)
  moved_apart Null (Word z) e = absurd (cc)
  moved_apart Null (Block n) e = absurd (cc)
  moved_apart Null Unwritten e = absurd (cc)
  moved_apart (Block m) (Word z) e = absurd (cc)
  moved_apart (Block m) Null e = absurd (cc)
  moved_apart (Block m) Unwritten e = absurd (cc)
  moved_apart Unwritten (Word z) e = absurd (cc)
  moved_apart Unwritten Null e = absurd (cc)
  moved_apart Unwritten (Block n) e = absurd (cc)

  same_number : (u : Value) → number_of (moved by u) ≡ number_of u
  same_number (Word z) = refl
  same_number Null = refl
  same_number (Block n) = refl
  same_number Unwritten = refl

  still_word : (u : Value) → IsWord u → IsWord (moved by u)
  still_word (Word z) h = tt
  still_word Null h = absurd h
  still_word (Block n) h = absurd h
  still_word Unwritten h = absurd h

  still_place : (u : Value) → IsPlace u → IsPlace (moved by u)
  still_place (Word z) h = absurd h
  still_place Null h = tt
  still_place (Block n) h = tt
  still_place Unwritten h = absurd h

  still_unwritten : (u : Value) → IsUnwritten u → IsUnwritten (moved by u)
  still_unwritten (Word z) h = absurd h
  still_unwritten Null h = absurd h
  still_unwritten (Block n) h = absurd h
  still_unwritten Unwritten h = tt

  was_unwritten : (u : Value) → IsUnwritten (moved by u) → IsUnwritten u
  was_unwritten (Word z) h = absurd h
  was_unwritten Null h = absurd h
  was_unwritten (Block n) h = absurd h
  was_unwritten Unwritten h = tt

  -- ---- types and sorts

  still_type : (t : ValueType) (u : Value) → HasType t u → HasType t (moved by u)
  still_type Int (Word z) h = h
  still_type Int Null h = absurd h
  still_type Int (Block n) h = absurd h
  still_type Int Unwritten h = absurd h
  still_type (Pointer t) u h = still_place u h

  still_cell : (t : ValueType) (u : Value) → FitsSort sort.Cell t u → FitsSort sort.Cell t (moved by u)
  still_cell t (Word z) h = h
  still_cell t Null h = h
  still_cell Int (Block n) h = absurd h
  still_cell (Pointer t) (Block n) h = tt
  still_cell t Unwritten h = tt

  still_block : (u : Value) → IsBlock u → IsBlock (moved by u)
  still_block (Word z) h = absurd h
  still_block Null h = absurd h
  still_block (Block n) h = tt
  still_block Unwritten h = absurd h

  pub still_fits : (s : Sort) (t : ValueType) (u : Value) → FitsSort s t u → FitsSort s t (moved by u)
  still_fits sort.Given t u h = still_type t u h
  still_fits sort.Cell t u h = still_cell t u h
  still_fits sort.Input t u h = still_type t u h
  still_fits sort.Made t u h = (still_type t u h.0, still_block u h.1)

  -- ---- conjuncts

  module _ (v : Valuation) where
    abbrev w : Valuation
    w x = moved by (v x)

    same_word : (p : Polynomial) → word_of v p ≡ word_of w p
    same_word p = ap (λ (f : ℕ → ℕ). value_of f p) (fun_ext (λ x. sym (same_number (v x))))

    have_words : (p : Polynomial) → HasWords v p → HasWords w p
    have_words p h k d l = still_word (v _) (h k d l)

    same_place : (a : Place) → place_of w a ≡ moved by (place_of v a)
    same_place place.Null = refl
    same_place (place.Var x) = refl

    is_place : (a : Place) → IsPlace (place_of v a) → IsPlace (place_of w a)
    is_place a h = subst IsPlace (sym (same_place a)) (still_place (place_of v a) h)

    -- what is true stays so
    pub still_true : (c : Conj) → IsTrueUnder v c → IsTrueUnder w c
    still_true (conjunct.Equal p) h = (have_words p h.0, sym (same_word p) ∙ h.1)
    still_true (conjunct.Unequal p) h = (have_words p h.0, λ e. h.1 (same_word p ∙ e))
    still_true (conjunct.Less p q) h =
        (have_words p h.0, have_words q h.1, subst (λ z. signed (word_of w p) <ℤ signed z) (same_word q) (subst (λ z. signed z <ℤ signed (word_of v q)) (same_word p) h.2))
    still_true (conjunct.AtMost p q) h =
        (have_words p h.0, have_words q h.1, subst (λ z. signed (word_of w p) ≤ℤ signed z) (same_word q) (subst (λ z. signed z ≤ℤ signed (word_of v q)) (same_word p) h.2))
    still_true (conjunct.SamePlace a b) h = ((is_place a h.0.0, is_place b h.0.1), same_place a ∙ ap (moved by) h.1 ∙ sym (same_place b))
    still_true (conjunct.OtherPlace a b) h =
        ((is_place a h.0.0, is_place b h.0.1), λ e. h.1 (moved_apart (place_of v a) (place_of v b) (sym (same_place a) ∙ e ∙ same_place b)))
    still_true (conjunct.Written x) h = λ u. h (was_unwritten (v x.0) u)
    still_true (conjunct.Unwritten x) h = still_unwritten (v x.0) h
    still_true (conjunct.Quotient x p q) h =
        (still_word (v x.0) h.0, have_words p h.1, have_words q h.2, (λ e. h.3.0 (same_word q ∙ e), ap (λ n. n % 2 ^ 32) (same_number (v x.0)) ∙ h.3.1 ∙ ap₂ word_quotient (same_word p) (same_word q)))
