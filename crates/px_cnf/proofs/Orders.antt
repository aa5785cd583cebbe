-- The order of signed words, by a carry.
use Rattle.std.proofs.Common.{◌≡◌, ◌↔◌, ℕ, zero, suc, ◌+◌, ◌-◌, ◌*◌, ◌%◌, ◌^◌, ◌<◌, ◌≤◌, List, [], ◌∷◌, length, map, subst, arith, inl, inr}
use Rattle.std.specs.Prelude.{Bool, true, false, not, ◌+ℤ◌, ◌<ℤ◌, ◌≤ℤ◌, pos, negsuc}
use Rattle.std.specs.Int.{w32}
use Rattle.std.proofs.Math.Nat.{pow-suc}
use Rattle.std.proofs.lemmas.Bool.{cases_lt}
use Rattle.std.proofs.Math.Facts.{to_z_pos, to_z-neg}
use Rattle.std.proofs.lemmas.Int.{ints}
use Rattle.px_terms.specs.Words.{signed}
use Rattle.px_cnf.specs.declared.literal.Literal.{Literal}
use Rattle.px_cnf.specs.Clauses.{Assignment, holds, negated}
use Rattle.px_cnf.specs.Words.{bit, number, raised}
use Rattle.px_cnf.proofs.Meeting.{holds-negated}

-- a signed word stands 2^31 below its place
raised_word : (n : ℕ) → n < 2 ^ 32 → signed n +ℤ pos (2 ^ 31) ≡ pos (raised n)
raised_word n h = elim (cases_lt n (2 ^ 31)) [
  | inl l ↦ (let e : signed n ≡ pos n = to_z_pos w32 l in omega (arith, ints))
  | inr l ↦
      (let k : 2 ^ 32 - suc (2 ^ 32 - 1 - n) ≡ n = omega arith in
      let e = subst (λ j. signed j ≡ negsuc (2 ^ 32 - 1 - n)) k (to_z-neg w32 (2 ^ 32 - 1 - n) (omega arith)) in omega (arith, ints))
]

pub less_raised : (m n : ℕ) → m < 2 ^ 32 → n < 2 ^ 32 → (signed m <ℤ signed n) ↔ (raised m < raised n)
less_raised m n h k =
    let e = raised_word m h in
    let f = raised_word n k in
    (λ l. omega (arith, ints), λ l. omega (arith, ints))

pub at_most_raised : (m n : ℕ) → m < 2 ^ 32 → n < 2 ^ 32 → (signed m ≤ℤ signed n) ↔ (raised m ≤ raised n)
at_most_raised m n h k =
    let e = raised_word m h in
    let f = raised_word n k in
    (λ l. omega (arith, ints), λ l. omega (arith, ints))

-- ---- complements

-- a word and the one with all bits turned are all ones together
pub number-negated : (a : Assignment) (ls : List Literal) → number a (map negated ls) + number a ls + 1 ≡ 2 ^ length ls
number-negated a [] = omega arith
number-negated a (l ∷ ls) =
    let e : bit (holds a (negated l)) + bit (holds a l) ≡ 1 = rw holds-negated (turned (holds a l)) in
    let f = number-negated a ls in
    rw pow-suc (omega (arith, e, f))
  where
    turned : (v : Bool) → bit (not v) + bit v ≡ 1
    turned true = omega arith
    turned false = omega arith

-- the highest bit turned
pub number_raised : (n p b c : ℕ) → n < p → 2 * p ≡ 2 ^ 32 → b + c ≡ 1 → n + p * b ≡ (n + p * c + 2 ^ 31) % 2 ^ 32
number_raised n p zero c l e h = let k : c ≡ 1 = omega arith in rw k (omega arith)
number_raised n p (suc zero) c l e h = let k : c ≡ 0 = omega arith in rw k (omega arith)
number_raised n p (suc (suc b)) c l e h = absurd (omega arith)
