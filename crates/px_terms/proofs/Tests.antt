-- What tests of numbers answer, and that a test answers once.
use Rattle.std.proofs.Common.{◌≡◌, ℕ, ◌<◌, ◌≤◌, arith}
use Rattle.std.specs.Prelude.{Bool, true, false, nat_eq, nat_lt}
use Rattle.std.proofs.lemmas.Bool.Decides.{nat_tests}

pub never_both : (b : Bool) → b ≡ true → b ≡ false → ⊥
never_both true p q = cc
never_both false p q = cc

pub same_number : (a b : ℕ) → a ≡ b → nat_eq a b ≡ true
same_number a b e = grind (arith, nat_tests)

pub same_either_way : (a b : ℕ) → nat_eq a b ≡ nat_eq b a
same_either_way a b = grind arith

pub lt_true : (a b : ℕ) → a < b → nat_lt a b ≡ true
lt_true a b l = search (Rattle.std.proofs.Common.rules, Rattle.std.proofs.Common.tests)

pub lt_false : (a b : ℕ) → b ≤ a → nat_lt a b ≡ false
lt_false a b l = search (Rattle.std.proofs.Common.rules, Rattle.std.proofs.Common.tests)
