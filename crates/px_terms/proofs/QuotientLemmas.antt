-- What `wrapping_div` gives is the quotient, wrapped: it fits, or is 2 ^ 31.
use Rattle.std.proofs.Common.{◌≡◌, ℕ, zero, suc, ◌*◌, ◌/◌, ◌^◌, ◌<◌, ◌≤◌, ℤ, pos, negsuc, neg_ℤ, int_div, unsigned_abs, FitsSigned, refl, sym, ap, arith}
use Rattle.std.specs.Int.{w32, cast_signed, cast_unsigned, int_rem_euclid, int_wrapping_div, int_wrap}
use Rattle.std.proofs.Math.Nat.{mod-eq_of_lt, div-le_self}

abbrev size : ℤ → ℕ
size (pos n) = n
size (negsuc n) = n

size_fits : (x : ℤ) → FitsSigned w32 x → size x < 2 ^ 31
size_fits (pos n) f = f.sfits
size_fits (negsuc n) f = f.sfits

size_negated : (n : ℕ) → size (neg_ℤ (pos n)) ≤ n
size_negated zero = omega arith
size_negated (suc n) = omega arith

quotient_small : (x y : ℤ) → size (int_div x y) ≤ suc (size x)
quotient_small (pos a) (pos b) = omega (arith, div-le_self a b)
quotient_small (pos a) (negsuc b) = omega (arith, size_negated (a / suc b), div-le_self a (suc b))
quotient_small (negsuc a) (pos b) = omega (arith, size_negated (suc a / b), div-le_self (suc a) b)
quotient_small (negsuc a) (negsuc b) = omega (arith, div-le_self (suc a) (suc b))

below : (n m : ℕ) → n < 2 ^ 31 → m ≤ suc n → m < 2 ^ 32
below n m h k = let twice : 2 * 2 ^ 31 ≡ 2 ^ 32 = refl in omega (arith, h, k, twice)

left_over : (z : ℤ) → size z < 2 ^ 32 → cast_unsigned w32 z ≡ unsigned_abs (int_rem_euclid z (pos (2 ^ 32)))
left_over (pos n) h = sym (mod-eq_of_lt h)
left_over (negsuc n) h = omega (arith, mod-eq_of_lt h)

pub wrapping_div_is : (x y : ℤ) → FitsSigned w32 x → int_wrapping_div w32 x y ≡ int_wrap w32 (int_div x y)
unfolding int_wrap
wrapping_div_is x y f = ap (cast_signed w32) (left_over (int_div x y) (below (size x) (size (int_div x y)) (size_fits x f) (quotient_small x y)))
