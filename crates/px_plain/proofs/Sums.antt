-- Differences one after another.
use Rattle.std.proofs.Common.{◌≡◌, ℕ, ◌+◌, ◌-◌, ◌%◌, ◌^◌, ◌<◌, ap, arith}
use Rattle.std.proofs.lemmas.Bool.{eq-eqb}
use Rattle.std.specs.Prelude.{nat_eq, true}
use Rattle.px_plain.specs.Forest.{IsAbove}

pub above_trans : (val : ℕ → ℕ) (v m r a b : ℕ) → IsAbove val v m a → IsAbove val m r b → IsAbove val v r ((a + b) % 2 ^ 32)
above_trans val v m r a b h k = omega arith

pub above_first : (val : ℕ → ℕ) (v m r a b : ℕ) → IsAbove val v r ((a + b) % 2 ^ 32) → IsAbove val m r b → IsAbove val v m a
above_first val v m r a b h k = omega arith

-- two nodes above one root, and what their difference says of their offsets
pub same_root : (val : ℕ → ℕ) (from to a b oa ob plus : ℕ) → a ≡ b → ob < 2 ^ 32 → IsAbove val from a oa → IsAbove val to b ob → IsAbove val to from plus → nat_eq ((oa + plus) % 2 ^ 32) ob ≡ true
same_root val from to a b oa ob plus e w h k t =
    let f = ap val e in
    let same : (oa + plus) % 2 ^ 32 ≡ ob = omega arith in
    eq-eqb ((oa + plus) % 2 ^ 32) ob same

-- the difference of two nodes as one of their roots
pub lower_from : (val : ℕ → ℕ) (from to a b oa ob plus : ℕ) → ob < 2 ^ 32 → IsAbove val from a oa → IsAbove val to b ob → IsAbove val to from plus →
    IsAbove val b a (((oa + plus) % 2 ^ 32 + (2 ^ 32 - ob)) % 2 ^ 32)
lower_from val from to a b oa ob plus w h k t = omega arith

pub lower_to : (val : ℕ → ℕ) (from to a b oa ob plus : ℕ) → IsAbove val from a oa → IsAbove val to b ob → IsAbove val to from plus →
    IsAbove val a b ((ob + (2 ^ 32 - (oa + plus) % 2 ^ 32)) % 2 ^ 32)
lower_to val from to a b oa ob plus h k t = omega arith
