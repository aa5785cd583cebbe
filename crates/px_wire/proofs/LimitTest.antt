-- The test of limits decides whether they are in range.
use Rattle.std.proofs.Common.{◌≡◌, ℕ, ◌≤◌, true, false, ◌&&◌}
use Rattle.std.specs.Prelude.{nat_le}
use Rattle.std.proofs.lemmas.Bool.{and_parts, and_from, leb-true, le-leb, false_from_ne_true}
use Rattle.px_base.specs.LimitNumbers.{LimitNumbers, IsInRange}
use Rattle.px_wire.specs.Jobs.{is_between, are_limits}

lies_between : (least most n : ℕ) → is_between least most n ≡ true → (least ≤ n) × (n ≤ most)
lies_between least most n test =
    let both = and_parts (nat_le least n) (nat_le n most) test in
    (leb-true least n both.0, leb-true n most both.1)

is_so : (least most n : ℕ) → (least ≤ n) × (n ≤ most) → is_between least most n ≡ true
is_so least most n lies = and_from (nat_le least n) (nat_le n most) (le-leb least n lies.0) (le-leb n most lies.1)

pub are_in_range : (l : LimitNumbers) → are_limits l ≡ true → IsInRange l
are_in_range l test =
    let first = and_parts (is_between 1 16 l.unroll) (is_between 1 128 l.paths && is_between 1 100000 l.nodes) test in
    let second = and_parts (is_between 1 128 l.paths) (is_between 1 100000 l.nodes) first.1 in
    (lies_between 1 16 l.unroll first.0, (lies_between 1 128 l.paths second.0, lies_between 1 100000 l.nodes second.1))

pub in_range : (l : LimitNumbers) → IsInRange l → are_limits l ≡ true
in_range l (unroll, (paths, nodes)) =
    and_from (is_between 1 16 l.unroll) (is_between 1 128 l.paths && is_between 1 100000 l.nodes) (is_so 1 16 l.unroll unroll)
    (and_from (is_between 1 128 l.paths) (is_between 1 100000 l.nodes) (is_so 1 128 l.paths paths) (is_so 1 100000 l.nodes nodes))

pub out_of_range : (l : LimitNumbers) → ¬ IsInRange l → are_limits l ≡ false
out_of_range l out = false_from_ne_true (are_limits l) (λ test. out (are_in_range l test))
