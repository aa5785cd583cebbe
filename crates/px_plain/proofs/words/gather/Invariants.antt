use Rattle.std.proofs.Common.{◌≡◌, ℕ, ◌<◌, ◌≤◌, ◌+◌, ◌-◌, length, get_or}
use Rattle.std.specs.Prelude.{Contains}
use Rattle.px_plain.specs.Exclusions.{exclusion_at, taken_by}
use Rattle.px_plain.proofs.words.gather.Given as goal

abbrev pub invariant-loop-next : goal.invariant-loop-next
invariant-loop-next l = record {
  from : l.fn.from ≤ l.next;
  within : l.next ≤ length l.exclusions;
  count : length l.taken.items + l.fn.from ≡ l.next;
  at : (j : ℕ) → l.fn.from ≤ j → j < l.next → (exclusion_at l.exclusions j).high ≡ l.root;
  order : (i : ℕ) → i < length l.taken.items → get_or l.taken.items i 0 ≡ taken_by l.values (exclusion_at l.exclusions (l.fn.from + i));
  all : (j : ℕ) → l.fn.from ≤ j → j < l.next → Contains l.taken.items (taken_by l.values (exclusion_at l.exclusions j));
}

abbrev pub decreases-loop-next : goal.decreases-loop-next
decreases-loop-next l = length l.exclusions - l.next
