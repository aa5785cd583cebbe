-- The bounds of an analysis, as numbers.
use Rattle.std.specs.Prelude.{ℕ, ◌≤◌}
use Rattle.px_base.specs.declared.limits.LimitField.{LimitField}
use Rattle.px_base.specs.declared.limits.LimitField.TheVariants.{Unroll, Paths, Nodes}

pub record LimitNumbers : Type 0 where
  pub unroll : ℕ
  pub paths : ℕ
  pub nodes : ℕ

-- the least and the most that each number may be
abbrev pub least_of : LimitField → ℕ
least_of field = 1

abbrev pub most_of : LimitField → ℕ
most_of Unroll = 16
most_of Paths = 128
most_of Nodes = 100000

abbrev pub number_of : LimitNumbers → LimitField → ℕ
number_of l Unroll = l.unroll
number_of l Paths = l.paths
number_of l Nodes = l.nodes

abbrev pub IsFieldInRange : LimitNumbers → LimitField → Type 0
IsFieldInRange l field = (least_of field ≤ number_of l field) × (number_of l field ≤ most_of field)

abbrev pub IsInRange : LimitNumbers → Type 0
IsInRange l = IsFieldInRange l Unroll × (IsFieldInRange l Paths × IsFieldInRange l Nodes)

-- this number is out of range, and those before it aren't
abbrev pub IsFirstOutOfRange : LimitNumbers → LimitField → Type 0
IsFirstOutOfRange l Unroll = ¬ IsFieldInRange l Unroll
IsFirstOutOfRange l Paths = IsFieldInRange l Unroll × ¬ IsFieldInRange l Paths
IsFirstOutOfRange l Nodes = IsFieldInRange l Unroll × (IsFieldInRange l Paths × ¬ IsFieldInRange l Nodes)
