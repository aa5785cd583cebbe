-- The statuses, as numbers.
use Rattle.std.specs.Prelude.{ℕ}
use Rattle.px_lines.specs.declared.status.Status.{Status}
use Rattle.px_lines.specs.declared.status.Status.TheVariants as S

-- the number with which a program ends
abbrev pub number_of : Status → ℕ
number_of S.Done = 0
number_of S.Bug = 1
number_of S.Usage = 2
number_of S.Unread = 3
number_of S.Unwritten = 4
number_of S.Refused = 5
number_of S.NoMemory = 6
number_of S.BadInput = 7
