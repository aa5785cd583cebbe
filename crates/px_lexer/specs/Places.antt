-- Where bytes stand.
use Rattle.std.specs.Prelude.{ℕ, ◌+◌, ◌-◌, ◌==◌, nat_le, List, [], ◌∷◌, slice_index, if◌then◌else◌}
use Rattle.std.specs.List.{prefix_len}
use Rattle.px_base.specs.declared.trace.Site.{Site}

-- where lines begin in these bytes, of which the first stands at the place `at`: after each line feed
unfoldable pub line_starts : ℕ → List ℕ → List ℕ
line_starts at [] = []
line_starts at (b ∷ bs) = if b == 10 then (at + 1) ∷ line_starts (at + 1) bs else line_starts (at + 1) bs

-- how many of the lines begin at a byte or before it
abbrev pub lines_before : List ℕ → ℕ → ℕ
lines_before starts at = prefix_len (λ start. nat_le start at) starts

-- the site of a byte of a file in which lines begin there, and the first at 0
abbrev pub site_at : ℕ → List ℕ → ℕ → Site
site_at file starts at = record {
  file = file;
  line = lines_before starts at + 1;
  column = at - slice_index (0 ∷ starts) (lines_before starts at) + 1;
}
