-- Names and places, as they are printed, and their order.
use Rattle.std.specs.Prelude.{ℕ, Bool, nat_eq, nat_lt, List, [], ◌∷◌, ◌++◌, codes, if◌then◌else◌, slice_index_or}
use Rattle.std.specs.Fmt.{decimal}
use Rattle.px_base.specs.declared.trace.Site.{Site}

abbrev pub line_feed : List ℕ
line_feed = 10 ∷ []

-- the name with this number, in a list of names
abbrev pub name_at : List (List ℕ) → ℕ → List ℕ
name_at names n = slice_index_or names n (codes "(none)")

-- FILE:L:C
abbrev pub place_text : List (List ℕ) → Site → List ℕ
place_text files site = name_at files site.file ++ (codes ":" ++ (decimal site.line ++ (codes ":" ++ decimal site.column)))

-- whether one place comes before another
abbrev pub comes_before : Site → Site → Bool
comes_before a b =
    if nat_eq a.file b.file then (if nat_eq a.line b.line then nat_lt a.column b.column else nat_lt a.line b.line) else nat_lt a.file b.file
