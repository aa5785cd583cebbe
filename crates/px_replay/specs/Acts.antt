-- What an act finds in the script that it follows.
use Rattle.std.specs.Prelude.{◌≡◌, List, ◌∷◌}
use Rattle.px_base.specs.declared.trace.Mark.{Mark}

-- the next mark isn't this one
abbrev pub IsOther : Mark → List Mark → Type 0
IsOther m before = (rest : List Mark) → before ≡ m ∷ rest → ⊥
