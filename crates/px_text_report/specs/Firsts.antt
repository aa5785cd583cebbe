-- The first of each kind of item.
use Rattle.std.specs.Prelude.{Bool, List, [], ◌∷◌, ◌++◌, if◌then◌else◌}
use Rattle.std.specs.List.{list_any}

-- the items that are the same as none of these and as none before them
abbrev pub others : {A : Type 0} → (A → A → Bool) → List A → List A → List A
others same these [] = []
others same these (x ∷ xs) = if list_any (same x) these then others same these xs else x ∷ others same (these ++ x ∷ []) xs

-- the items that are the same as none before them
abbrev pub firsts : {A : Type 0} → (A → A → Bool) → List A → List A
firsts same xs = others same [] xs
