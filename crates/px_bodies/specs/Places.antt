-- How the code finds the local that a name means: by its place among the visible ones.
use Rattle.std.specs.Prelude.{◌≡◌, ℕ, ◌+◌, List, [], ◌∷◌, ◌++◌, map, Option, Some, None, bytes_eq, Bool, true, nat_lt}
use Rattle.std.specs.Option.{option_flatten}
use Rattle.std.specs.Map.{lookup}
use Rattle.std.specs.Borrow.{Bor}
use Rattle.px_bodies.specs.declared.locals.Declared.{Declared}
use Rattle.px_bodies.specs.Types.{when}
use Rattle.px_bodies.specs.Lent.{type_of}
use Rattle.px_bodies.specs.Locals.{Local, or_else}

abbrev pub local_seen : Declared → Local
local_seen d = record { name = d.name.now; number = d.number; type = type_of d.value }

-- the place of the last local of a name, counted from k
abbrev pub last_place : ℕ → List ℕ → List Local → Option ℕ
last_place k name [] = None
last_place k name (l ∷ ls) = or_else (last_place (k + 1) name ls) (when (bytes_eq l.name name) k)

-- for each local the place of the one that it hides, where these stand before them
abbrev pub hidden_places : List Local → List Local → List (Option ℕ)
hidden_places before [] = []
hidden_places before (l ∷ ls) = last_place 0 l.name before ∷ hidden_places (before ++ l ∷ []) ls

-- the table has the place of each name, and each local the place of the one that it hides
abbrev pub IsKept : List (Bor (List ℕ) × Option ℕ) → List Declared → Type 0
IsKept table locals =
    ((name : List ℕ) → option_flatten (lookup (λ k. bytes_eq name k.now) table) ≡ last_place 0 name (map local_seen locals))
    × (map (λ d. d.hidden) locals ≡ hidden_places [] (map local_seen locals))

-- a place, if there is one, stands before a scope that begins at `outer`
abbrev pub is_outside : Option ℕ → ℕ → Bool
is_outside None outer = true
is_outside (Some place) outer = nat_lt place outer
