-- Which functions of a file are kept, and why others are left out.
use Rattle.std.specs.Prelude.{ℕ, List, [], ◌∷◌, take, drop, Option, Some, None, if◌then◌else◌}
use Rattle.px_real_links.specs.declared.fate.Fate.{Fate}
use Rattle.px_real_links.specs.declared.fate.Fate.TheVariants as F
use Rattle.px_real_links.specs.Files.{DefinitionTree, FileTree, is_named, has_name}

-- an item that isn't read, a function that is weak, and the second of one name are left out; of several reasons this is the order
abbrev pub fate_by : List (List ℕ) → List DefinitionTree → DefinitionTree → Fate
fate_by weak before d = if d.is_read then (if is_named weak d.name then F.Weak else (if has_name before d.name then F.Duplicate else F.Kept)) else F.Form

-- those from a number on, of which the first is looked at, where these stand before it
abbrev pub fate_among : List (List ℕ) → List DefinitionTree → List DefinitionTree → Option Fate
fate_among weak before [] = None
fate_among weak before (d ∷ ds) = Some (fate_by weak before d)

-- the fate of an item by its number
abbrev pub fate_of : FileTree → ℕ → Option Fate
fate_of f n = fate_among f.weak (take n f.definitions) (drop n f.definitions)
