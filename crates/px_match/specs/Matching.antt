-- One case.
use Rattle.std.specs.Prelude.{ℕ, Bool, true, false, List, [], ◌∷◌}
use Rattle.px_entry.specs.declared.atoms.Case.{Case}
use Rattle.px_entry.specs.declared.atoms.Case.TheVariants as case

-- the case of an atom's number, where it is one
abbrev pub case_if : Bool → ℕ → List Case
case_if true n = case.Atom n ∷ []
case_if false n = []
