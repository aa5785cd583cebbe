-- The constraint of a path: its conjuncts, and what its atoms add.
use Rattle.std.specs.Prelude.{not, Bool, nat_eq, List, [], ◌∷◌, ◌++◌, map, filter}
use Rattle.px_terms.specs.declared.variables.VarInfo.{VarInfo}
use Rattle.px_terms.specs.declared.conjuncts.Place.TheVariants as place
use Rattle.px_terms.specs.declared.conjuncts.Conj.{Conj}
use Rattle.px_terms.specs.declared.conjuncts.Conj.TheVariants.{OtherPlace}
use Rattle.px_entry.specs.declared.atoms.Atom.{Atom}
use Rattle.px_entry.specs.Sorts.{is_made}

-- the atoms whose place isn't made, and those whose place is
abbrev pub found_atoms : List VarInfo → List Atom → List Atom
found_atoms vars atoms = filter (λ a. not (is_made vars a.place.0)) atoms

abbrev pub made_atoms : List VarInfo → List Atom → List Atom
made_atoms vars atoms = filter (λ a. is_made vars a.place.0) atoms

abbrev pub same_block : Atom → Atom → Bool
same_block a b = nat_eq a.block.0 b.block.0

-- the place isn't null, and differs from that of each earlier atom of its block type
abbrev pub apart_from : List Atom → Atom → List Conj
apart_from earlier a =
    OtherPlace (place.Var a.place) place.Null ∷ map (λ (b : Atom). OtherPlace (place.Var a.place) (place.Var b.place)) (filter (same_block a) earlier)

abbrev pub apart_all : List Atom → List Atom → List Conj
apart_all earlier [] = []
apart_all earlier (a ∷ rest) = apart_from earlier a ++ apart_all (earlier ++ a ∷ []) rest

-- what atoms say of their places: those that aren't made are blocks, each of its own
abbrev pub separate : List VarInfo → List Atom → List Conj
separate vars atoms = apart_all [] (found_atoms vars atoms)

-- the constraint
abbrev pub constraint_of : List VarInfo → List Conj → List Atom → List Conj
constraint_of vars pure atoms = pure ++ separate vars atoms
