-- What makes a conjunct's value known, and the places of blocks.
use Rattle.std.specs.Prelude.{ℕ, ◌<◌, true, false, List, [], map, filter, All}
use Rattle.px_terms.specs.Variables.{mentioned}
use Rattle.px_terms.specs.declared.variables.VarInfo.{VarInfo}
use Rattle.px_terms.specs.declared.conjuncts.Place.TheVariants as place
use Rattle.px_terms.specs.declared.conjuncts.Conj.{Conj}
use Rattle.px_terms.specs.declared.conjuncts.Conj.TheVariants.{OtherPlace}
use Rattle.px_entry.specs.declared.atoms.Atom.{Atom}
use Rattle.px_entry.specs.Sorts.{is_made}
use Rattle.px_entry.specs.Constraint.{found_atoms, same_block, apart_from}

-- conjuncts mention the first n variables alone
abbrev pub AreInside : ℕ → List Conj → Type 0
AreInside n conjuncts = All (λ c. All (λ x. x < n) (mentioned c)) conjuncts

-- the places of blocks are among the first n variables
abbrev pub HavePlaces : ℕ → List Atom → Type 0
HavePlaces n atoms = All (λ (a : Atom). a.place.0 < n) atoms

-- the place of a block differs from that of each of these with its block type
abbrev pub apart_from_each : Atom → List Atom → List Conj
apart_from_each a others = map (λ (b : Atom). OtherPlace (place.Var a.place) (place.Var b.place)) (filter (same_block a) others)

-- what a block says beside those before it; nothing where its place is made
abbrev pub apart_found : List VarInfo → List Atom → Atom → List Conj
apart_found vars earlier a = elim (is_made vars a.place.0) [ true ↦ [] | false ↦ apart_from (found_atoms vars earlier) a ]
