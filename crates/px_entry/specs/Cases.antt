-- The ways to meet one required atom.
use Rattle.std.specs.Prelude.{ℕ, suc, ◌&&◌, not, Bool, true, false, nat_eq, List, [], ◌∷◌, ◌++◌}
use Rattle.px_terms.specs.declared.types.TypeId.{TypeId}
use Rattle.px_terms.specs.declared.variables.VarInfo.{VarInfo}
use Rattle.px_terms.specs.declared.conjuncts.Place.{Place}
use Rattle.px_terms.specs.declared.conjuncts.Place.TheVariants as place
use Rattle.px_terms.specs.declared.conjuncts.Conj.TheVariants.{SamePlace}
use Rattle.px_entry.specs.declared.atoms.Atom.{Atom}
use Rattle.px_entry.specs.declared.atoms.AtomState.{AtomState}
use Rattle.px_entry.specs.declared.atoms.AtomState.TheVariants.{Live, Freed}
use Rattle.px_entry.specs.declared.atoms.Case.{Case}
use Rattle.px_entry.specs.declared.atoms.Case.TheVariants as case
use Rattle.px_entry.specs.Sorts.{is_pointer, is_made}
use Rattle.px_entry.specs.Decided.{is_open}

abbrev pub is_freed : AtomState → Bool
is_freed (Live cells) = false
is_freed Freed = true

abbrev pub same_state : Bool → Bool → Bool
same_state true b = b
same_state false b = not b

-- the place may be that of the atom
abbrev pub may_be_at : List VarInfo → Place → Atom → Bool
may_be_at vars p a = is_open vars (SamePlace p (place.Var a.place))

-- the atom is of the block type and state that are required, and the place may be its place
abbrev pub is_match : List VarInfo → Place → TypeId → Bool → Atom → Bool
is_match vars p block freed a = nat_eq a.block.0 block.0 && same_state (is_freed a.state) freed && may_be_at vars p a

-- the numbers of the atoms that pass a test, from the n-th on
abbrev pub numbers_of : (ℕ → Atom → Bool) → ℕ → List Atom → List ℕ
numbers_of test n [] = []
numbers_of test n (a ∷ rest) = elim (test n a) [ true ↦ n ∷ numbers_of test (suc n) rest | false ↦ numbers_of test (suc n) rest ]

abbrev pub atom_cases : List ℕ → List Case
atom_cases [] = []
atom_cases (n ∷ ns) = case.Atom n ∷ atom_cases ns

-- a block that wasn't met yet may stand at a pointer that no `malloc` of the path gave
abbrev pub may_be_missing : List VarInfo → Place → Bool
may_be_missing vars place.Null = false
may_be_missing vars (place.Var x) = is_pointer vars x.0 && not (is_made vars x.0)

abbrev pub missing_case : Bool → List Case
missing_case true = case.Missing ∷ []
missing_case false = []

-- Each atom of that block type and state that isn't used, in order, and last a missing block.
abbrev pub cases_of : List VarInfo → List Atom → (ℕ → Bool) → Place → TypeId → Bool → List Case
cases_of vars atoms used p block freed =
    atom_cases (numbers_of (λ n a. not (used n) && is_match vars p block freed a) 0 atoms) ++ missing_case (may_be_missing vars p)
