-- Well-formed states: what a path keeps, so that its entries are regular and its steps those of the machine.
use Rattle.std.specs.List.{list_all}
use Rattle.std.specs.Prelude.{◌≡◌, [], ℕ, ◌+◌, ◌<◌, Bool, true, not, nat_eq, ◌||◌, Option, Some, None, List, ◌∷◌, ◌++◌, map, slice_get, ◌≢◌, ◌⊎◌, length, cond}
use Rattle.px_base.specs.declared.trace.Site.{Site}
use Rattle.px_terms.specs.Polynomials.{IsPolynomial}
use Rattle.px_terms.specs.Variables.{variables_of}
use Rattle.px_terms.specs.declared.conjuncts.Conj.TheVariants as conjunct
use Rattle.px_terms.specs.declared.conjuncts.Conj.{Conj}
use Rattle.px_terms.specs.declared.conjuncts.Content.TheVariants.{Unwritten, Word, Place, Cell}
use Rattle.px_terms.specs.declared.conjuncts.Content.{Content}
use Rattle.px_terms.specs.declared.conjuncts.Place.TheVariants as place
use Rattle.px_terms.specs.declared.types.BlockType.{BlockType}
use Rattle.px_terms.specs.declared.types.ValueType.{ValueType}
use Rattle.px_terms.specs.declared.variables.VarInfo.{VarInfo}
use Rattle.px_core.specs.CommandTree.{CommandTree, choose, loop, call, CommandTrees, no_commands, a_command}
use Rattle.px_core.specs.Constants.{KeepsToRange, KeepToRange}
use Rattle.px_core.specs.Control.{Turns, Item, Act, AfterHead, AfterBody, AfterStep}
use Rattle.px_entry.specs.Constraint.{found_atoms, made_atoms}
use Rattle.px_entry.specs.Contents.{fits_cell}
use Rattle.px_entry.specs.Regular.{is_said_written, points_to_block, fits_block, state_cells, is_own_cell, are_inputs_words, cells_of, are_reached, same_blocks}
use Rattle.px_entry.specs.Sorts.{is_cell_sort, is_cell, is_int, is_pointer, is_made_sort, is_made, is_given_sort, is_input}
use Rattle.px_entry.specs.declared.atoms.Atom.{Atom}
use Rattle.px_entry.specs.declared.entries.Exit.TheVariants.{Ok, Error}
use Rattle.px_entry.proofs.Lists.{Each}
use Rattle.px_callgraph.specs.declared.outcomes.StepOutcome.TheVariants.{Next, Ends, Cut, Past}
use Rattle.px_callgraph.specs.Alternatives.{Leads}
use Rattle.px_callgraph.specs.Callees.{NamedIn}
use Rattle.px_callgraph.specs.JobTree.{JobTree}
use Rattle.px_callgraph.specs.States.{given_variables, Outcome, goes, ends, past, drops}
use Rattle.px_callgraph.specs.declared.states.State.{State}

-- ---- contents

-- the variable may be used as a word or a place: that of a cell is said to be written
abbrev pub is_usable : List VarInfo → List Conj → ℕ → Bool
is_usable vars pure x = not (is_cell vars x) || is_said_written pure x

abbrev pub UsableWord : List VarInfo → List Conj → ℕ → Type 0
UsableWord vars pure x = (is_int vars x ≡ true) × (is_usable vars pure x ≡ true)

-- a content of a state with these variables and conjuncts: terms are in normal form and use variables by their types,
-- and what stands in a cell was read before it is used
abbrev pub Good : List VarInfo → List Conj → Content → Type 0
Good vars pure Unwritten = Unit {0}
Good vars pure (Word p) = IsPolynomial p × Each (UsableWord vars pure) (variables_of p)
Good vars pure (Place place.Null) = Unit {0}
Good vars pure (Place (place.Var x)) = (is_pointer vars x.0 ≡ true) × (is_usable vars pure x.0 ≡ true)
Good vars pure (Cell x) = is_cell vars x.0 ≡ true

-- ---- well-typed states

-- an atom at a pointer to its block type, whose contents fit their cells
pub record GoodAtom (types : List BlockType) (vars : List VarInfo) (pure : List Conj) (a : Atom) : Type 0 where
  pub points : points_to_block vars a ≡ true
  pub usable : is_usable vars pure a.place.0 ≡ true
  pub fits : fits_block types (fits_cell vars) a ≡ true
  pub cells : Each (Good vars pure) (state_cells a.state)

-- a made place is that of no other atom
abbrev pub OwnPlaces : List VarInfo → List Atom → Type 0
OwnPlaces vars [] = Unit {0}
OwnPlaces vars (a ∷ rest) = Each (λ (b : Atom). (is_made vars a.place.0 ≡ true) ⊎ (is_made vars b.place.0 ≡ true) → a.place.0 ≢ b.place.0) rest × OwnPlaces vars rest

-- good contents in slots and blocks, and made blocks at places of their own
pub record WellTyped (types : List BlockType) (s : State) : Type 0 where
  pub slots : Each (Good s.vars s.pure) s.slots
  pub atoms : Each (GoodAtom types s.vars s.pure) s.atoms
  pub own : OwnPlaces s.vars s.atoms

-- ---- states whose entries are regular

-- how often a number stands in a list
abbrev pub times : ℕ → List ℕ → ℕ
times x [] = 0
times x (y ∷ ys) = cond (nat_eq x y) (1 + times x ys) (times x ys)

-- variables are used by their types, those of cells are said to be written, and quotients are inputs
abbrev pub GoodConj : List VarInfo → List Conj → Conj → Type 0
GoodConj vars pure (conjunct.Equal p) = Each (UsableWord vars pure) (variables_of p)
GoodConj vars pure (conjunct.Unequal p) = Each (UsableWord vars pure) (variables_of p)
GoodConj vars pure (conjunct.Less p q) = Each (UsableWord vars pure) (variables_of p) × Each (UsableWord vars pure) (variables_of q)
GoodConj vars pure (conjunct.AtMost p q) = Each (UsableWord vars pure) (variables_of p) × Each (UsableWord vars pure) (variables_of q)
GoodConj vars pure (conjunct.SamePlace a b) = Good vars pure (Place a) × Good vars pure (Place b)
GoodConj vars pure (conjunct.OtherPlace a b) = Good vars pure (Place a) × Good vars pure (Place b)
GoodConj vars pure (conjunct.Written x) = (x.0 < length vars) × (is_usable vars pure x.0 ≡ true)
GoodConj vars pure (conjunct.Unwritten x) = x.0 < length vars
GoodConj vars pure (conjunct.Quotient x p q) = (is_input vars x.0 ≡ true) × UsableWord vars pure x.0 × Each (UsableWord vars pure) (variables_of p) × Each (UsableWord vars pure) (variables_of q)

-- a block that was found
pub record GoodFound (types : List BlockType) (vars : List VarInfo) (pure : List Conj) (a : Atom) : Type 0 where
  pub points : points_to_block vars a ≡ true
  pub usable : is_usable vars pure a.place.0 ≡ true
  pub fits : fits_block types (is_own_cell vars) a ≡ true

-- each variable of such a sort stands once in the list
abbrev pub Once : (VarInfo → Bool) → List ℕ → List VarInfo → Type 0
Once such xs vars = (x : ℕ) (i : VarInfo) → slice_get vars x ≡ Some i → such i ≡ true → times x xs ≡ 1

abbrev pub made_places : List VarInfo → List Atom → List ℕ
made_places vars atoms = map (λ (a : Atom). a.place.0) (made_atoms vars atoms)

-- what an entry that is made of the state needs to be regular
pub record Complete (types : List BlockType) (parameters : List ValueType) (vars : List VarInfo) (pure : List Conj) (pre atoms : List Atom) : Type 0 where
  pub more : List VarInfo
  pub split : vars ≡ given_variables parameters ++ more
  pub others : list_all (λ (i : VarInfo). not (is_given_sort i.sort)) more ≡ true
  pub words : are_inputs_words vars ≡ true
  pub conjuncts : Each (GoodConj vars pure) pure
  pub found : Each (GoodFound types vars pure) pre
  pub cells : Once (λ i. is_cell_sort i.sort) (cells_of pre) vars
  pub below : Each (λ x. x < length vars) (cells_of pre)
  pub reached : are_reached vars [] pre ≡ true
  pub blocks : same_blocks pre (found_atoms vars atoms) ≡ true
  pub made : Once (λ i. is_made_sort i.sort) (made_places vars atoms) vars

abbrev pub CompleteAt : JobTree → State → Type 0
CompleteAt j s = Complete j.types j.body.parameters s.vars s.pure s.pre s.atoms

-- ---- ends

-- a content of the type of the results
abbrev pub FitsResults : List VarInfo → Option ValueType → Content → Type 0
FitsResults vars None c = ⊥
FitsResults vars (Some t) c = fits_cell vars t c ≡ true

abbrev pub ResultWell : JobTree → State → Option Content → Type 0
ResultWell j s None = Unit {0}
ResultWell j s (Some c) = Good s.vars s.pure c × FitsResults s.vars j.body.result c

abbrev pub EndsWell : JobTree → State → Outcome → Type 0
EndsWell j s goes = Unit {0}
EndsWell j s past = Unit {0}
EndsWell j s (drops word) = Unit {0}
EndsWell j s (ends Ok r) = ResultWell j s r
EndsWell j s (ends (Error kind site) r) = r ≡ None

-- ---- what is still to be done

-- each procedure that a command calls, or one that stands in it, is such
abbrev mutual
  pub NamesOnly : (ℕ → Type 0) → CommandTree → Type 0
  NamesOnly Such (choose slot first second) = NameOnly Such first × NameOnly Such second
  NamesOnly Such (loop site head body step) = NameOnly Such head × NameOnly Such body × NameOnly Such step
  NamesOnly Such (call to proc arguments site) = Such proc.0
  NamesOnly Such _ = Unit {0}

  pub NameOnly : (ℕ → Type 0) → CommandTrees → Type 0
  NameOnly Such no_commands = Unit {0}
  NameOnly Such (a_command c rest) = NamesOnly Such c × NameOnly Such rest

abbrev pub CommandKeeps : (ℕ → Type 0) → CommandTree → Type 0
CommandKeeps Such c = KeepsToRange c × NamesOnly Such c

abbrev pub CommandsKeep : (ℕ → Type 0) → CommandTrees → Type 0
CommandsKeep Such cs = KeepToRange cs × NameOnly Such cs

abbrev pub LoopKeeps : (ℕ → Type 0) → Turns → Type 0
LoopKeeps Such l = CommandsKeep Such l.head × CommandsKeep Such l.body × CommandsKeep Such l.step

abbrev pub ItemsKeep : (ℕ → Type 0) → List Item → Type 0
ItemsKeep Such [] = Unit {0}
ItemsKeep Such (Act c ∷ k) = CommandKeeps Such c × ItemsKeep Such k
ItemsKeep Such (AfterHead l ∷ k) = LoopKeeps Such l × ItemsKeep Such k
ItemsKeep Such (AfterBody l ∷ k) = LoopKeeps Such l × ItemsKeep Such k
ItemsKeep Such (AfterStep l ∷ k) = LoopKeeps Such l × ItemsKeep Such k

-- the state's open loops, outermost first, are those of the items
abbrev pub Opens : List Item → List (Site × ℕ) → Type 0
Opens [] loops = loops ≡ []
Opens (Act c ∷ k) loops = Opens k loops
Opens (AfterHead l ∷ k) loops = (rest : List (Site × ℕ)) × (m : ℕ) × (loops ≡ rest ++ (l.site, m) ∷ []) × Opens k rest
Opens (AfterBody l ∷ k) loops = (rest : List (Site × ℕ)) × (m : ℕ) × (loops ≡ rest ++ (l.site, m) ∷ []) × Opens k rest
Opens (AfterStep l ∷ k) loops = (rest : List (Site × ℕ)) × (m : ℕ) × (loops ≡ rest ++ (l.site, m) ∷ []) × Opens k rest

-- ---- well-formed states

-- a state of a path, with what is still to be done there
pub record WellFormed (j : JobTree) (s : State) (k : List Item) : Type 0 where
  pub well_typed : WellTyped j.types s
  pub complete : CompleteAt j s
  pub keeps : ItemsKeep (λ f. NamedIn f j.body.commands) k
  pub opens : Opens k s.loops

-- so it is where an act leads; no call is going on there
abbrev pub WellFormedLeads : JobTree → Leads → Type 0
WellFormedLeads j (Next w) = (w.call ≡ None) × WellFormed j w.state w.control
WellFormedLeads j (Ends s exit result) = WellTyped j.types s × EndsWell j s (ends exit result) × CompleteAt j s
WellFormedLeads j (Cut s gap) = Unit {0}
WellFormedLeads j (Past s) = Unit {0}
