-- The steps by which a way is taken.
use Rattle.std.specs.Prelude.{ℕ, Bool, true, false, List, [], ◌∷◌, ◌++◌, length, Option, Some, None, slice_get}
use Rattle.px_core.specs.CommandTree.{CommandTree, read, test, leave, load, store, malloc, free, input, call, divide}
use Rattle.px_core.specs.Control.{Item, Act, AfterHead}
use Rattle.px_entry.specs.declared.atoms.Atom.{Atom}
use Rattle.px_entry.specs.declared.derivations.Rule.{Rule}
use Rattle.px_entry.specs.declared.derivations.Rule.TheVariants as rule
use Rattle.px_entry.specs.declared.derivations.Step.{Step}
use Rattle.px_entry.specs.Cases.{is_freed}
use Rattle.px_callgraph.specs.declared.states.Way.{Way}
use Rattle.px_callgraph.specs.declared.states.Way.TheVariants as way
use Rattle.px_callgraph.specs.Calls.{Calling, Stage}
use Rattle.px_callgraph.specs.Alternatives.{Walk}
use Rattle.px_callgraph.specs.Derivations.{is_silent, live_rule, freed_rule}

-- ---- one step

abbrev pub choices_of : Way → List ℕ
choices_of (way.Atom n) = n ∷ []
choices_of _ = []

abbrev pub is_freed_atom : Option Atom → Bool
is_freed_atom None = false
is_freed_atom (Some a) = is_freed a.state

-- the way leads to a block that is freed
abbrev pub is_freed_way : List Atom → Way → Bool
is_freed_way atoms (way.Atom n) = is_freed_atom (slice_get atoms n)
is_freed_way atoms _ = false

-- the rule of a way through a pointer: that of a live block, of a freed one, or of null
abbrev pub pointer_rule : Rule → Rule → Rule → Bool → Way → Rule
pointer_rule by_live by_freed by_null false (way.Atom n) = by_live
pointer_rule by_live by_freed by_null true (way.Atom n) = by_freed
pointer_rule by_live by_freed by_null to_freed way.MissingLive = rule.MissingLive
pointer_rule by_live by_freed by_null to_freed way.MissingFreed = rule.MissingFreed
pointer_rule by_live by_freed by_null to_freed _ = by_null

abbrev pub read_rule : Way → Rule
read_rule way.Unwritten = rule.ReadUnwritten
read_rule _ = rule.ReadWritten

abbrev pub test_rule : Way → Rule
test_rule way.Then = rule.TestTrue
test_rule _ = rule.TestFalse

abbrev pub malloc_rule : Way → Rule
malloc_rule way.Made = rule.Alloc
malloc_rule _ = rule.AllocNull

abbrev pub divide_rule : Way → Rule
divide_rule way.ByZero = rule.DivideZero
divide_rule _ = rule.Divide

-- the rule by which a command's way is taken
abbrev pub command_rule : CommandTree → Bool → Way → Rule
command_rule (read slot site) to_freed name = read_rule name
command_rule (test to how a b site) to_freed name = test_rule name
command_rule leave to_freed name = rule.LeaveLoop
command_rule (load to at field block site) to_freed name = pointer_rule rule.Load rule.FreedAccess rule.NullAccess to_freed name
command_rule (store at field block from site) to_freed name = pointer_rule rule.Store rule.FreedAccess rule.NullAccess to_freed name
command_rule (malloc to block site) to_freed name = malloc_rule name
command_rule (free at block site) to_freed name = pointer_rule rule.Free rule.FreeTwice rule.FreeNull to_freed name
command_rule (input to site) to_freed name = rule.Input
command_rule (call to proc arguments site) to_freed name = rule.Call
command_rule (divide to a b site) to_freed name = divide_rule name
command_rule _ to_freed name = rule.Assign

abbrev pub item_rule : List Item → Bool → Way → Rule
item_rule (Act c ∷ k) to_freed name = command_rule c to_freed name
item_rule (AfterHead l ∷ k) to_freed name = rule.Unroll
item_rule _ to_freed name = rule.Assign

-- ---- all steps of an act

abbrev pub a_choice : Rule → ℕ → Step
a_choice r n = record { rule = r; choices = n ∷ [] }

-- the use of a block that is met: its atom is the next
abbrev pub use_steps : List Item → ℕ → Way → List Step
use_steps k next way.MissingLive = a_choice (live_rule k) next ∷ []
use_steps k next way.MissingFreed = a_choice (freed_rule k) next ∷ []
use_steps k next _ = []

-- none of what is silent; else one, and one more for a block that wasn't met
abbrev pub steps_of : List Item → List Atom → Way → List Step
steps_of k atoms name = elim (is_silent k) [
  | true ↦ []
  | false ↦ record { rule = item_rule k (is_freed_way atoms name) name; choices = choices_of name } ∷ use_steps k (length atoms) name
]

-- ---- the choices of a call

-- what a way within a call adds to the choices of the call's step: an entry's number, an atom's, or that of the atoms
-- that there are where the block wasn't met yet
abbrev pub choice_of : ℕ → Way → Option ℕ
choice_of atoms (way.Entry n) = Some n
choice_of atoms (way.Atom n) = Some n
choice_of atoms way.Missing = Some atoms
choice_of atoms _ = None

-- after the choices of the last step
abbrev pub with_choice : ℕ → List Step → List Step
with_choice n [] = []
with_choice n (st ∷ []) = record { rule = st.rule; choices = st.choices ++ n ∷ [] } ∷ []
with_choice n (st ∷ next ∷ rest) = st ∷ with_choice n (next ∷ rest)

abbrev pub with_choices : Option ℕ → List Step → List Step
with_choices None steps = steps
with_choices (Some n) steps = with_choice n steps

-- ---- the steps of a path

abbrev pub steps_by : Option (Calling × Stage) → List Item → List Atom → Way → List Step → List Step
steps_by None k atoms name steps = steps ++ steps_of k atoms name
steps_by (Some c) k atoms name steps = with_choices (choice_of (length atoms) name) steps

-- Those so far, and then those by which the way is taken. A call is one step: a way within it is a choice of that step.
abbrev pub steps_with : Walk → Way → List Step → List Step
steps_with w name steps = steps_by w.call w.control w.state.atoms name steps
