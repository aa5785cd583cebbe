-- What an act adds to a state, as far as the limits of a path look at it.
use Rattle.std.specs.Prelude.{◌≡◌, ◌+◌, Bool, nat_lt, List, [], ◌∷◌, length, Option}
use Rattle.std.specs.List.{list_any}
use Rattle.px_base.specs.Bounds.{most_marks, most_steps, most_conjuncts, most_atoms, most_variables}
use Rattle.px_entry.specs.declared.tables.LongKind.{LongKind}
use Rattle.px_entry.specs.declared.tables.LongKind.TheVariants as long
use Rattle.px_entry.specs.Sorts.{is_long}
use Rattle.px_callgraph.specs.declared.states.State.{State}
use Rattle.px_callgraph.specs.States.{Done}
use Rattle.px_callgraph.specs.Alternatives.{first_true}
use Rattle.px_match.specs.declared.path_limits.Growth.{Growth}

-- the limits of a path in order, and whether a state that grows so passes them
abbrev pub limits_grown : State → Growth → List (Bool × LongKind)
limits_grown s g =
    (nat_lt most_marks (length s.trace + g.marks), long.Trace)
    ∷ (nat_lt most_steps (s.steps + g.commands), long.Steps)
    ∷ (nat_lt most_conjuncts (length s.pure + g.conjuncts), long.Conjuncts)
    ∷ (nat_lt most_atoms (length s.atoms + g.atoms), long.Atoms)
    ∷ (nat_lt most_variables (length s.vars + g.variables), long.Variables)
    ∷ (g.long_term, long.Term) ∷ []

-- the first that it passes
abbrev pub passes_grown : State → Growth → Option LongKind
passes_grown s g = first_true (limits_grown s g)

-- an act on a state adds so much
pub record Grows (s : State) (g : Growth) (d : Done) : Type 0 where
  pub marks : length d.state.trace ≡ length s.trace + g.marks
  pub commands : d.state.steps ≡ s.steps + g.commands
  pub conjuncts : length d.state.pure ≡ length s.pure + g.conjuncts
  pub atoms : length d.state.atoms ≡ length s.atoms + g.atoms
  pub variables : length d.state.vars ≡ length s.vars + g.variables
  pub long_term : list_any is_long d.terms ≡ g.long_term
