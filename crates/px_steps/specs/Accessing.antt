-- What an access does, how much it adds to a state, and where it leads where no limit is passed.
use Rattle.std.specs.Prelude.{ℕ, ◌||◌, Bool, true, false, List, length, Option, Some, None, slice_get}
use Rattle.px_terms.specs.declared.types.TypeId.{TypeId}
use Rattle.px_terms.specs.declared.types.BlockType.{BlockType}
use Rattle.px_terms.specs.declared.conjuncts.Place.{Place}
use Rattle.px_terms.specs.declared.conjuncts.Place.TheVariants as place
use Rattle.px_terms.specs.declared.conjuncts.Conj.{Conj}
use Rattle.px_terms.specs.declared.conjuncts.Conj.TheVariants.{SamePlace}
use Rattle.px_base.specs.declared.trace.Site.{Site}
use Rattle.px_core.specs.CommandTree.{CommandTree, load, store, free}
use Rattle.px_entry.specs.declared.atoms.Atom.{Atom}
use Rattle.px_entry.specs.Decided.{is_true, decided, stands_in}
use Rattle.px_callgraph.specs.declared.states.State.{State}
use Rattle.px_callgraph.specs.declared.states.Way.{Way}
use Rattle.px_callgraph.specs.declared.states.Way.TheVariants as way
use Rattle.px_callgraph.specs.declared.outcomes.StepOutcome.{StepOutcome}
use Rattle.px_callgraph.specs.States.{Done}
use Rattle.px_callgraph.specs.Accesses as spec
use Rattle.px_callgraph.specs.Accesses.{block_cells}
use Rattle.px_callgraph.specs.Alternatives.{led}
use Rattle.px_match.specs.declared.path_limits.Growth.{Growth}
use Rattle.px_steps.specs.declared.accesses.Access.{Access}
use Rattle.px_steps.specs.declared.accesses.Effect.{Effect}
use Rattle.px_steps.specs.declared.accesses.Effect.TheVariants.{Load, Store, Free}

-- a command that goes through a pointer
abbrev pub is_access : CommandTree → Bool
is_access (load to at field block site) = true
is_access (store at field block from site) = true
is_access (free at block site) = true
is_access _ = false

-- what a command does with the block to which it comes
abbrev pub effect_at : Site → Effect → spec.Access
effect_at site (Load to field) = spec.load_access to field.0 site
effect_at site (Store field content) = spec.store_access field.0 content site
effect_at site Free = spec.free_access site

abbrev pub used_by : TypeId → Site → Effect → Access
used_by block site effect = record { block = block; site = site; effect = effect }

abbrev pub access_of : Access → spec.Access
access_of a = effect_at a.site a.effect

-- where an act leads that passes no limit
abbrev pub led_freely : Done → StepOutcome State
led_freely d = led d.state d (λ t. t) d.outcome

-- ---- how much an access adds

-- a command that adds so much
abbrev pub adding : ℕ → ℕ → ℕ → ℕ → Growth
adding marks conjuncts atoms variables =
    record { marks = marks; commands = 1; conjuncts = conjuncts; atoms = atoms; variables = variables; long_term = false }

-- a conjunct that is known adds nothing
abbrev pub conjuncts_added : State → Conj → ℕ
conjuncts_added s c = elim (is_true (decided s.vars c) || stands_in s.pure c) [ true ↦ 0 | false ↦ 1 ]

abbrev pub atom_growth : State → Place → Option Atom → Growth
atom_growth s p None = adding 0 0 0 0
atom_growth s p (Some a) = adding 1 (conjuncts_added s (SamePlace p (place.Var a.place))) 0 0

abbrev pub missing_growth : Place → ℕ → Growth
missing_growth place.Null cells = adding 0 0 0 0
missing_growth (place.Var x) cells = adding 1 0 1 cells

abbrev pub access_growth : List BlockType → State → TypeId → Place → Way → Growth
access_growth types s block p way.Null = adding 1 (conjuncts_added s (SamePlace p place.Null)) 0 0
access_growth types s block p (way.Atom n) = atom_growth s p (slice_get s.atoms n)
access_growth types s block p way.MissingLive = missing_growth p (length (block_cells types block))
access_growth types s block p way.MissingFreed = missing_growth p 0
access_growth types s block p _ = adding 0 0 0 0
