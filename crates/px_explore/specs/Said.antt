-- What a way adds to what is assumed, known before it is taken.
use Rattle.std.specs.Prelude.{◌≡◌, ℕ, false, [], ◌∷◌, ◌++◌, Contains, Option, Some, None, slice_get, option_map}
use Rattle.px_terms.specs.declared.types.TypeId.{TypeId}
use Rattle.px_terms.specs.declared.variables.Var.{Var}
use Rattle.px_terms.specs.declared.variables.VarInfo.{VarInfo}
use Rattle.px_terms.specs.declared.conjuncts.Content.TheVariants.{Cell}
use Rattle.px_terms.specs.declared.conjuncts.Place.{Place}
use Rattle.px_terms.specs.declared.conjuncts.Place.TheVariants as place
use Rattle.px_terms.specs.declared.conjuncts.Conj.{Conj}
use Rattle.px_terms.specs.declared.conjuncts.Conj.TheVariants.{SamePlace, Written, Unwritten}
use Rattle.px_core.specs.declared.command.Comparison.{Comparison}
use Rattle.px_core.specs.declared.command.Operand.{Operand}
use Rattle.px_entry.specs.declared.atoms.Atom.{Atom}
use Rattle.px_entry.specs.Sorts.{is_long_conjunct}
use Rattle.px_entry.specs.Decided.{assume, is_true, decided}
use Rattle.px_callgraph.specs.declared.states.State.{State}
use Rattle.px_callgraph.specs.declared.states.Way.{Way}
use Rattle.px_callgraph.specs.declared.states.Way.TheVariants as way
use Rattle.px_callgraph.specs.JobTree.{JobTree}
use Rattle.px_callgraph.specs.States.{content_at, operand_content}
use Rattle.px_callgraph.specs.Operations.{condition, contrary}
use Rattle.px_callgraph.specs.Accesses.{accessed}
use Rattle.px_callgraph.specs.Alternatives.{Walk, act}
use Rattle.px_callgraph.specs.ActsLeft.{state_of}
use Rattle.px_match.specs.declared.path_limits.Growth.{Growth}
use Rattle.px_match.specs.PathLimits.{passes_grown}

-- the conjunct is assumed where the way leads, and no variable is new there
pub record Says (j : JobTree) (w : Walk) (name : Way) (c : Conj) : Type 0 where
  pub vars : (state_of (act j w name)).vars ≡ w.state.vars
  pub conjunct : Contains (state_of (act j w name)).pure c

-- a command with one mark and one conjunct
abbrev pub one_conjunct : Growth
one_conjunct = record { marks = 1; commands = 1; conjuncts = 1; atoms = 0; variables = 0; long_term = false }

-- it is new, and there is room for it
pub record IsNew (s : State) (c : Conj) : Type 0 where
  pub added : assume s.vars s.pure c ≡ s.pure ++ c ∷ []
  pub room : passes_grown s one_conjunct ≡ None

-- it isn't decided true, and there is room for it: it is new, unless it is one of those that are assumed
pub record MayAdd (s : State) (c : Conj) : Type 0 where
  pub undecided : is_true (decided s.vars c) ≡ false
  pub room : passes_grown s one_conjunct ≡ None

-- what a read takes a cell to be by a way
abbrev pub told : Var → Way → Option Conj
told x way.Written = Some (Written x)
told x way.Unwritten = Some (Unwritten x)
told x _ = None

pub record IsRead (s : State) (slot : ℕ) (name : Way) (c : Conj) : Type 0 where
  pub cell : Var
  pub cell_is : content_at s.slots slot ≡ Cell cell
  pub info : VarInfo
  pub info_is : slice_get s.vars cell.0 ≡ Some info
  pub told_is : told cell name ≡ Some c
  pub new : IsNew s c

-- what a test assumes by a way
abbrev pub side : State → Comparison → Operand → Operand → Way → Option Conj
side s how a b way.Then = condition how (operand_content s a) (operand_content s b)
side s how a b way.Else = contrary how (operand_content s a) (operand_content s b)
side s how a b _ = None

pub record IsTested (s : State) (how : Comparison) (a b : Operand) (name : Way) (c : Conj) : Type 0 where
  pub side_is : side s how a b name ≡ Some c
  pub short : is_long_conjunct c ≡ false
  pub new : IsNew s c

-- the place that an access takes a pointer to be by a way
abbrev pub joined_place : State → Way → Option Place
joined_place s way.Null = Some place.Null
joined_place s (way.Atom n) = option_map (λ (a : Atom). place.Var a.place) (slice_get s.atoms n)
joined_place s _ = None

pub record IsJoined (s : State) (block : TypeId) (at : Operand) (name : Way) (c : Conj) : Type 0 where
  pub first : Place
  pub second : Place
  pub first_is : accessed s.vars block (operand_content s at) ≡ Some first
  pub second_is : joined_place s name ≡ Some second
  pub conjunct_is : c ≡ SamePlace first second
  pub new : IsNew s c
