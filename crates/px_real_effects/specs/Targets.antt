-- What an assignment writes to.
use Rattle.std.specs.Prelude.{ℕ, List, [], ◌∷◌, Option, Some, None}
use Rattle.px_base.specs.declared.trace.Site.{Site}
use Rattle.px_terms.specs.declared.types.TypeId.{TypeId}
use Rattle.px_expressions.specs.Reading.{or_else}
use Rattle.px_syntax.specs.TypedTree as T
use Rattle.px_syntax.specs.TypedTree.{Expression, Place}
use Rattle.px_real_types.specs.declared.shape.ProfileType.{ProfileType}
use Rattle.px_real_values.specs.Environment.{Environment}
use Rattle.px_real_values.specs.Operands.{Operand, of_type, a_name, a_member, outside, a_struct, an_object, stopped, stop, parts}

pub data Target : Type 0 where
  -- a local or a cell of the profile, of this type
  a_place : ProfileType → Place → Target
  -- a member that is outside, of what a pointer points to: an access with this block type at this site
  an_access : Expression → TypeId → Site → Target
  -- what else is outside: these parts are evaluated
  away : List Expression → Target
  -- a `Stop`
  nowhere : Expression → Target

-- the place that an expression has the value of
abbrev pub place_of : Expression → Option Place
place_of (T.local n site) = Some (T.local_place n site)
place_of (T.cell e field block site) = Some (T.cell_place e field block site)
place_of _ = None

-- what the pointer to a place needs
abbrev pub pointer_of : Place → List Expression
pointer_of (T.local_place n site) = []
pointer_of (T.cell_place e field block site) = e ∷ []

-- what an operator with this text at this site writes to: no value is a place but a local and a cell
abbrev pub target : Environment → List ℕ → Site → Operand → Target
target env text site (of_type t at e) = or_else (place_of e) (a_place t) (nowhere (stop (e ∷ []) (env.word_number text) site))
target env text site (a_name callee k word at) = away []
target env text site (a_member k e block access word at) = an_access e block access
target env text site (outside k ps word at) = away ps
target env text site (a_struct n e word at) = nowhere (stop (e ∷ []) word at)
target env text site (an_object k ps word at) = nowhere (stop ps word at)
target env text site (stopped ps word at) = nowhere (stop ps word at)
target env text site a = nowhere (stop (parts env a) (env.word_number text) site)
