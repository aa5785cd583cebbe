-- States, commands and a job for the worked alternatives.
use Rattle.std.specs.Prelude.{ℕ, List, [], ◌∷◌, Option, None}
use Rattle.px_base.specs.declared.trace.Site.{Site}
use Rattle.px_base.specs.declared.trace.Mark.{Mark}
use Rattle.px_base.specs.declared.trace.MarkKind.{MarkKind}
use Rattle.px_base.specs.declared.trace.ProcId.{ProcId}
use Rattle.px_base.specs.declared.trace.FieldId.{FieldId}
use Rattle.px_terms.specs.Terms.{Term}
use Rattle.px_terms.specs.Polynomials.{Polynomial}
use Rattle.px_terms.specs.declared.types.TypeId.{TypeId}
use Rattle.px_terms.specs.declared.types.ValueType.{ValueType}
use Rattle.px_terms.specs.declared.types.ValueType.TheVariants.{Int, Pointer}
use Rattle.px_terms.specs.declared.types.BlockType.TheVariants.{One, Fields, Opaque}
use Rattle.px_terms.specs.declared.variables.Var.{Var}
use Rattle.px_terms.specs.declared.variables.VarInfo.{VarInfo}
use Rattle.px_terms.specs.declared.variables.Sort.{Sort}
use Rattle.px_terms.specs.declared.conjuncts.Place.{Place as PlaceOf}
use Rattle.px_terms.specs.declared.conjuncts.Place.TheVariants as place
use Rattle.px_terms.specs.declared.conjuncts.Content.{Content}
use Rattle.px_terms.specs.declared.conjuncts.Content.TheVariants.{Word, Place}
use Rattle.px_core.specs.CommandTree.{no_commands}
use Rattle.px_entry.specs.declared.atoms.Atom.{Atom}
use Rattle.px_entry.specs.declared.atoms.AtomState.{AtomState}
use Rattle.px_entry.specs.declared.tables.Gap.{Gap}
use Rattle.px_entry.specs.declared.tables.Cause.{Cause}
use Rattle.px_callgraph.specs.declared.jobs.Callee.{Callee}
use Rattle.px_callgraph.specs.declared.states.State.{State}
use Rattle.px_callgraph.specs.JobTree.{JobTree}

-- ---- names

abbrev pub here : Site
here = record { file = 0; line = 1; column = 1 }

abbrev pub int_block : TypeId
int_block = record { 0 = 0 }

abbrev pub node : TypeId
node = record { 0 = 1 }

abbrev pub hidden : TypeId
hidden = record { 0 = 2 }

abbrev pub field : ℕ → FieldId
field n = record { 0 = n }

abbrev pub proc : ℕ → ProcId
proc n = record { 0 = n }

abbrev pub var : ℕ → Var
var n = record { 0 = n }

abbrev pub of_sort : Sort → ValueType → VarInfo
of_sort sort t = record { sort = sort; value = t }

-- ---- terms

abbrev pub times : ℕ → ℕ → Term
times c x = record { coefficient = c; vars = x ∷ [] }

-- a constant and some variables
abbrev pub poly : ℕ → List Term → Polynomial
poly c ts = record { constant = c; monomials = ts }

abbrev pub constant : ℕ → Polynomial
constant c = poly c []

abbrev pub x_plus : ℕ → ℕ → Polynomial
x_plus x c = poly c (times 1 x ∷ [])

abbrev pub word_of : ℕ → Content
word_of x = Word (x_plus x 0)

abbrev pub place_of : ℕ → Content
place_of x = Place (place.Var (var x))

abbrev pub is_at : ℕ → PlaceOf
is_at x = place.Var (var x)

abbrev pub a_block : ℕ → TypeId → AtomState → Atom
a_block x block state = record { place = var x; block = block; state = state }

-- ---- states

abbrev pub a_mark : MarkKind → Mark
a_mark kind = record { kind = kind; site = here }

abbrev pub a_gap : List Mark → Cause → Gap
a_gap trace cause = record { trace = trace; cause = cause }

-- nothing was assumed, met or marked
abbrev pub plain : List Content → List VarInfo → State
plain slots vars = record { slots = slots; vars = vars; pure = []; pre = []; atoms = []; trace = []; loops = []; steps = 0 }

-- ---- jobs

-- of a procedure with such a result; the block types are `int`, a struct with an `int` and a pointer to such a
-- struct, and a struct without a definition
abbrev pub job_with : Option ValueType → List (ProcId × Callee) → JobTree
job_with result callees = record {
  proc = proc 0;
  body = record { slots = 2; parameters = []; result = result; commands = no_commands };
  types = One Int ∷ Fields (Int ∷ Pointer node ∷ []) ∷ Opaque ∷ [];
  callees = callees;
  limits = record { unroll = 3; paths = 64; nodes = 10000 };
  kinds = [];
  ticket = 0;
}

abbrev pub job : JobTree
job = job_with None []
