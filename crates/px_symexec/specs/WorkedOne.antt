-- The tables of two procedures, worked by hand.
use Rattle.std.specs.Prelude.{ℕ, zero, suc, List, [], ◌∷◌, Option, Some, None}
use Rattle.px_base.specs.declared.trace.MarkKind.TheVariants as mark
use Rattle.px_terms.specs.declared.types.BlockType.TheVariants.{One}
use Rattle.px_terms.specs.declared.types.ValueType.TheVariants.{Int}
use Rattle.px_core.specs.BodyTree.{BodyTree}
use Rattle.px_core.specs.CommandTree.{CommandTree, commands_of, call}
use Rattle.px_entry.specs.declared.tables.Cause.{Cause}
use Rattle.px_entry.specs.declared.tables.Cause.TheVariants as cause
use Rattle.px_entry.specs.declared.tables.Table.{Table}
use Rattle.px_callgraph.specs.WorkedStates.{proc}
use Rattle.px_symexec.specs.WorkedJobs.{at, marked_at}
use Rattle.px_symexec.specs.One.{Work, IsOne}

abbrev pub calls : ℕ → ℕ → ℕ → CommandTree
calls f line column = call None (proc f) [] (at line column)

abbrev pub body_of : List CommandTree → BodyTree
body_of commands = record { slots = 0; parameters = []; result = None; commands = commands_of commands }

-- `void f(void){f();}`
abbrev pub calls_itself : BodyTree
calls_itself = body_of (calls 0 1 14 ∷ [])

-- `void g(void){f();h();k();}`
abbrev pub calls_three : BodyTree
calls_three = body_of (calls 0 2 14 ∷ calls 2 2 18 ∷ calls 3 2 22 ∷ [])

abbrev pub two_bodies : ℕ → Option BodyTree
two_bodies zero = Some calls_itself
two_bodies (suc zero) = Some calls_three
two_bodies (suc (suc f)) = None

-- h, the procedure 2, was left out, and of k, the procedure 3, nothing is known
abbrev pub two_procedures : Work
two_procedures = record {
  bodies = two_bodies;
  kept = 2;
  out = proc 2 ∷ [];
  types = One Int ∷ [];
  limits = record { unroll = 3; paths = 64; nodes = 10000 };
  kinds = [];
}

-- a table with one drop, at the call of f
abbrev pub drops_call : ℕ → Cause → Table
drops_call line why = record { entries = []; drops = record { trace = marked_at (mark.Enter (proc 0)) (at line 14) ∷ []; cause = why } ∷ [] }

abbrev pub two_tables : ℕ → Option Table
two_tables zero = Some (drops_call 1 (cause.Cycle (proc 0)))
two_tables (suc zero) = Some (drops_call 2 (cause.Dropped (proc 0)))
two_tables (suc (suc f)) = None

pub record WorkedOne : Type 0 where
  -- f is in a recursion component with itself, so its call is a drop; so the call of f in g is one, and the other calls aren't reached
  pub two : IsOne two_procedures two_tables
