-- Which calls a trace leaves open.
use Rattle.std.specs.Prelude.{List, [], ◌∷◌, Option, None, Some}
use Rattle.px_base.specs.declared.trace.ProcId.{ProcId}
use Rattle.px_base.specs.declared.trace.Mark.{Mark}
use Rattle.px_base.specs.declared.trace.MarkKind.{MarkKind}
use Rattle.px_base.specs.declared.trace.MarkKind.TheVariants.{Enter, Leave}

-- without the innermost call, which a return closes
abbrev pub without_innermost : List ProcId → List ProcId
without_innermost [] = []
without_innermost (g ∷ calls) = calls

-- the calls that are open after a mark, innermost first, where these were open before it
abbrev pub open_after : List ProcId → MarkKind → List ProcId
open_after calls (Enter g) = g ∷ calls
open_after calls Leave = without_innermost calls
open_after calls _ = calls

-- the calls that are open after these marks
abbrev pub open_calls : List ProcId → List Mark → List ProcId
open_calls calls [] = calls
open_calls calls (m ∷ trace) = open_calls (open_after calls m.kind) trace

abbrev pub outermost : List ProcId → Option ProcId
outermost [] = None
outermost (g ∷ []) = Some g
outermost (g ∷ (h ∷ calls)) = outermost (h ∷ calls)

-- the first call of a trace that no return closes
abbrev pub open_call : List Mark → Option ProcId
open_call trace = outermost (open_calls [] trace)
