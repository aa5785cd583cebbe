-- What the code does of what the reader says.
use Rattle.std.specs.Prelude.{List, Option, Some, None, Result, Ok, Err, Vec}
use Rattle.std.specs.Global.{Global}
use Rattle.px_meaning.specs.Values.{BlockType, Value}
use Rattle.px_meaning.specs.Execution.{Locals}
use Rattle.px_meaning.specs.TypedProgram.{typed_program}
use Rattle.px_syntax.specs.ProgramTree.{program_tree}
use Rattle.px_replay.specs.declared.stop.Stop.{Stop}
use Rattle.px_replay.specs.declared.flow.Flow.{Flow}
use Rattle.px_replay.specs.declared.flow.Flow.TheVariants.{Falls, Breaks, Continues, Returns}
use Rattle.px_replay.specs.declared.callees.Callees.{Callees}
use Rattle.px_replay.specs.TreeReplay.{Ended, CallReplays, CallsReplay}

-- the block types of the program
abbrev pub types_in : Callees → List BlockType
types_in c = (program_tree c.program.now).types

-- what its calls do, within the depth
abbrev pub calls_of : Callees → CallReplays
calls_of c = CallsReplay (typed_program (program_tree c.program.now)) c.depth

-- values as a list
abbrev pub given : Result (Vec Value Global) Stop → Result (List Value) Stop
given (Ok values) = Ok values.items
given (Err e) = Err e

-- these values, where there is an answer
abbrev pub given_these : {A : Type 0} → List Value → Result A Stop → Result (List Value) Stop
given_these values (Ok x) = Ok values
given_these values (Err e) = Err e

-- an answer of code that changes no flow: it falls through with these locals
abbrev pub falls_with : {A : Type 0} → Result A Stop → Locals → Result Ended Stop
falls_with (Ok x) locals = Ok (Falls, locals)
falls_with (Err e) locals = Err e

-- an answer of code that says how a statement ends, with the locals after it
abbrev pub ended : Result Flow Stop → Locals → Result Ended Stop
ended (Ok flow) locals = Ok (flow, locals)
ended (Err e) locals = Err e

-- how a loop ends after its body, if it does
abbrev pub ends_turn : Flow → Option Flow
ends_turn Falls = None
ends_turn Continues = None
ends_turn Breaks = Some Falls
ends_turn (Returns v) = Some (Returns v)
