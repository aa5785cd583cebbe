-- The bodies of a program's procedures.
use Rattle.std.specs.Prelude.{◌≡◌, ℕ, ◌+◌, ◌<◌, ◌≤◌, length, option_map, Result, Ok, Err, ⊤}
use Rattle.px_base.specs.Bounds.{most_commands}
use Rattle.px_core.specs.declared.body.Body.{Body}
use Rattle.px_core.specs.CommandTree.{commands_of}
use Rattle.px_core.specs.BodyTree.{BodyTree, body_tree}
use Rattle.px_core.specs.Sizes.{commands_size}
use Rattle.px_syntax.specs.ProgramTree.{ProcedureTree}
use Rattle.px_meaning.specs.CoreCalls.{CoreProgram}
use Rattle.px_meaning.specs.TypedProgram.{TypedProgram}
use Rattle.px_lower.specs.declared.fault.LowerFault.{LowerFault}
use Rattle.px_lower.specs.declared.fault.LowerFault.TheVariants.{TooLarge, NoMemory}
use Rattle.px_lower.specs.Lowering.{lowered_statement}

-- the parameters have the first slots, then the declared locals
abbrev pub locals_of : ProcedureTree → ℕ
locals_of p = length p.parameters + length p.locals

-- the body of a procedure
abbrev pub lowered : ProcedureTree → BodyTree
lowered p =
    let x = lowered_statement p.body (locals_of p) in
    record { slots = x.next; parameters = p.parameters; result = p.result; commands = commands_of x.commands }

-- the bodies of all kept procedures, whatever their size
abbrev pub lowered_program : TypedProgram → CoreProgram
lowered_program P = record { types = P.types; bodies = λ f. option_map lowered (P.procedures f) }

-- What an answer says of the body that a procedure is to have: one with too many commands is too large.
abbrev pub AnswersOf : BodyTree → Result Body LowerFault → Type 0
AnswersOf b (Ok body) = (body_tree body ≡ b) × (commands_size b.commands ≤ most_commands)
AnswersOf b (Err (TooLarge n)) = (commands_size b.commands ≡ n) × (most_commands < n)
AnswersOf b (Err NoMemory) = ⊤
