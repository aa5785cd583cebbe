use Rattle.std.proofs.Common.{map}
use Rattle.std.proofs.lemmas.Result.{err_from_is_err_and}
use Rattle.px_core.specs.CommandTree.{command_tree}
use Rattle.px_syntax.specs.TypedTree.{run_call, arguments_of}
use Rattle.px_syntax.specs.TypedViews.{typed_argument}
use Rattle.px_lower.specs.Lowering.{lowered_statement}
use Rattle.px_lower.proofs.Arms.{out_of_memory, nothing, itself}
use Rattle.px_lower.proofs.SimpleArms.{call_fails, call_puts}
use Rattle.px_lower.proofs.statements.call_statement.Goals as goal

pub returns-in_err-x : goal.returns-in_err-x
returns-in_err-x c =
    call_fails (arguments_of (map typed_argument c.args.es.now)) c.args.next (map command_tree c.args.out.now.items) _ c.args.proc c.args.site c.in_err-x.field-0.0 c.from_residual.result (err_from_is_err_and c.from_residual.result c.from_residual.ensures.1) c.in_err-x.ensures

pub returns-in_err-unused_call : goal.returns-in_err-unused_call
returns-in_err-unused_call c =
    out_of_memory nothing itself (lowered_statement (run_call c.args.proc (arguments_of (map typed_argument c.args.es.now)) c.args.site) c.args.next) (map command_tree c.args.out.now.items) _ c.from_residual-in_err-unused_call.result (err_from_is_err_and c.from_residual-in_err-unused_call.result c.from_residual-in_err-unused_call.ensures.1)

pub returns : goal.returns
returns c =
    call_puts (arguments_of (map typed_argument c.args.es.now)) c.args.next (map command_tree c.args.out.now.items) _ c.args.proc c.args.site c.in_ok-x.x c.in_ok-unused_call.field-0 _ c.in_ok-x.ensures c.in_ok-unused_call.ensures.commands c.in_ok-unused_call.ensures.next
