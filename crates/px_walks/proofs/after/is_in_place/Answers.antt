use Rattle.px_walks.specs.Items.{items_of}
use Rattle.px_walks.proofs.Jumps.{leave_listed, break_listed, continue_listed}
use Rattle.px_walks.proofs.after.is_in_place.Goals as goal

pub returns-in-Leave : goal.returns-in-Leave
returns-in-Leave c = λ j s k e. leave_listed j s c.args.command.now _ _ (items_of c.args.control.now) k c.in-Leave.is c.may_leave.ensures c.innermost.ensures e

pub returns-in-Break : goal.returns-in-Break
returns-in-Break c = λ j s k e. break_listed j s c.args.command.now _ _ (items_of c.args.control.now) k c.in-Break.is c.may_break.ensures c.innermost-in-Break.ensures e

pub returns-in-Continue : goal.returns-in-Continue
returns-in-Continue c = λ j s k e. continue_listed j s c.args.command.now _ _ (items_of c.args.control.now) k c.in-Continue.is c.may_continue.ensures c.innermost-in-Continue.ensures e
