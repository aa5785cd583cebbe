use Rattle.px_plain.specs.Stacks.{Holds, content}
use Rattle.px_plain.proofs.ReadyStacks.{answered}
use Rattle.px_plain.proofs.stack.Stack.refuted.Goals as goal

pub returns : goal.returns
unfolding Holds
returns c = λ items h. answered (content c.args.self.now) items h c.is_closed.result c.is_closed.ensures
