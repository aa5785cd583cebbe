use Rattle.std.proofs.Common.{inl}
use Rattle.px_plain.specs.Stacks.{Holds}
use Rattle.px_plain.specs.Steps.{bare}
use Rattle.px_plain.proofs.ContentLemmas.{same_content}
use Rattle.px_plain.proofs.stack.Stack.new.Goals as goal

pub returns : goal.returns
unfolding Holds
returns c = inl (same_content _ bare c.new.ensures.items c.new-2.ensures.items c.new-3.ensures.items c.new-4.ensures.items c.new-5.ensures.items c.new-6.ensures.items c.new-7.ensures.items c.new-8.ensures.items)
