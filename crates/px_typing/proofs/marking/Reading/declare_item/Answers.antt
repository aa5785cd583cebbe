use Rattle.std.proofs.Common.{refl, sym, subst}
use Rattle.px_syntax.specs.ParsedTree.{parsed_tree}
use Rattle.px_typing.proofs.ReadingLemmas.{Declares, declares_nothing}
use Rattle.px_typing.proofs.marking.Reading.declare_item.Goals as goal

pub returns-in-Out : goal.returns-in-Out
returns-in-Out c = subst (λ i. Declares c.args.self.now c.args.self.now (parsed_tree i)) (sym c.in-Out.is) (declares_nothing c.args.self.now _ (λ name. refl))
