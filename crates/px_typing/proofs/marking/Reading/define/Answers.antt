use Rattle.std.proofs.Common.{refl, sym, subst, Ok, false}
use Rattle.px_syntax.specs.ParsedTree.{parsed_tree}
use Rattle.px_typing.proofs.ReadingLemmas.{Defines, defines_nothing}
use Rattle.px_typing.proofs.marking.Reading.define.Goals as goal

pub returns-in-Out : goal.returns-in-Out
returns-in-Out c =
    subst (λ i. Defines c.args.self.now c.args.self.now (Ok false) (parsed_tree i)) (sym c.in-Out.is)
    (defines_nothing c.args.self.now _ (λ tag. refl) (λ name. refl) (λ before. refl))
