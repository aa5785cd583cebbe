use Rattle.std.proofs.Common.{map, ap, subst, ◌∙◌, false}
use Rattle.px_real_symbols.specs.Symbols.{see}
use Rattle.px_real_declaring.specs.Trees.{declaration_tree}
use Rattle.px_real_declaring.specs.Whole.{IsOneOf, IsRead}
use Rattle.px_real_declaring.proofs.reading.declaration_of.Goals as goal

pub returns : goal.returns
returns g c = subst (λ z. IsRead (IsOneOf (g.T.TypeNames.named c.args.types.now) false z) (declaration_tree z) c.read.result) (ap (map (see c.args.source.now)) c.deref.ensures.value ∙ c.in_ok-symbols.ensures) c.read.ensures
