use Rattle.std.proofs.Common.{map, ap, subst, ◌∙◌}
use Rattle.px_real_symbols.specs.Symbols.{see}
use Rattle.px_real_declarations.specs.Grammar.{Parameters}
use Rattle.px_real_declaring.specs.Items.{nesting_limit}
use Rattle.px_real_members.specs.Trees.{parameters_tree}
use Rattle.px_real_declaring.specs.Whole.{IsRead}
use Rattle.px_real_members.proofs.reading.parameters_of.Goals as goal

pub returns : goal.returns
returns g c = subst (λ z. IsRead (Parameters (g.T.TypeNames.named c.args.types.now) nesting_limit z) (parameters_tree z) c.read_parameters.result) (ap (map (see c.args.source.now)) c.deref.ensures.value ∙ c.in_ok-symbols.ensures) c.read_parameters.ensures
