use Rattle.std.proofs.Common.{map, ap, subst, ◌∙◌}
use Rattle.px_real_symbols.specs.Symbols.{see}
use Rattle.px_real_declarations.specs.Grammar.{IsHead}
use Rattle.px_real_declaring.specs.Items.{nesting_limit}
use Rattle.px_real_members.specs.Trees.{head_tree}
use Rattle.px_real_declaring.specs.Whole.{IsRead}
use Rattle.px_real_members.proofs.reading.head_of.Goals as goal

pub returns : goal.returns
returns g c = subst (λ z. IsRead (IsHead (g.T.TypeNames.named c.args.types.now) nesting_limit z) (head_tree z) c.read_head.result) (ap (map (see c.args.source.now)) c.deref.ensures.value ∙ c.in_ok-symbols.ensures) c.read_head.ensures
