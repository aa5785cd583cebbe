use Rattle.std.proofs.Common.{map, ap, subst, ◌∙◌}
use Rattle.px_real_symbols.specs.Symbols.{see}
use Rattle.px_real_declarations.specs.Grammar.{Enumerators}
use Rattle.px_real_members.specs.Trees.{enumerator_tree}
use Rattle.px_real_declaring.specs.Whole.{IsRead}
use Rattle.px_real_members.proofs.reading.enumerators_of.Goals as goal

pub returns : goal.returns
returns c = subst (λ z. IsRead (Enumerators z) (λ es. map (enumerator_tree z) es.items) c.read_enumerators.result) (ap (map (see c.args.source.now)) c.deref.ensures.value ∙ c.in_ok-symbols.ensures) c.read_enumerators.ensures
