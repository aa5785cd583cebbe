use Rattle.px_real_links.proofs.NumberLemmas.{fate_here}
use Rattle.px_real_links.proofs.fate.fate_of.Goals as goal

pub returns : goal.returns
returns c =
    fate_here c.args.links.now.weak.items c.args.links.now.definitions.items c.deref.result.now c.deref-2.result.now c.args.number c.in_ok-definition.definition.now _ c.deref.ensures.value c.deref-2.ensures.value
    c.in_ok-definition.ensures.lookup.3.0 c.in_ok-definition.ensures.lookup.1 c.fate_by.ensures
