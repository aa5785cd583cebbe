use Rattle.px_real_links.proofs.NumberLemmas.{never_past, static_is_none, external_is_one}
use Rattle.px_real_links.proofs.callee.external_in.Goals as goal

pub returns-in_err-definition : goal.returns-in_err-definition
returns-in_err-definition c =
    absurd
    (never_past c.args.links.now.definitions.items c.deref.result.now c.deref-2.result.now c.args.name.now c.in_ok-number.number c.deref.ensures.value c.deref-2.ensures.value c.in_ok-number.ensures c.in_err-definition.ensures.lookup.3)

pub returns-then-definition : goal.returns-then-definition
returns-then-definition c =
    static_is_none c.args.file c.args.links.now c.deref.result.now c.deref-2.result.now c.args.name.now c.in_ok-number.number c.in_ok-definition.definition.now c.deref.ensures.value c.deref-2.ensures.value c.in_ok-number.ensures
    c.in_ok-definition.ensures.lookup.3.0 c.in_ok-definition.ensures.lookup.1 c.if-definition.true

pub returns : goal.returns
returns c =
    external_is_one c.args.file c.args.links.now c.deref.result.now c.deref-2.result.now c.args.name.now c.in_ok-number.number c.in_ok-definition.definition.now _ c.deref.ensures.value c.deref-2.ensures.value c.in_ok-number.ensures
    c.in_ok-definition.ensures.lookup.3.0 c.in_ok-definition.ensures.lookup.1 c.if-definition.false c.by_fate.ensures
