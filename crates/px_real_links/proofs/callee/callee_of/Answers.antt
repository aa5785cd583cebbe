use Rattle.px_real_links.proofs.NumberLemmas.{call_within, call_outside, call_nowhere}
use Rattle.px_real_links.proofs.callee.callee_of.Goals.{in-Some+in_default-first_named, in_default}
use Rattle.px_real_links.proofs.callee.callee_of.Goals as goal

pub returns-in-Some-first_named : goal.returns-in-Some-first_named
returns-in-Some-first_named c =
    call_within c.args.files.now c.args.file c.in-Some.links.now c.deref.result.now c.args.name.now c.in-Some-first_named.number _ c.in-Some.ensures.lookup.3.0 c.in-Some.ensures.lookup.1 c.deref.ensures.value
    c.in-Some-first_named.ensures c.by_fate.ensures

pub returns : goal.returns
returns c = elim c.match-get.branch [
  | in-Some+in_default-first_named w ↦ call_outside c.args.files.now c.args.file w.in-Some.links.now w.deref.result.now c.args.name.now _ w.in-Some.ensures.lookup.3.0 w.in-Some.ensures.lookup.1 w.deref.ensures.value
      w.in_default-first_named.ensures c.external_of.ensures
  | in_default w ↦ call_nowhere c.args.files.now c.args.file c.args.name.now _ w.in_default.ensures.lookup.3 c.external_of.ensures
]
