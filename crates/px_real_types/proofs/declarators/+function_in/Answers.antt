use Rattle.px_real_types.specs.Scopes.{texts}
use Rattle.px_real_types.proofs.SuffixedLemmas.{own_at, within_at}
use Rattle.px_real_types.proofs.declarators.+function_in.Goals as goal

pub returns-in-Some-signature_of : goal.returns-in-Some-signature_of
returns-in-Some-signature_of t c =
    own_at (texts c.args.on) c.args.declarator.now c.in-Suffixed.core c.in-Suffixed.suffixes c.in-Suffixed.is c.deref-in-Suffixed-3.result.now c.deref-in-Suffixed.result.now c.deref-in-Suffixed-2.result.now c.in-Some.first.now
    c.before_all-result.result c.args.shape c.deref-in-Suffixed-3.ensures c.deref-in-Suffixed.ensures.value c.deref-in-Suffixed-2.ensures.value c.in-Some.ensures.value c.before_all-result.ensures _
    (c.in-Some-signature_of.ensures (texts c.args.on))

pub returns-in_default-signature_of : goal.returns-in_default-signature_of
returns-in_default-signature_of t c =
    within_at (texts c.args.on) c.args.declarator.now c.in-Suffixed.core c.in-Suffixed.suffixes c.in-Suffixed.is c.deref-in-Suffixed-3.result.now c.deref-in-Suffixed.result.now c.deref-in-Suffixed-2.result.now c.in-Some.first.now
    c.before_all-result.result c.args.shape c.deref-in-Suffixed-3.ensures c.deref-in-Suffixed.ensures.value c.deref-in-Suffixed-2.ensures.value c.in-Some.ensures.value c.before_all-result.ensures c.deref-in-Suffixed-4.result.now
    c.before_suffix.result _ (c.in_default-signature_of.ensures (texts c.args.on)) c.deref-in-Suffixed-4.ensures c.before_suffix.ensures c.function_in-in-Suffixed.ensures
