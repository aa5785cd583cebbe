use Rattle.px_real_types.specs.Scopes.{texts}
use Rattle.px_real_types.proofs.SuffixedLemmas.{declared_is}
use Rattle.px_real_types.proofs.declarators.+declared.Goals as goal

pub returns-in-Suffixed : goal.returns-in-Suffixed
returns-in-Suffixed t c =
    declared_is (texts c.args.on) c.args.declarator.now c.in-Suffixed.core c.in-Suffixed.suffixes c.in-Suffixed.is c.deref-in-Suffixed.result.now c.deref-in-Suffixed-2.result.now c.before_all.result c.args.shape _
    c.deref-in-Suffixed.ensures c.deref-in-Suffixed-2.ensures.value c.before_all.ensures c.declared-in-Suffixed.ensures
