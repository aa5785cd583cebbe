use Rattle.px_real_scopes.specs.Scopes.{an_enumeration}
use Rattle.px_real_scopes.proofs.GrowLemmas.{grows_on, grown, tag_grows}
use Rattle.px_real_scopes.proofs.enumerators.add_enumeration.Goals as goal

pub returns-clause-grows : goal.returns-clause-grows
returns-clause-grows c = grows_on (grown c.args.scopes.now _ c.add_tag.new.scopes c.in_ok-add_tag.ensures.added (tag_grows c.args.tag.now an_enumeration c.args.scopes.now)) c.add_enumerators.ensures.grows
