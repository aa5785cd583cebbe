use Rattle.px_real_scopes.proofs.GrowLemmas.{grows_on, grown, named_grows}
use Rattle.px_real_scopes.proofs.declaring.bring_head.Goals as goal

pub returns-clause-grows : goal.returns-clause-grows
returns-clause-grows c = grows_on c.with_specifiers.ensures.grows (grown c.with_specifiers.new.scopes _ c.add_head.new.scopes c.in_ok-add_head.ensures.added (named_grows _ _ c.with_specifiers.new.scopes))
