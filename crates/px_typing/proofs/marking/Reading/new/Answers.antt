use Rattle.px_typing.proofs.ReadingLemmas.{nothing_known}
use Rattle.px_typing.proofs.marking.Reading.new.Goals as goal

pub returns : goal.returns
returns c = nothing_known _ c.new.ensures c.new-2.ensures
