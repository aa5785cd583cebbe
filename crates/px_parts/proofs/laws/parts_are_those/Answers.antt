use Rattle.px_parts.proofs.Pieces.{parts_are_those}
use Rattle.px_parts.proofs.laws.parts_are_those.Goals as goal

pub returns : goal.returns
returns c = parts_are_those
