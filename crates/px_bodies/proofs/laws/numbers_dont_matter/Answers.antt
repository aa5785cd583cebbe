use Rattle.px_bodies.proofs.NumberLaw.{numbers-dont-matter}
use Rattle.px_bodies.proofs.laws.numbers_dont_matter.Goals as goal

pub returns : goal.returns
returns c = numbers-dont-matter
