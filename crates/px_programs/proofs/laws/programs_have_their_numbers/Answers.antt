use Rattle.px_programs.proofs.ProgramsTyped.{numbers}
use Rattle.px_programs.proofs.laws.programs_have_their_numbers.Goals as goal

pub returns : goal.returns
returns c = numbers
