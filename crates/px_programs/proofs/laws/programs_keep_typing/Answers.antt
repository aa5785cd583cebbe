use Rattle.px_programs.proofs.ProgramsTyped.{programs}
use Rattle.px_programs.proofs.laws.programs_keep_typing.Goals as goal

pub returns : goal.returns
returns c = programs
