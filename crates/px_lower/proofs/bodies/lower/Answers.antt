use Rattle.std.proofs.Common.{refl}
use Rattle.px_syntax.specs.ProgramTree.{program_tree}
use Rattle.px_meaning.specs.TypedProgram.{typed_program}
use Rattle.px_lower.specs.LoweredProgram.{lowered_program}
use Rattle.px_lower.proofs.BodiesLaw.{answer_keeps, answer_in_range}
use Rattle.px_lower.proofs.bodies.lower.Goals as goal

pub returns-clause-keeps : goal.returns-clause-keeps
returns-clause-keeps c =
    let P = typed_program (program_tree c.args.program.now) in
    answer_keeps P c.args.proc.0 ((lowered_program P).bodies c.args.proc.0) c.body_at.result refl c.body_at.ensures

pub returns-clause-ranges : goal.returns-clause-ranges
returns-clause-ranges c =
    let P = typed_program (program_tree c.args.program.now) in
    answer_in_range P c.args.proc.0 ((lowered_program P).bodies c.args.proc.0) c.body_at.result refl c.body_at.ensures
