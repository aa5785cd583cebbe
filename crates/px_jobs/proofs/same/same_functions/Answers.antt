use Rattle.std.proofs.lemmas.Slice.Eq.{slice_eq-Decides}
use Rattle.px_jobs.proofs.BodyLemmas.{function_decides}
use Rattle.px_jobs.proofs.same.same_functions.Goals as goal

pub returns : goal.returns
returns c = slice_eq-Decides function_decides c.args.left.now c.args.right.now c.eq.result c.eq.ensures
