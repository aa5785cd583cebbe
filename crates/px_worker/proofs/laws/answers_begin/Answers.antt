use Rattle.px_worker.proofs.AnswerLemmas.{begun}
use Rattle.px_worker.proofs.laws.answers_begin.Goals as goal

pub returns : goal.returns
returns c = λ known kinds. begun c.one_spelling.ensures c.one_analysis.ensures known kinds
