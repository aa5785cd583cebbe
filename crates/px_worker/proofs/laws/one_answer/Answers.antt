use Rattle.px_worker.proofs.AnswerLemmas.{same_answer}
use Rattle.px_worker.proofs.laws.one_answer.Goals as goal

pub returns : goal.returns
returns c = λ known kinds. same_answer c.one_spelling.ensures c.one_analysis.ensures known kinds
