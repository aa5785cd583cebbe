use Rattle.px_worker.proofs.CourseLemmas.{start_on, open_start}
use Rattle.px_worker.proofs.course.Course.new.Goals as goal

pub returns-clause-on : goal.returns-clause-on
returns-clause-on c = λ known kinds. start_on known kinds c.new.result c.new.ensures

pub returns-clause-part : goal.returns-clause-part
returns-clause-part c = open_start c.new.result c.new.ensures
