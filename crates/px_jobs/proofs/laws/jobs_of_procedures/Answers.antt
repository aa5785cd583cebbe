use Rattle.px_jobs.proofs.JobLemmas.{jobs_stay, same_jobs}
use Rattle.px_jobs.proofs.laws.jobs_of_procedures.Goals as goal

pub returns-clause-stay : goal.returns-clause-stay
returns-clause-stay c = jobs_stay

pub returns-clause-same : goal.returns-clause-same
returns-clause-same c = same_jobs
