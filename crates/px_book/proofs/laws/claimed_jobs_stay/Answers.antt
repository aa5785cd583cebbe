use Rattle.px_book.proofs.LaterLemmas.{claimed_jobs_stay}
use Rattle.px_book.proofs.laws.claimed_jobs_stay.Goals as goal

pub returns : goal.returns
returns c = claimed_jobs_stay
