use Rattle.px_top.proofs.Requests.{all_allowed}
use Rattle.driver_cases.proofs.failures.run_once.Goals as goal

pub run-status-requires-clause-allowed : goal.run-status-requires-clause-allowed
run-status-requires-clause-allowed g c κs within = all_allowed _ (λ name. tt) _
