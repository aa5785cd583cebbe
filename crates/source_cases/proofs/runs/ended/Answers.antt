use Rattle.px_top.specs.Words.{request_of}
use Rattle.px_top.proofs.Requests.{all_allowed}
use Rattle.source_cases.proofs.runs.ended.Goals as goal

pub run-requires-clause-allowed : goal.run-requires-clause-allowed
run-requires-clause-allowed g c κs within = all_allowed _ c.requires (request_of c.args.words.now)
