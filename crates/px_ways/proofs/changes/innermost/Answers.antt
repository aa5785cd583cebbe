use Rattle.std.proofs.Common.{◌∙◌}
use Rattle.px_ways.proofs.LoopLemmas.{last_get}
use Rattle.px_ways.proofs.changes.innermost.Goals as goal

pub returns : goal.returns
returns c = c.copied.ensures ∙ c.last.ensures.value ∙ last_get c.args.loops.now
