use Rattle.std.proofs.Common.{sym}
use Rattle.px_explore.proofs.SaidLemmas.{is_joined}
use Rattle.px_explore.proofs.said.joined.Goals as goal

pub returns : goal.returns
returns c = λ n. is_joined c.args.state.now c.args.block c.args.at c.args.way c.in_ok-first.first c.in_ok-second.second (sym c.in_ok-first.ensures) (sym c.in_ok-second.ensures) n
