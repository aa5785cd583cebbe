use Rattle.px_replay.proofs.ReplayLaw.{replay_decided}
use Rattle.px_replay.proofs.laws.replay_decides.Goals as goal

pub returns : goal.returns
returns c = replay_decided
