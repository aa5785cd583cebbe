use Rattle.px_replay.proofs.ReachCalls.{replay_reached}
use Rattle.px_replay.proofs.laws.replay_reaches.Goals as goal

pub returns : goal.returns
returns c = replay_reached
