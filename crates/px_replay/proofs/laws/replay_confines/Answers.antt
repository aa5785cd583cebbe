use Rattle.px_replay.proofs.ConfineLaw.{replay_confined}
use Rattle.px_replay.proofs.laws.replay_confines.Goals as goal

pub returns : goal.returns
returns c = replay_confined
