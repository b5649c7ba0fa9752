use Rattle.clone_image.proofs.Logs.{Replays-once, Replays-longer}
use Rattle.clone_image.proofs.laws.replay_laws.Goals as goal

pub returns-clause-once : goal.returns-clause-once
returns-clause-once c = Replays-once

pub returns-clause-longer : goal.returns-clause-longer
returns-clause-longer c = Replays-longer
