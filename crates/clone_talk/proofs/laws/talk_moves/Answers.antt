use Rattle.clone_talk.proofs.TaskTalks.{moves_talk}
use Rattle.clone_talk.proofs.laws.talk_moves.Goals as goal

pub returns : goal.returns
returns c = moves_talk
