use Rattle.clone_space.proofs.RoomLemmas as laws
use Rattle.clone_space.proofs.laws.room_law.Goals as goal

pub returns : goal.returns
returns c = laws.room
