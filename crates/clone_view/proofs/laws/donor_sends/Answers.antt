use Rattle.clone_view.proofs.Sends.{block_read, chunk_claimed}
use Rattle.clone_view.proofs.laws.donor_sends.Goals as goal

pub returns : goal.returns
returns c = record {
  claims = λ counts t s now lines w k l run unread h same i free by stage_is took b bs some next goes. chunk_claimed counts t s now lines w k l run unread h same i free by stage_is took b bs some next goes;
  reads = λ counts t s now lines w k l run place again unread h r same unkept tied there mine by stage_is done next frame goes says. block_read counts t s now lines w k l run place again unread h r same unkept tied there mine by stage_is done next frame goes says;
}
