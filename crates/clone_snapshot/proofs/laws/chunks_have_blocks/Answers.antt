use Rattle.clone_snapshot.proofs.CountLemmas.{has_blocks, few_blocks}
use Rattle.clone_snapshot.proofs.EachBlock.{block_sized}
use Rattle.clone_snapshot.proofs.JoinLemmas.{length-chunks}
use Rattle.clone_snapshot.proofs.laws.chunks_have_blocks.Goals as goal

pub returns-clause-chunks : goal.returns-clause-chunks
returns-clause-chunks c = length-chunks

pub returns-clause-blocks : goal.returns-clause-blocks
returns-clause-blocks c = has_blocks

pub returns-clause-few : goal.returns-clause-few
returns-clause-few c = few_blocks

pub returns-clause-sized : goal.returns-clause-sized
returns-clause-sized c = block_sized
