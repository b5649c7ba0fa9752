use Rattle.clone_snapshot.proofs.JoinLemmas.{pages_joined, bytes_joined}
use Rattle.clone_snapshot.proofs.laws.blocks_are_the_list.Goals as goal

pub returns-clause-pages : goal.returns-clause-pages
returns-clause-pages c = pages_joined

pub returns-clause-bytes : goal.returns-clause-bytes
returns-clause-bytes c = bytes_joined
