use Rattle.clone_trx.proofs.HeldPageLemmas.{released_has}
use Rattle.clone_trx.proofs.hold.release.Goals as goal

pub returns-clause-stay : goal.returns-clause-stay
returns-clause-stay c = λ page other has more. released_has c.args.at c.args.buffer.now c.unpin.new.self c.unpin.ensures.unpinned c.requires page other c.laws-2.ensures.pool has more
