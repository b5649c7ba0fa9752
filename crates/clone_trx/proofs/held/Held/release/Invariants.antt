use Rattle.clone_trx.proofs.Common.{◌≡◌, Option, length, DiskImage, ArePinned, released, StaysStanding}
use Rattle.clone_trx.proofs.held.Held.release.Given as goal

abbrev pub invariant-loop-at : goal.invariant-loop-at
invariant-loop-at l =
    record {
      pinned : ArePinned l.self l.buffer.pool.frames;
      is : released l.self l.buffer ≡ released l.fn.self l.fn.buffer;
      stands : (told : Option DiskImage) → StaysStanding l.fn.buffer l.buffer told told;
    }

abbrev pub decreases-loop-at : goal.decreases-loop-at
decreases-loop-at l = length l.self
