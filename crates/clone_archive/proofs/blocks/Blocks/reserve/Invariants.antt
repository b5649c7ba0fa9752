use Rattle.std.proofs.Common.{◌≡◌, ◌-◌}
use Rattle.clone_archive.proofs.blocks.Blocks.reserve.Given as goal

abbrev pub invariant-loop-self : goal.invariant-loop-self
invariant-loop-self l = l.self.bytes ≡ l.fn.self.bytes

abbrev pub decreases-loop-self : goal.decreases-loop-self
decreases-loop-self l = l.wanted - l.self.room
