use Rattle.std.proofs.Common.{◌≡◌, ◌≤◌, ◌-◌, take, length}
use Rattle.std.specs.Prelude.{Ok}
use Rattle.clone_memlink.specs.Held.{SendsBytes}
use Rattle.clone_memlink.proofs.mem_end.MemEndLink.send.Given as goal

abbrev pub invariant-loop-done : goal.invariant-loop-done
invariant-loop-done g l =
    (l.done ≤ length l.from) × SendsBytes {T = Unit {0}} l.fn.self (Ok tt) (take l.done l.from) l.self
    × (l.self ≡ record l.fn.self { seat = l.self.seat })

abbrev pub decreases-loop-done : goal.decreases-loop-done
decreases-loop-done g l = length l.from - l.done
