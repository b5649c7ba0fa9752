use Rattle.std.proofs.Common.{◌≡◌, []}
use Rattle.std.specs.Prelude.{Ok}
use Rattle.clone_memlink.specs.Held.{SendsBytes}
use Rattle.clone_memlink.proofs.mem_end.MemEnd.send_when_room.Given as goal

abbrev pub invariant-loop : goal.invariant-loop
invariant-loop g l =
    (goal.iterator-loop g).can_next l.iterator' × (goal.iterator-loop g).is_finite l.iterator'
    × SendsBytes {T = Unit {0}} l.fn.self (Ok tt) [] l.self × (l.self ≡ record l.fn.self { seat = l.self.seat })
