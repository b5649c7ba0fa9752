use Rattle.clone_trx.proofs.Common.{Result, Reads, Buffered, EngineRefusal, Spot, MayGoOn, StaysStanding, Walks, WalksAll}
use Rattle.clone_trx.proofs.walk.walk.Given as goal

abbrev pub invariant-loop-spot : goal.invariant-loop-spot
invariant-loop-spot g l =
    record {
      may : MayGoOn l.course l.page l.kept l.buffer;
      walked : (last : Buffered) (result : Result Spot EngineRefusal) → Walks l.course l.left l.page l.kept l.buffer last result → WalksAll l.course l.fn.buffer last result;
      reads : Reads ⊥ (g.D.PageDisk.state l.fn.disk) (g.D.PageDisk.state l.disk);
      stands : StaysStanding l.fn.buffer l.buffer (g.D.PageDisk.state l.fn.disk).told (g.D.PageDisk.state l.disk).told;
    }

abbrev pub decreases-loop-spot : goal.decreases-loop-spot
decreases-loop-spot g l = l.left
