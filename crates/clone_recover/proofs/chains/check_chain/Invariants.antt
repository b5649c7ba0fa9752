use Rattle.std.proofs.Common.{◌<◌, length}
use Rattle.clone_outside.specs.DiskCalls.{Reads}
use Rattle.clone_recover.proofs.WalkLemmas.{WalksOn, unstamped}
use Rattle.clone_recover.proofs.chains.check_chain.Given as goal

abbrev pub invariant-loop-stamps : goal.invariant-loop-stamps
invariant-loop-stamps g l =
    record {
      walks : WalksOn (g.R.PageDisk.state l.fn.disk).told l.overlay l.table l.bucket l.page l.initial.stamps l.stamps;
      within : l.page < length l.stamps;
      reads : Reads ⊥ (g.R.PageDisk.state l.fn.disk) (g.R.PageDisk.state l.disk);
    }

abbrev pub decreases-loop-stamps : goal.decreases-loop-stamps
decreases-loop-stamps g l = unstamped l.stamps
