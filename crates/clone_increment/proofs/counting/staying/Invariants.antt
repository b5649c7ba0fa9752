use Rattle.std.proofs.Common.{◌≡◌, cond, drop}
use Rattle.std.specs.FinMap as finite
use Rattle.std.specs.FinSet as set
use Rattle.clone_increment.proofs.CountLemmas.{put_each}
use Rattle.clone_increment.proofs.counting.staying.Given as goal

abbrev pub invariant-loop-entry : goal.invariant-loop-entry
invariant-loop-entry l =
    put_each (λ space size. cond (set.contains l.changes.made space) 0 size) l.stay (drop l.entry-index l.entry-items)
    ≡ put_each (λ space size. cond (set.contains l.changes.made space) 0 size) finite.empty l.entry-items
