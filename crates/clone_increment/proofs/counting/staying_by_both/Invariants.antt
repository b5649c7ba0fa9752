use Rattle.std.proofs.Common.{◌≡◌, drop, min, unwrap_or}
use Rattle.std.specs.FinMap as finite
use Rattle.clone_increment.proofs.CountLemmas.{put_each}
use Rattle.clone_increment.proofs.counting.staying_by_both.Given as goal

abbrev pub invariant-loop-entry : goal.invariant-loop-entry
invariant-loop-entry l =
    put_each (λ space count. min count (unwrap_or (finite.get l.first space) 0)) l.stay (drop l.entry-index l.entry-items)
    ≡ put_each (λ space count. min count (unwrap_or (finite.get l.first space) 0)) finite.empty l.entry-items
