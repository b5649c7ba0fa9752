use Rattle.std.proofs.Common.{◌≡◌, drop}
use Rattle.std.specs.FinMap as finite
use Rattle.clone_increment.proofs.CountLemmas.{put_each}
use Rattle.clone_increment.proofs.counting.copied.Given as goal

abbrev pub invariant-loop-entry : goal.invariant-loop-entry
invariant-loop-entry l = put_each (λ _ n. n) l.copy (drop l.entry-index l.entry-items) ≡ put_each (λ _ n. n) finite.empty l.entry-items
