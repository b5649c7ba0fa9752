use Rattle.std.proofs.Common.{◌≡◌, ◌<◌, ◌≤◌, ◌-◌, ℕ, false, Some}
use Rattle.clone_pool.specs.Index.{is_name_of, bucket_at, bucket_of}
use Rattle.clone_pool.proofs.NameLemmas.{name_at}
use Rattle.clone_pool.proofs.index.Index.find.Given as goal

abbrev pub invariant-loop-at : goal.invariant-loop-at
invariant-loop-at l = record {
  upto : l.at ≤ l.count;
  before : (i : ℕ) → i < l.at → is_name_of l.page (name_at l.self-inside.names.items i) ≡ false;
  bucket : l.at < l.count → bucket_at l.count l.self-inside.names.items l.at ≡ Some (bucket_of l.count l.page);
}

abbrev pub decreases-loop-at : goal.decreases-loop-at
decreases-loop-at l = l.count - l.at
