use Rattle.std.proofs.Common.{◌≡◌, None, replicate}
use Rattle.clone_pool.proofs.index.Index.new.Given as goal

abbrev pub invariant-loop : goal.invariant-loop
invariant-loop l = l.names.items ≡ replicate l.counter None
