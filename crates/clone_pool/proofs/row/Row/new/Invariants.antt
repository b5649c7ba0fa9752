use Rattle.std.proofs.Common.{◌≡◌, replicate}
use Rattle.clone_pool.specs.Tournament.{no_rank}
use Rattle.clone_pool.proofs.row.Row.new.Given as goal

abbrev pub invariant-loop : goal.invariant-loop
invariant-loop l = l.ranks.items ≡ replicate l.counter no_rank
