use Rattle.std.proofs.Common.{◌≡◌, replicate}
use Rattle.clone_pool.proofs.tournament.Tournament.new.Given as goal

abbrev pub invariant-loop : goal.invariant-loop
invariant-loop l = l.nodes.items ≡ replicate l.counter l.rank
