use Rattle.std.proofs.Common.{◌≡◌}
use Rattle.clone_buffer.specs.Dropping.{given_up}
use Rattle.clone_buffer.proofs.buffer.give_up.Given as goal

-- the pages below this one were given up
abbrev pub invariant-loop-number : goal.invariant-loop-number
invariant-loop-number l = l.pool ≡ given_up l.space l.number l.fn.pool
