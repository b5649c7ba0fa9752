use Rattle.std.proofs.Common.{◌≡◌, true}
use Rattle.clone_tests_links.proofs.links.drain.Given as goal

abbrev pub invariant-loop : goal.invariant-loop
invariant-loop g l = l.end.is_open ≡ true
