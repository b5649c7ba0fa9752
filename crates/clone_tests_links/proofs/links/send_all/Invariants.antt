use Rattle.std.proofs.Common.{◌≡◌, true}
use Rattle.clone_tests_links.proofs.links.send_all.Given as goal

abbrev pub invariant-loop-turn : goal.invariant-loop-turn
invariant-loop-turn g l = l.end.is_open ≡ true
