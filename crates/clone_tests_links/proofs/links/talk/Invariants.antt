use Rattle.std.proofs.Common.{◌≡◌, true}
use Rattle.clone_tests_links.proofs.links.talk.Given as goal

abbrev pub invariant-loop : goal.invariant-loop
invariant-loop g l =
    (goal.iterator-loop g).can_next l.iterator' × (goal.iterator-loop g).is_finite l.iterator'
    × (l.end.is_open ≡ true)
