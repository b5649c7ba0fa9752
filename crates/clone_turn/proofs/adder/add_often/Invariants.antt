use Rattle.std.proofs.Common.{◌≡◌}
use Rattle.clone_turn.specs.Adding.{HasMade, answers_of}
use Rattle.clone_turn.proofs.adder.add_often.Given as goal

abbrev pub invariant-loop : goal.invariant-loop
invariant-loop g l = HasMade l.counter l.fn.seat l.seat × (l.answers.items ≡ answers_of l.seat)
