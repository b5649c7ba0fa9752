use Rattle.std.proofs.Common.{◌≡◌, drop}
use Rattle.clone_recipient.specs.Expecting.{are_spaces}
use Rattle.clone_recipient.proofs.plans.are_spaces.Given as goal

abbrev pub invariant-loop-space : goal.invariant-loop-space
invariant-loop-space l =
    are_spaces l.least (drop l.space-index l.spaces) ≡ are_spaces 0 l.spaces
