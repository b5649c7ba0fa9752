use Rattle.std.proofs.Common.{◌≡◌, drop}
use Rattle.clone_recipient.specs.Expecting.{are_at}
use Rattle.clone_recipient.proofs.blocks.are_at.Given as goal

abbrev pub invariant-loop-index : goal.invariant-loop-index
invariant-loop-index l =
    are_at (drop l.index l.places) (drop l.index l.pages) ≡ are_at l.places l.pages
