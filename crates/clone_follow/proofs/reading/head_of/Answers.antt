use Rattle.clone_follow.proofs.FrameFormats.{lengths_choice}
use Rattle.clone_follow.proofs.reading.head_of.Goals as goal

pub number_in-requires-2-clause-order : goal.number_in-requires-2-clause-order
number_in-requires-2-clause-order c = rw c.lengths.ensures (lengths_choice c.in_ok-code.code).order
