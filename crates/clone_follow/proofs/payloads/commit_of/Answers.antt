use Rattle.std.proofs.Common.{arith}
use Rattle.clone_follow.proofs.ChangeFormats.{count_fills}
use Rattle.clone_follow.proofs.FrameFormats.{counts_choice}
use Rattle.clone_follow.proofs.payloads.commit_of.Goals as goal

pub number_in-requires-clause-order : goal.number_in-requires-clause-order
number_in-requires-clause-order c = rw c.counts.ensures (counts_choice c.args.long c.requires).order

pub changes_of-requires-clause-fill : goal.changes_of-requires-clause-fill
changes_of-requires-clause-fill c = count_fills _ c.in_ok-count.count (rw c.counts.ensures at c.in_ok-count.ensures.one)

pub changes_of-requires-clause-few : goal.changes_of-requires-clause-few
changes_of-requires-clause-few c = (let one = rw c.counts.ensures at c.in_ok-count.ensures.one in omega (arith, one.high))
