use Rattle.std.proofs.Common.{arith}
use Rattle.clone_follow.proofs.ChangeFormats.{kinds_choice, sizes_of_choice, size_within, read_size}
use Rattle.clone_follow.proofs.payloads.value_of.Goals as goal

pub number_in-requires-clause-order : goal.number_in-requires-clause-order
number_in-requires-clause-order c = rw c.kinds.ensures (kinds_choice c.args.more c.args.long).order

pub number_in-requires-2-clause-order : goal.number_in-requires-2-clause-order
number_in-requires-2-clause-order c = rw c.sizes_of.ensures (sizes_of_choice c.in_ok-kind.kind c.args.more c.args.long c.requires.fill).order

pub valued-requires : goal.valued-requires
valued-requires c = omega (arith, c.in_ok-bytes.ensures.long, size_within c.args.more c.args.long c.in_ok-kind.kind c.in_ok-size.size (rw c.sizes_of.ensures at c.in_ok-size.ensures.one))

pub returns-clause-fits : goal.returns-clause-fits
returns-clause-fits c = rw c.valued.ensures (read_size c.args.more c.args.long c.in_ok-kind.kind c.in_ok-size.size c.in_ok-bytes.bytes.now (rw c.kinds.ensures at c.in_ok-kind.ensures.one) (rw c.sizes_of.ensures at c.in_ok-size.ensures.one) c.in_ok-bytes.ensures.long)
