use Rattle.std.proofs.Common.{string_bytes}
use Rattle.clone_core.proofs.LineLemmas.{line_breaks, notes_answer, tear_makes, fail_donor_makes, fail_recipient_makes}
use Rattle.clone_core.proofs.world.World.event.Goals as goal

pub returns-in-Tear-clause-ok : goal.returns-in-Tear-clause-ok
returns-in-Tear-clause-ok g c = notes_answer string_bytes _ _ c.args.line.now _ c.donor_order_line.result (tear_makes _ _ _ _ c.in-Tear.is) c.donor_order_line.ensures.ok

pub returns-in-Tear-clause-err : goal.returns-in-Tear-clause-err
returns-in-Tear-clause-err g c = line_breaks _ _ c.args.line.now c.donor_order_line.result c.donor_order_line.ensures.err

pub returns-in-FailDonor-clause-ok : goal.returns-in-FailDonor-clause-ok
returns-in-FailDonor-clause-ok g c = notes_answer string_bytes _ _ c.args.line.now _ c.donor_order_line-in-FailDonor.result (fail_donor_makes _ _ _ _ c.fail_at.result c.in-FailDonor.is c.fail_at.ensures) c.donor_order_line-in-FailDonor.ensures.ok

pub returns-in-FailDonor-clause-err : goal.returns-in-FailDonor-clause-err
returns-in-FailDonor-clause-err g c = line_breaks _ _ c.args.line.now c.donor_order_line-in-FailDonor.result c.donor_order_line-in-FailDonor.ensures.err

pub returns-in-FailRecipient-clause-ok : goal.returns-in-FailRecipient-clause-ok
returns-in-FailRecipient-clause-ok g c = notes_answer string_bytes _ _ c.args.line.now _ c.recipient_order_line.result (fail_recipient_makes _ _ _ _ c.fail_at-in-FailRecipient.result c.in-FailRecipient.is c.fail_at-in-FailRecipient.ensures) c.recipient_order_line.ensures.ok

pub returns-in-FailRecipient-clause-err : goal.returns-in-FailRecipient-clause-err
returns-in-FailRecipient-clause-err g c = line_breaks _ _ c.args.line.now c.recipient_order_line.result c.recipient_order_line.ensures.err
