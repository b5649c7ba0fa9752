use Rattle.std.proofs.Common.{refl, ap, option_map}
use Rattle.clone_core.specs.Acting.{stop_of}
use Rattle.clone_top.proofs.OutcomeLemmas.{left_unread, same_disks}
use Rattle.clone_top.proofs.run.run_steps.Goals as goal

pub returns-in-Ok-clause-outcome : goal.returns-in-Ok-clause-outcome
returns-in-Ok-clause-outcome g c = λ number. c.run_script.ensures number _ _ c.in-Ok.ensures.read

pub returns-in-Err-clause-outcome : goal.returns-in-Err-clause-outcome
returns-in-Err-clause-outcome g c = λ number.
    let left = c.leave.ensures in
    left_unread _ _ _ _ c.in-Err.unread c.say_unread.result _ left.status c.in-Err.ensures.unread (same_disks _ _ _ _ left.donor left.recipient) record { binlog = refl; drops = left.drops; stop = ap (option_map stop_of) left.stop } c.say_unread.ensures
