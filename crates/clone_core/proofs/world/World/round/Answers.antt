use Rattle.clone_core.proofs.LeftLemmas.{donor_round, tasks_round}
use Rattle.clone_core.proofs.RoundLemmas.{donor_ended, round_made, tasks_ended}
use Rattle.clone_core.proofs.RoundsIdle.{round_idles}
use Rattle.clone_core.proofs.UntoldLemmas.{on_err}
use Rattle.clone_core.proofs.world.World.round.Goals as goal

pub returns-in_err-by_tasks-clause-err : goal.returns-in_err-by_tasks-clause-err
returns-in_err-by_tasks-clause-err g c = on_err c.from_residual.result _ (tasks_ended c.args.self.now c.round_of_tasks.new.self c.in_err-by_tasks.ensures.err)

pub returns-in_err-by_donor-clause-err : goal.returns-in_err-by_donor-clause-err
returns-in_err-by_donor-clause-err g c = on_err c.from_residual-in_err-by_donor.result _ (donor_ended c.args.self.now c.round_of_tasks.new.self c.round_of_donor.new.self c.in_ok-by_tasks.ensures.made c.in_err-by_donor.ensures.err)

pub returns-then-by_tasks-clause-made : goal.returns-then-by_tasks-clause-made
returns-then-by_tasks-clause-made g c = round_made c.args.self.now c.round_of_tasks.new.self c.round_of_donor.new.self c.in_ok-by_tasks.ensures.made c.in_ok-by_donor.ensures.made

pub returns-then-by_tasks-clause-left : goal.returns-then-by_tasks-clause-left
returns-then-by_tasks-clause-left g c =
    tasks_round c.in_ok-by_tasks.by_tasks c.in_ok-by_donor.by_donor c.args.self.now c.round_of_tasks.new.self c.round_of_donor.new.self c.if-by_tasks.true c.in_ok-by_tasks.ensures.left c.in_ok-by_donor.ensures.left

pub returns-then-by_donor-clause-made : goal.returns-then-by_donor-clause-made
returns-then-by_donor-clause-made g c = round_made c.args.self.now c.round_of_tasks.new.self c.round_of_donor.new.self c.in_ok-by_tasks.ensures.made c.in_ok-by_donor.ensures.made

pub returns-then-by_donor-clause-left : goal.returns-then-by_donor-clause-left
returns-then-by_donor-clause-left g c =
    donor_round c.in_ok-by_tasks.by_tasks c.in_ok-by_donor.by_donor c.args.self.now c.round_of_tasks.new.self c.round_of_donor.new.self c.if-by_tasks.false c.if-by_donor.true c.in_ok-by_tasks.ensures.left c.in_ok-by_donor.ensures.left

pub returns-clause-made : goal.returns-clause-made
returns-clause-made g c = round_made c.args.self.now c.round_of_tasks.new.self c.round_of_donor.new.self c.in_ok-by_tasks.ensures.made c.in_ok-by_donor.ensures.made

pub returns-clause-idles : goal.returns-clause-idles
returns-clause-idles g c =
    round_idles c.in_ok-by_tasks.by_tasks c.in_ok-by_donor.by_donor c.args.self.now c.round_of_tasks.new.self c.round_of_donor.new.self c.if-by_tasks.false c.if-by_donor.false c.in_ok-by_tasks.ensures.idle c.in_ok-by_donor.ensures.idle
