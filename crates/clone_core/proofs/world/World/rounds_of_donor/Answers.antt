use Rattle.clone_core.specs.CloneEvents.{ComesBy}
use Rattle.clone_core.proofs.RoundLemmas.{donor_rounds_begin, donor_rounds_fewer, donor_rounds_go, is_none, round_ended, of_some, round_then, tasks_fewer}
use Rattle.clone_core.proofs.RoundsIdle.{comes_so}
use Rattle.clone_core.proofs.UntoldLemmas.{on_err}
use Rattle.clone_core.proofs.world.World.rounds_of_donor.Goals as goal

pub loop-round-init : goal.loop-round-init
loop-round-init g c = donor_rounds_begin c.args.self.now

pub returns-in_err-round-clause-err : goal.returns-in_err-round-clause-err
returns-in_err-round-clause-err g c = on_err c.from_residual.result _ (round_ended c.args.self.now c.loop-round.self c.round.new.self c.loop-round.invariant.made c.in_err-round.ensures.err)

pub returns-in-Some-clause-made : goal.returns-in-Some-clause-made
returns-in-Some-clause-made g c = round_then c.args.self.now c.loop-round.self c.round.new.self c.loop-round.invariant.made c.in_ok-round.ensures.made

pub returns-in-Some-clause-came : goal.returns-in-Some-clause-came
returns-in-Some-clause-came g c = comes_so c.in_ok-round.round c.args.stops_when_ready c.in-Some.came c.loop-round.self c.round.new.self c.in_ok-round.ensures.idles (of_some c.comes_to.result c.in-Some.came (λ how. ComesBy c.in_ok-round.round c.args.stops_when_ready how c.round.new.self) c.in-Some.is c.comes_to.ensures.some) c.never_sticks.ensures

pub returns-in-Tasks-clause-made : goal.returns-in-Tasks-clause-made
returns-in-Tasks-clause-made g c = round_then c.args.self.now c.loop-round.self c.round.new.self c.loop-round.invariant.made c.in_ok-round.ensures.made

pub returns-in-Tasks-clause-left : goal.returns-in-Tasks-clause-left
returns-in-Tasks-clause-left g c = tasks_fewer c.in_ok-round.round c.args.self.now c.loop-round.self c.round.new.self c.in-Tasks.is c.loop-round.invariant c.in_ok-round.ensures.left

pub loop-round-smaller : goal.loop-round-smaller
loop-round-smaller g c =
    donor_rounds_fewer c.in_ok-round.round c.loop-round.self c.round.new.self (c.comes_to.ensures.none (is_none c.comes_to.result c.in_default.not-Some)).busy c.in_default-round.not-Tasks c.in_ok-round.ensures.left

pub loop-round-preserved : goal.loop-round-preserved
loop-round-preserved g c =
    donor_rounds_go c.in_ok-round.round c.args.self.now c.loop-round.self c.round.new.self (c.comes_to.ensures.none (is_none c.comes_to.result c.in_default.not-Some)).busy c.in_default-round.not-Tasks c.loop-round.invariant c.in_ok-round.ensures.made c.in_ok-round.ensures.left
