use Rattle.clone_jobs.specs.Upkeep.{UpkeepTurn}
use Rattle.clone_jobs.proofs.TurnLemmas.{none_is, seat_begins}
use Rattle.clone_jobs.proofs.UpkeepLemmas.{loop_ends, loop_goes}
use Rattle.clone_jobs.proofs.upkeep.keep_up.Goals as goal

pub loop-init : goal.loop-init
loop-init g c = (tt, tt, seat_begins (UpkeepTurn c.args.upkeep) tt c.args.seat.now, c.requires)

pub loop-preserved : goal.loop-preserved
loop-preserved g c = (
  tt,
  tt,
  loop_goes c.args.upkeep c.args.seat.now c.loop.seat c.turn.new.seat c.turn.result c.loop.invariant.2 c.turn.ensures.takes (none_is c.turn.result c.in_default.not-Some),
  c.turn.ensures.seat,
)

pub returns-in-Some-turn : goal.returns-in-Some-turn
returns-in-Some-turn g c =
    loop_ends c.args.upkeep c.args.seat.now c.loop.seat c.turn.new.seat c.turn.result c.in-Some-turn.ending c.loop.invariant.2 c.turn.ensures.takes c.in-Some-turn.is
