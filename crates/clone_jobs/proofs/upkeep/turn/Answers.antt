use Rattle.clone_jobs.proofs.TurnLemmas.{none_is}
use Rattle.clone_jobs.proofs.UpkeepLemmas.{turn_goes, turn_halted, turn_stops}
use Rattle.clone_jobs.proofs.upkeep.turn.Goals as goal

pub returns-then-is_halted-clause-takes : goal.returns-then-is_halted-clause-takes
returns-then-is_halted-clause-takes g c =
    turn_halted c.args.upkeep c.args.seat.now c.is_halted.new.seat c.is_halted.result c.is_halted.ensures.said c.if-is_halted.true

pub returns-in_default-clause-takes : goal.returns-in_default-clause-takes
returns-in_default-clause-takes g c =
    turn_goes c.args.upkeep c.args.seat.now c.is_halted.new.seat c.work.new.seat c.is_halted.result c.work.result
    c.is_halted.ensures.said c.if-is_halted.false c.work.ensures.made (none_is c.work.result c.in_default.not-Some)

pub returns-clause-takes : goal.returns-clause-takes
returns-clause-takes g c =
    turn_stops c.args.upkeep c.args.seat.now c.is_halted.new.seat c.work.new.seat c.halt.new.seat c.is_halted.result c.work.result c.in-Some.ending
    c.is_halted.ensures.said c.if-is_halted.false c.work.ensures.made c.in-Some.is c.halt.ensures.said
