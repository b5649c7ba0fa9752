use Rattle.clone_jobs.specs.Writing.{WriterTurn}
use Rattle.clone_jobs.proofs.TurnLemmas.{none_is, seat_begins}
use Rattle.clone_jobs.proofs.WritingLemmas.{loop_ends, loop_goes}
use Rattle.clone_jobs.proofs.writing.write_all.Goals as goal

pub loop-init : goal.loop-init
loop-init g c = (tt, tt, seat_begins WriterTurn c.args.writer.now c.args.seat.now, c.requires)

pub loop-preserved : goal.loop-preserved
loop-preserved g c = (
  tt,
  tt,
  loop_goes c.args.writer.now c.loop.writer c.turn.new.writer c.args.seat.now c.loop.seat c.turn.new.seat c.turn.result
      c.loop.invariant.2 c.turn.ensures.takes (none_is c.turn.result c.in_default.not-Some),
  c.turn.ensures.seat,
)

pub returns-in-Some-turn : goal.returns-in-Some-turn
returns-in-Some-turn g c =
    loop_ends c.args.writer.now c.loop.writer c.turn.new.writer c.args.seat.now c.loop.seat c.turn.new.seat c.turn.result c.in-Some-turn.ending
    c.loop.invariant.2 c.turn.ensures.takes c.in-Some-turn.is
