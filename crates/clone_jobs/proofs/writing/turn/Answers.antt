use Rattle.std.proofs.Common.{◌∙◌, sym}
use Rattle.clone_jobs.proofs.TurnLemmas.{none_is}
use Rattle.clone_jobs.proofs.WritingLemmas.{write_done, write_goes, write_halted, write_stops}
use Rattle.clone_jobs.proofs.writing.turn.Goals as goal

pub returns-in_default-clause-takes : goal.returns-in_default-clause-takes
returns-in_default-clause-takes g c = write_done c.args.writer.now c.args.seat.now (sym c.next.ensures ∙ none_is c.next.result c.in_default.not-Some)

pub returns-then-is_halted-clause-takes : goal.returns-then-is_halted-clause-takes
returns-then-is_halted-clause-takes g c =
    write_halted c.args.writer.now c.args.seat.now c.is_halted.new.seat c.is_halted.result c.is_halted.ensures.said c.if-is_halted.true

pub returns-then-is_to_wait-clause-takes : goal.returns-then-is_to_wait-clause-takes
returns-then-is_to_wait-clause-takes g c =
    let none = none_is c.hear.result c.in_default-hear.not-Some in
    write_goes c.args.writer.now c.hear.new.writer c.args.seat.now c.is_halted.new.seat c.engine-given.new.seat c.is_halted.result c.in-Some.call c.engine-given.result c.hear.result
    (sym c.next.ensures ∙ c.in-Some.is) c.is_halted.ensures.said c.if-is_halted.false c.engine-given.ensures.said (c.hear.ensures.told none) c.hear.ensures.cause none

pub returns-else-is_to_wait-clause-takes : goal.returns-else-is_to_wait-clause-takes
returns-else-is_to_wait-clause-takes g c =
    let none = none_is c.hear.result c.in_default-hear.not-Some in
    write_goes c.args.writer.now c.hear.new.writer c.args.seat.now c.is_halted.new.seat c.engine-given.new.seat c.is_halted.result c.in-Some.call c.engine-given.result c.hear.result
    (sym c.next.ensures ∙ c.in-Some.is) c.is_halted.ensures.said c.if-is_halted.false c.engine-given.ensures.said (c.hear.ensures.told none) c.hear.ensures.cause none

pub returns-clause-takes : goal.returns-clause-takes
returns-clause-takes g c =
    write_stops c.args.writer.now c.hear.new.writer c.args.seat.now c.is_halted.new.seat c.engine-given.new.seat c.halt.new.seat c.is_halted.result c.in-Some.call c.engine-given.result c.hear.result c.in-Some-hear.ending
    (sym c.next.ensures ∙ c.in-Some.is) c.is_halted.ensures.said c.if-is_halted.false c.engine-given.ensures.said c.hear.ensures.cause c.in-Some-hear.is c.halt.ensures.said
