use Rattle.std.proofs.Common.{sym, subst}
use Rattle.std.specs.declared.option.Option.{Option}
use Rattle.clone_outside.specs.Disk.{DiskImage}
use Rattle.clone_buffer.specs.OnePage.{Copies}
use Rattle.clone_flush.specs.Flights.{Flights, StandsFlown, writes_of}
use Rattle.clone_flush.proofs.FlightLemmas.{stands_checked}
use Rattle.clone_flush.proofs.flusher.Flusher.checkpoint.Goals as goal

-- with the new checkpoint alone
stood : (c : goal.After-settle_floor) (copies : Copies) (told : Option DiskImage) → StandsFlown c.args.buffer.now c.args.self.now copies told
    → StandsFlown c.args.buffer.now (record { writes = writes_of c.self.inside.writes.entries; checkpoint = c.reached-self-inside.result; files = c.self.inside.files }) copies told
stood c copies told st =
    subst (λ (f : Flights). StandsFlown c.args.buffer.now (record f { checkpoint = c.reached-self-inside.result }) copies told) (sym c.self.view_is)
    (stands_checked c.args.buffer.now c.args.self.now copies told c.reached-self-inside.result c.laws.ensures.pool c.reached-self-inside.ensures st)

pub returns-clause-floor : goal.returns-clause-floor
returns-clause-floor c = λ copies told st. c.settle_floor.ensures.floor copies told (stood c copies told st)

pub returns-clause-stands : goal.returns-clause-stands
returns-clause-stands c = λ copies told st. c.settle_floor.ensures.stands copies told (stood c copies told st)
