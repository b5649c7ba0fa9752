use Rattle.clone_ring.specs.Window.{end_of}
use Rattle.clone_trx.proofs.Common.{◌+◌, length, ap, Buffered, spelling}
use Rattle.clone_trx.proofs.HoldLemmas.{records_has}
use Rattle.clone_trx.proofs.hold.write_longer_held.Goals as goal

pub returns-clause-stay : goal.returns-clause-stay
returns-clause-stay c =
    let old : Buffered = c.args.buffer.now in
    records_has c.args.records.now (end_of old.ring) (end_of old.ring + length (spelling c.args.records.now)) old.pool c.write_longer.new.self.pool (ap (λ (b : Buffered). b.pool) c.in-Ok.ensures.written.1) c.laws.ensures.pool
