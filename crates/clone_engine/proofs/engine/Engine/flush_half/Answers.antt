use Rattle.clone_flush.specs.Calls.{State}
use Rattle.clone_engine.specs.Over.{over}
use Rattle.clone_engine.proofs.FlushLemmas.{half_acts}
use Rattle.clone_engine.proofs.engine.Engine.flush_half.Goals as goal

pub returns : goal.returns
returns g c =
    let a = c.args in
    let b = c.half in
    let t : State = record { buffer = b.new.buffer; flights = b.new.self } in
    record {
      acts = half_acts (over a.self.now (g.D.PageDisk.state a.disk.now)) t (g.D.PageDisk.state b.new.disk) a.space a.page b.result c.requires.donor c.laws.ensures.buffer c.answered-written.result c.answered-written.ensures b.ensures.counts b.ensures.stands b.ensures.halves;
    }
