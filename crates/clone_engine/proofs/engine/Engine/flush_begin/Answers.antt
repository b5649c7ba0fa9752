use Rattle.std.proofs.Common.{◌∙◌, true, false, sym, ap}
use Rattle.clone_flush.specs.Calls.{State}
use Rattle.clone_session.specs.Cloning.{Cloning}
use Rattle.clone_session.specs.Effects.{with_noted}
use Rattle.clone_engine.specs.Over.{over}
use Rattle.clone_engine.proofs.FlushLemmas.{begin_acts, unbegun}
use Rattle.clone_engine.proofs.engine.Engine.flush_begin.Goals as goal

pub returns-then-is_err : goal.returns-then-is_err
returns-then-is_err g c = record { acts = unbegun (over c.args.self.now (g.D.PageDisk.state c.args.disk.now)) c.reserve_note.new.self c.args.space c.args.page c.requires.donor c.reserve_note.ensures.same }

pub returns-then-not-has_begun : goal.returns-then-not-has_begun
returns-then-not-has_begun g c =
    let a = c.args in
    let b = c.begin in
    let is = b.ensures in
    let t : State = record { buffer = b.new.buffer; flights = b.new.self } in
    record {
      acts = begin_acts (over a.self.now (g.D.PageDisk.state a.disk.now)) t (g.D.PageDisk.state b.new.disk) a.space a.page b.result c.requires.donor c.laws-3.ensures.buffer c.laws-2.ensures.pool c.laws-2.ensures.buffer c.laws.ensures c.reserve_note.new.self
          (record { counts = is.counts; begins = is.begins; files = is.files; stands = is.stands; unwritten = is.unwritten }) c.answered-begun.result c.answered-begun.ensures false (sym c.has_begun.ensures ∙ c.if-not-has_begun.true) c.reserve_note.ensures.same;
    }

pub returns : goal.returns
returns g c =
    let a = c.args in
    let b = c.begin in
    let is = b.ensures in
    let t : State = record { buffer = b.new.buffer; flights = b.new.self } in
    record {
      acts = begin_acts (over a.self.now (g.D.PageDisk.state a.disk.now)) t (g.D.PageDisk.state b.new.disk) a.space a.page b.result c.requires.donor c.laws-3.ensures.buffer c.laws-2.ensures.pool c.laws-2.ensures.buffer c.laws.ensures c.note.new.self
          (record { counts = is.counts; begins = is.begins; files = is.files; stands = is.stands; unwritten = is.unwritten }) c.answered-begun.result c.answered-begun.ensures true (sym c.has_begun.ensures ∙ c.if-not-has_begun.false) (c.note.ensures ∙ ap (λ (k : Cloning). with_noted (a.space, a.page) k) c.reserve_note.ensures.same);
    }
