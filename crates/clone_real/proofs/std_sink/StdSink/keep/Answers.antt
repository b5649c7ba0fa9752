use Rattle.std.proofs.Common.{OnOk, drop, subst}
use Rattle.std.specs.Io.KnownBytes.{Appends, append_known}
use Rattle.clone_real.specs.Streams.{SinkModel, taken_by}
use Rattle.clone_real.proofs.Waiting.{taken_in}
use Rattle.clone_real.proofs.std_sink.StdSink.keep.Goals as goal

pub returns-clause-told : goal.returns-clause-told
returns-clause-told g c =
    let out = g.W.Write.contents c.self.inside.stream in
    let old = c.self.inside.buffer.items in
    let new = c.extend_from_slice.new.self.items in
    let start = c.self.inside.start in
    subst (λ (s : SinkModel). OnOk c.extend_from_slice.result (Appends (taken_by s) (append_known out (drop start new)) c.args.bytes.now)) c.self.view_is (taken_in c.extend_from_slice.result out start old new c.args.bytes.now c.extend_from_slice.ensures.items c.self.invariant)
