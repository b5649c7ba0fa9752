use Rattle.std.proofs.Common.{◌≡◌, ◌≤◌, length, take, ap, sym, subst, arith, IsTrue}
use Rattle.clone_buffer.proofs.Common.{length-append, spelling, replayed, Window, free_in, State, Buffered, IsBuffer, Shows, written}
use Rattle.clone_mtr.proofs.Spellings.{spelling_some}
use Rattle.clone_image.proofs.Logs.{spelled_by}
use Rattle.clone_ring.specs.Window.{end_of}
use Rattle.clone_buffer.proofs.WrittenLemmas.{IsBuffer-written, written_is}
use Rattle.clone_buffer.proofs.buffer.Buffer.append.Goals as goal

pub change_frames-requires : goal.change_frames-requires
change_frames-requires c =
    omega (arith, c.end-start.ensures.value, c.in_ok-end.ensures.2, ap (λ (w : Window). end_of w) c.in_ok-end.ensures.1, length-append c.self.inside.ring.bytes (take c.spell-length.result c.spell-length.new.into), ap length c.spell-length.ensures.spelled.text, spelling_some c.args.records.now)

pub invariant_of-self-2 : goal.invariant_of-self-2
invariant_of-self-2 c =
    let i = c.self.inside in
    let v : Buffered = record { log = i.shadow.state.log; right = i.shadow.state.right; ring = i.ring; pool = i.pool } in
    let w : Buffered = record { log = c.then-self-inside.result.state.log; right = c.then-self-inside.result.state.right; ring = c.append.new.self; pool = c.change_frames.new.pool } in
    let text = c.spell-length.ensures.spelled.text in
    let is : w ≡ written c.args.records.now v = written_is v w c.args.records.now (take c.spell-length.result c.spell-length.new.into) c.end-start.result c.in_ok-end.end text (ap (λ (s : State). s.log) c.then-self-inside.ensures) (ap (λ (s : State). s.right) c.then-self-inside.ensures) c.in_ok-end.ensures.1 c.end-start.ensures.value c.in_ok-end.ensures.2 c.change_frames.ensures in
    let room : length (spelling c.args.records.now) ≤ free_in i.ring = omega (arith, ap length text, c.in_ok-end.ensures.0) in
    let shows = subst (λ (s : Buffered). IsTrue s.right → Shows (replayed (written c.args.records.now s).log) (written c.args.records.now s).pool.frames) (sym c.self.view_is) c.requires.shows in
    subst IsBuffer (sym is) (IsBuffer-written v c.args.records.now c.self.invariant (spelled_by (take c.spell-length.result c.spell-length.new.into) c.args.records.now c.spell-length.ensures.spelled) room shows)
