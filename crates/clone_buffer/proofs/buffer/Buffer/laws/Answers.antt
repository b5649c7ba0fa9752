use Rattle.std.proofs.Common.{subst, refl}
use Rattle.clone_buffer.proofs.Common.{log_of, replayed, Buffered}
use Rattle.clone_image.specs.Replay.{Replays}
use Rattle.clone_buffer.proofs.buffer.Buffer.laws.Goals as goal

pub returns-clause-replays : goal.returns-clause-replays
returns-clause-replays c =
    let log = c.self.inside.shadow.state.log in
    subst (λ (v : Buffered). Replays (log_of v.log) (replayed v.log)) c.self.view_is (record { log = record { mtrs = log; each = c.self.invariant.spelled; text = refl }; made = refl })
