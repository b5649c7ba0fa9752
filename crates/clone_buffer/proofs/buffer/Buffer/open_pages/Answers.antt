use Rattle.std.proofs.Common.{subst}
use Rattle.std.proofs.lemmas.Result.{IfOk-weaker}
use Rattle.clone_buffer.proofs.Common.{DiskImage, Buffered, Beside, IsKept}
use Rattle.clone_buffer.specs.Reading.{OthersAreClosed}
use Rattle.clone_buffer.proofs.ReadLemmas.{others_closed}
use Rattle.clone_buffer.proofs.buffer.Buffer.open_pages.Goals as goal

pub returns-clause-closed : goal.returns-clause-closed
returns-clause-closed c =
    let i = c.self.inside in
    let v : Buffered = record { log = i.shadow.state.log; right = i.shadow.state.right; ring = i.ring; pool = i.pool } in
    IfOk-weaker c.open_pages.result _ _ (λ pages are. subst (λ (s : Buffered). (beside : Beside) (m : DiskImage) → IsKept s beside m → OthersAreClosed s beside m pages.items) c.self.view_is (λ beside m k. others_closed v beside m pages.items are k)) c.open_pages.ensures
