use Rattle.std.proofs.Common.{subst, sym}
use Rattle.clone_buffer.proofs.Common.{frame_at, HoldsPage, Frames, IsPool, within, Buffered}
use Rattle.clone_buffer.specs.Keeping.{Stands}
use Rattle.clone_buffer.proofs.MoveLemmas.{stands_unpinned}
use Rattle.clone_buffer.proofs.buffer.Buffer.unpin.Goals as goal

pub returns-clause-stands : goal.returns-clause-stands
returns-clause-stands c =
    let i = c.self.inside in
    let v : Buffered = record { log = i.shadow.state.log; right = i.shadow.state.right; ring = i.ring; pool = i.pool } in
    let holds = subst (λ (s : Buffered). HoldsPage (frame_at s.pool.frames c.args.at)) (sym c.self.view_is) c.requires.holds in
    λ beside told st. subst (λ (w : Frames). Stands (record v { pool = w }) beside told) (sym c.unpin.ensures)
    (stands_unpinned v beside told c.args.at c.laws.ensures (within i.pool.frames c.args.at holds) (subst IsPool c.unpin.ensures c.laws-2.ensures) (subst (λ (s : Buffered). Stands s beside told) (sym c.self.view_is) st))
