use Rattle.std.proofs.Common.{sym, subst}
use Rattle.clone_buffer.proofs.Common.{Buffered}
use Rattle.clone_buffer.specs.Keeping.{Stands}
use Rattle.clone_buffer.proofs.MoveLemmas.{stands_raised}
use Rattle.clone_buffer.proofs.buffer.Buffer.raise_floor.Goals as goal

pub returns-clause-stands : goal.returns-clause-stands
returns-clause-stands c =
    let i = c.self.inside in
    let v : Buffered = record { log = i.shadow.state.log; right = i.shadow.state.right; ring = i.ring; pool = i.pool } in
    λ beside told st. stands_raised v beside told c.raise_floor.new.self (subst (λ (s : Buffered). Stands s beside told) (sym c.self.view_is) st)
