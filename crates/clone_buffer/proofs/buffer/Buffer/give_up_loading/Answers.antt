use Rattle.std.proofs.Common.{subst, sym, refl}
use Rattle.clone_buffer.proofs.Common.{PageName, Frames, IsPool, IsBuffer, Buffered}
use Rattle.clone_buffer.specs.Keeping.{Stands}
use Rattle.clone_buffer.proofs.AsideLemmas.{buffer_given, stands_given}
use Rattle.clone_buffer.proofs.buffer.Buffer.give_up_loading.Goals as goal

pub invariant_of-self : goal.invariant_of-self
invariant_of-self c =
    let i = c.self.inside in
    let v : Buffered = record { log = i.shadow.state.log; right = i.shadow.state.right; ring = i.ring; pool = i.pool } in
    let page : PageName = record { space = c.args.space; number = c.args.number } in
    subst (λ (w : Frames). IsBuffer (record v { pool = w })) (sym c.give_up_loading.ensures) (buffer_given v page c.self.invariant _ refl)

pub returns-clause-stands : goal.returns-clause-stands
returns-clause-stands c =
    let i = c.self.inside in
    let v : Buffered = record { log = i.shadow.state.log; right = i.shadow.state.right; ring = i.ring; pool = i.pool } in
    let page : PageName = record { space = c.args.space; number = c.args.number } in
    λ beside told st. subst (λ (w : Frames). Stands (record v { pool = w }) beside told) (sym c.give_up_loading.ensures)
    (stands_given v page c.laws.ensures beside told _ refl (subst IsPool c.give_up_loading.ensures c.laws-2.ensures) (subst (λ (s : Buffered). Stands s beside told) (sym c.self.view_is) st))
