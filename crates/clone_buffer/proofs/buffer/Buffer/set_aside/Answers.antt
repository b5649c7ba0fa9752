use Rattle.std.proofs.Common.{subst, sym, IsTrue, IsSome}
use Rattle.clone_buffer.proofs.Common.{PageName, Frames, IsPool, IsBuffer, Buffered, replayed}
use Rattle.clone_image.specs.Image.{page_of}
use Rattle.clone_buffer.specs.Keeping.{Stands}
use Rattle.clone_buffer.proofs.AsideLemmas.{buffer_aside, stands_aside}
use Rattle.clone_buffer.proofs.buffer.Buffer.set_aside.Goals as goal

pub invariant_of-self : goal.invariant_of-self
invariant_of-self c =
    let i = c.self.inside in
    let v : Buffered = record { log = i.shadow.state.log; right = i.shadow.state.right; ring = i.ring; pool = i.pool } in
    let page : PageName = record { space = c.args.space; number = c.args.number } in
    let there = subst (λ (s : Buffered). IsTrue s.right → IsSome (page_of (replayed s.log) page.space page.number)) (sym c.self.view_is) c.requires.there in
    subst (λ (w : Frames). IsBuffer (record v { pool = w })) (sym c.set_aside-at.ensures.aside) (buffer_aside v page c.set_aside-at.result c.set_aside-at.ensures.victim c.self.invariant there)

pub returns-clause-stands : goal.returns-clause-stands
returns-clause-stands c =
    let i = c.self.inside in
    let v : Buffered = record { log = i.shadow.state.log; right = i.shadow.state.right; ring = i.ring; pool = i.pool } in
    let page : PageName = record { space = c.args.space; number = c.args.number } in
    λ beside told st. subst (λ (w : Frames). Stands (record v { pool = w }) beside told) (sym c.set_aside-at.ensures.aside)
    (stands_aside v page c.set_aside-at.result c.set_aside-at.ensures.victim c.laws.ensures (subst IsPool c.set_aside-at.ensures.aside c.laws-2.ensures) beside told (subst (λ (s : Buffered). Stands s beside told) (sym c.self.view_is) st))
