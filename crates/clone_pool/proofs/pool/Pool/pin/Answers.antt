use Rattle.std.proofs.Common.{◌<◌, ◌∙◌, length, ap, subst, sym, arith}
use Rattle.std.proofs.lemmas.List.{get_or_read}
use Rattle.clone_pool.specs.Frames.{no_frame, frame_at, claim_of, HoldsPage}
use Rattle.clone_pool.specs.Orders.{age_rank}
use Rattle.clone_pool.specs.Pool.{Frames, IsFrame}
use Rattle.clone_pool.proofs.FrameLemmas.{pinned_frame}
use Rattle.clone_pool.proofs.PoolLemmas.{used_frame}
use Rattle.clone_pool.proofs.pool.Pool.pin.Goals as goal

pub invariant_of-self : goal.invariant_of-self
invariant_of-self c =
    let i = c.self.inside in
    let v : Frames = record { frames = i.frames.items; uses = i.uses; missed = i.missed } in
    let at = c.frame_number-at.result in
    let g = c.index_mut.result.now in
    let low = subst (λ (v : Frames). at < length v.frames) (sym c.self.view_is) c.frame_number-at.ensures.within in
    let was = get_or_read i.frames.items at g low c.index_mut.ensures.value no_frame in
    let here = sym (was ∙ ap (frame_at i.frames.items) c.frame_number-at.ensures.same ∙ ap (λ (v : Frames). frame_at v.frames c.args.at) c.self.view_is) in
    let fine = subst (IsFrame i.uses) (sym was) (c.self.invariant.pool.frame at) in
    let edit = subst (IsFrame i.uses) (sym c.pin.ensures) (pinned_frame i.uses g fine (subst HoldsPage here c.requires.holds)) in
    used_frame v i.orders c.refresh_use.new.self c.self.invariant at i.uses c.pin.new.self _ low (omega arith) c.self.invariant.pool.uses edit (ap claim_of c.pin.ensures ∙ ap claim_of was) (ap age_rank c.pin.ensures ∙ ap age_rank was) c.deref.ensures.value c.refresh_use.ensures
