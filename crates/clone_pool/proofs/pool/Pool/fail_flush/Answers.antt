use Rattle.std.proofs.Common.{◌<◌, ◌∙◌, length, ap, subst, sym}
use Rattle.std.proofs.lemmas.List.{get_or_read}
use Rattle.clone_pool.specs.Frames.{no_frame, frame_at, claim_of, HoldsPage, IsInFlight}
use Rattle.clone_pool.specs.Orders.{age_rank, use_rank}
use Rattle.clone_pool.specs.Pool.{Frames, IsFrame}
use Rattle.clone_pool.proofs.FrameLemmas.{failed_frame}
use Rattle.clone_pool.proofs.PoolLemmas.{unranked_frame}
use Rattle.clone_pool.proofs.pool.Pool.fail_flush.Goals as goal

pub invariant_of-self : goal.invariant_of-self
invariant_of-self c =
    let i = c.self.inside in
    let v : Frames = record { frames = i.frames.items; uses = i.uses; missed = i.missed } in
    let at = c.frame_number-at.result in
    let g = c.index_mut.result.now in
    let low = subst (λ (v : Frames). at < length v.frames) (sym c.self.view_is) c.frame_number-at.ensures.within in
    let was = get_or_read i.frames.items at g low c.index_mut.ensures.value no_frame in
    let here = sym (was ∙ ap (frame_at i.frames.items) c.frame_number-at.ensures.same ∙ ap (λ (v : Frames). frame_at v.frames c.args.at) c.self.view_is) in
    let fine = subst (IsFrame i.uses) (sym was) (c.self.invariant.pool.frame at) in
    let edit = subst (IsFrame i.uses) (sym c.fail_flush.ensures) (failed_frame i.uses g fine (subst HoldsPage here c.requires.holds) (subst IsInFlight here c.requires.flight)) in
    unranked_frame v i.orders c.self.invariant at c.fail_flush.new.self low edit (ap claim_of c.fail_flush.ensures ∙ ap claim_of was) (ap use_rank c.fail_flush.ensures ∙ ap use_rank was) (ap age_rank c.fail_flush.ensures ∙ ap age_rank was)
