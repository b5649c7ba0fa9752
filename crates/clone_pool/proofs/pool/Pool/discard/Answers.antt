use Rattle.std.proofs.Common.{◌≡◌, ◌<◌, ◌∙◌, length, ap, subst, sym, arith, Some, None}
use Rattle.std.proofs.lemmas.List.{get_or_read}
use Rattle.clone_pool.specs.declared.frame.Frame.{Frame}
use Rattle.clone_pool.specs.Frames.{no_frame, frame_at, claim_of}
use Rattle.clone_pool.specs.Pool.{Frames, IsFrame}
use Rattle.clone_pool.proofs.FrameLemmas.{discarded_frame}
use Rattle.clone_pool.proofs.PoolLemmas.{replaced}
use Rattle.clone_pool.proofs.pool.Pool.discard.Goals as goal

pub invariant_of-self : goal.invariant_of-self
invariant_of-self c =
    let i = c.self.inside in
    let v : Frames = record { frames = i.frames.items; uses = i.uses; missed = i.missed } in
    let at = c.claimed-at.result in
    let g = c.index_mut.result.now in
    let low = subst (λ (v : Frames). at < length v.frames) (sym c.self.view_is) c.claimed-at.ensures.within in
    let was = get_or_read i.frames.items at g low c.index_mut.ensures.value no_frame in
    let here = sym (was ∙ ap (frame_at i.frames.items) c.claimed-at.ensures.same ∙ ap (λ (v : Frames). frame_at v.frames c.args.at) c.self.view_is) in
    let fine = subst (IsFrame i.uses) (sym was) (c.self.invariant.pool.frame at) in
    let edit = subst (IsFrame i.uses) (sym c.discard.ensures) (discarded_frame i.uses g fine (subst (λ (f : Frame). f.pins ≡ 0) here c.requires.free)) in
    replaced v i.orders c.refresh.new.self c.self.invariant at i.uses c.discard.new.self _ low (omega arith) c.self.invariant.pool.uses edit (λ page is. let none : None ≡ Some page = sym (ap claim_of c.discard.ensures) ∙ is in absurd (cc)) c.deref.ensures.value c.refresh.ensures
