use Rattle.std.proofs.Common.{◌<◌, ◌∙◌, length, ap, subst, sym}
use Rattle.std.proofs.lemmas.List.{get_or_read}
use Rattle.clone_pool.specs.declared.frame.Frame.{Frame}
use Rattle.clone_pool.specs.Frames.{no_frame, frame_at, HoldsPage}
use Rattle.clone_pool.specs.Pool.{Frames, IsFrame}
use Rattle.clone_pool.proofs.FrameLemmas.{KeepsOrLosesPage, unpinned_frame, unpinned_page}
use Rattle.clone_pool.proofs.PoolLemmas.{shrunk}
use Rattle.clone_pool.proofs.pool.Pool.unpin.Goals as goal

pub invariant_of-self : goal.invariant_of-self
invariant_of-self c =
    let i = c.self.inside in
    let v : Frames = record { frames = i.frames.items; uses = i.uses; missed = i.missed } in
    let at = c.frame_number-at.result in
    let g = c.index_mut.result.now in
    let low = subst (λ (v : Frames). at < length v.frames) (sym c.self.view_is) c.frame_number-at.ensures.within in
    let was = get_or_read i.frames.items at g low c.index_mut.ensures.value no_frame in
    let here = sym (was ∙ ap (frame_at i.frames.items) c.frame_number-at.ensures.same ∙ ap (λ (v : Frames). frame_at v.frames c.args.at) c.self.view_is) in
    let fine = subst (IsFrame i.uses) (sym was) (c.self.invariant.pool.frame at) in
    let edit = subst (IsFrame i.uses) (sym c.unpin.ensures) (unpinned_frame i.uses g fine (subst HoldsPage here c.requires.holds) (subst (λ (f : Frame). 0 < f.pins) here c.requires.pinned)) in
    shrunk v i.orders c.refresh.new.self c.self.invariant at c.unpin.new.self _ low edit (subst (λ (f : Frame). KeepsOrLosesPage f c.unpin.new.self) was (subst (KeepsOrLosesPage g) (sym c.unpin.ensures) (unpinned_page g))) c.deref.ensures.value c.refresh.ensures
