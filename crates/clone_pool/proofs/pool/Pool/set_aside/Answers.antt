use Rattle.std.proofs.Common.{◌≡◌, None, true, ap, subst, sym, arith}
use Rattle.std.proofs.lemmas.List.{get_or_read}
use Rattle.clone_pool.specs.declared.frame.Frame.{Frame}
use Rattle.clone_pool.specs.Frames.{no_frame, frame_at, claim_of, holder, loader, is_free}
use Rattle.clone_pool.specs.Pool.{Frames, IsFrame, IsVictim}
use Rattle.clone_pool.proofs.ClaimLemmas.{no_claimant}
use Rattle.clone_pool.proofs.FrameLemmas.{aside_frame, going_parts}
use Rattle.clone_pool.proofs.PoolLemmas.{claims_apart, replaced, other_page}
use Rattle.clone_pool.proofs.pool.Pool.set_aside.Goals as goal

pub invariant_of-self : goal.invariant_of-self
invariant_of-self c =
    let i = c.self.inside in
    let v : Frames = record { frames = i.frames.items; uses = i.uses; missed = i.missed } in
    let at = c.in-Some.at in
    let g = c.index_mut.result.now in
    let victim = subst (λ (v : Frames). IsVictim v.frames at) (sym c.self.view_is) c.in-Some.ensures.some in
    let was = get_or_read i.frames.items at g victim.within c.index_mut.ensures.value no_frame in
    let fine = subst (IsFrame i.uses) (sym was) (c.self.invariant.pool.frame at) in
    let free = subst (λ (f : Frame). is_free f ≡ true) (sym was) (going_parts (frame_at v.frames at) victim.free).0 in
    let absent = subst (λ (v : Frames). holder v.frames c.args.name ≡ None) (sym c.self.view_is) c.requires.absent in
    let unloaded = subst (λ (v : Frames). loader v.frames c.args.name ≡ None) (sym c.self.view_is) c.requires.unloaded in
    let edit = subst (IsFrame i.uses) (sym c.set_aside.ensures) (aside_frame i.uses g fine c.args.name free) in
    let new = no_claimant v.frames c.args.name absent unloaded (claims_apart v c.self.invariant.pool) in
    replaced v i.orders c.refresh.new.self c.self.invariant at i.uses c.set_aside.new.self _ victim.within (omega arith) c.self.invariant.pool.uses edit (other_page v c.set_aside.new.self c.args.name (ap claim_of c.set_aside.ensures) new) c.deref.ensures.value c.refresh.ensures
