use Rattle.std.proofs.Common.{◌≡◌, None, true, ap, subst, sym, arith}
use Rattle.std.proofs.lemmas.List.{get_or_read}
use Rattle.clone_pool.specs.declared.frame.Frame.{Frame}
use Rattle.clone_pool.specs.Frames.{no_frame, claim_of, holder, is_free}
use Rattle.clone_pool.specs.Pool.{Frames, IsFrame, IsFrameFor}
use Rattle.clone_pool.proofs.FrameLemmas.{freshened_frame}
use Rattle.clone_pool.proofs.PoolLemmas.{received}
use Rattle.clone_pool.proofs.pool.Pool.take.Goals as goal

pub invariant_of-self : goal.invariant_of-self
invariant_of-self c =
    let i = c.self.inside in
    let v : Frames = record { frames = i.frames.items; uses = i.uses; missed = i.missed } in
    let at = c.args.at in
    let g = c.index_mut.result.now in
    let number = c.next_use-self-inside.result in
    let for = subst (λ (v : Frames). IsFrameFor c.args.name v.frames at) (sym c.self.view_is) c.requires.at in
    let was = get_or_read i.frames.items at g for.within c.index_mut.ensures.value no_frame in
    let fine = subst (IsFrame i.uses) (sym was) (c.self.invariant.pool.frame at) in
    let free = subst (λ (f : Frame). is_free f ≡ true) (sym was) for.free in
    let few = c.self.invariant.pool.uses in
    let new = subst (λ (v : Frames). holder v.frames c.args.name ≡ None) (sym c.self.view_is) c.requires.new in
    let edit = subst (IsFrame number) (sym c.freshen.ensures) (freshened_frame i.uses g fine c.args.name number (omega (arith, c.next_use-self-inside.ensures)) free) in
    received v i.orders c.refresh.new.self c.self.invariant c.args.name at number c.freshen.new.self _ for new (ap claim_of c.freshen.ensures) (omega (arith, c.next_use-self-inside.ensures, few)) (omega (arith, c.next_use-self-inside.ensures)) edit c.deref.ensures.value c.refresh.ensures
