use Rattle.std.proofs.Common.{◌≡◌, ◌∙◌, set, Some, None, true, refl, ap, subst, sym, arith}
use Rattle.std.proofs.lemmas.List.{get_or_read}
use Rattle.clone_pool.specs.declared.frame.Frame.{Frame}
use Rattle.clone_pool.specs.Frames.{no_frame, frame_at, claim_of, holder, is_free, emptied, filled}
use Rattle.clone_pool.specs.Pool.{Frames, Fills, IsFrame, IsFrameFor}
use Rattle.clone_pool.proofs.FrameLemmas.{emptied_frame, filled_frame}
use Rattle.clone_pool.proofs.PoolLemmas.{received, left_empty, missed_kept}
use Rattle.clone_pool.proofs.pool.Pool.load.Goals as goal

pub invariant_of-self : goal.invariant_of-self
invariant_of-self g c =
    let i = c.self.inside in
    let v : Frames = record { frames = i.frames.items; uses = i.uses; missed = i.missed } in
    let at = c.args.at in
    let old = c.index_mut.result.now in
    let f = c.read_into-read.new.frame in
    let for = subst (λ (v : Frames). IsFrameFor c.args.name v.frames at) (sym c.self.view_is) c.requires.at in
    let was = get_or_read i.frames.items at old for.within c.index_mut.ensures.value no_frame in
    let fine = subst (IsFrame i.uses) (sym was) (c.self.invariant.pool.frame at) in
    let free = subst (λ (f : Frame). is_free f ≡ true) (sym was) for.free in
    let empty = c.in-Err.ensures.err.1 in
    let edit = subst (IsFrame i.uses) (sym empty) (emptied_frame i.uses old fine f.page free) in
    missed_kept _ _ (left_empty v i.orders c.refresh.new.self c.self.invariant c.args.name at f.page f _ for (empty ∙ ap (emptied f.page) was) edit c.deref.ensures.value c.refresh.ensures) (Some c.args.name)

pub invariant_of-self-2 : goal.invariant_of-self-2
invariant_of-self-2 g c =
    let i = c.self.inside in
    let v : Frames = record { frames = i.frames.items; uses = i.uses; missed = i.missed } in
    let at = c.args.at in
    let old = c.index_mut.result.now in
    let f = c.read_into-read.new.frame in
    let number = c.next_use-number.result in
    let number_is = c.next_use-number.ensures in
    let for = subst (λ (v : Frames). IsFrameFor c.args.name v.frames at) (sym c.self.view_is) c.requires.at in
    let was = get_or_read i.frames.items at old for.within c.index_mut.ensures.value no_frame in
    let fine = subst (IsFrame i.uses) (sym was) (c.self.invariant.pool.frame at) in
    let full = c.in-Ok.ensures.ok in
    let few = c.self.invariant.pool.uses in
    let new = subst (λ (v : Frames). holder v.frames c.args.name ≡ None) (sym c.self.view_is) c.requires.new in
    let edit = subst (IsFrame number) (sym full) (filled_frame i.uses old fine c.args.name f.page number (omega (arith, number_is))) in
    received v i.orders c.refresh.new.self c.self.invariant c.args.name at number f _ for new (ap claim_of full) (omega (arith, number_is, few)) (omega (arith, number_is)) edit c.deref.ensures.value c.refresh.ensures

pub returns-clause-ok : goal.returns-clause-ok
returns-clause-ok g c =
    let i = c.self.inside in
    let v : Frames = record { frames = i.frames.items; uses = i.uses; missed = i.missed } in
    let at = c.args.at in
    let f = c.read_into-read.new.frame in
    let for = subst (λ (v : Frames). IsFrameFor c.args.name v.frames at) (sym c.self.view_is) c.requires.at in
    let was = get_or_read i.frames.items at c.index_mut.result.now for.within c.index_mut.ensures.value no_frame in
    let number = c.next_use-number.ensures in
    let new : Frames = record { frames = set i.frames.items at f; uses = c.next_use-number.result; missed = i.missed } in
    subst (λ (v : Frames). Fills c.args.name at v new) c.self.view_is (record {
      bytes = f.page;
      frames = ap (λ (fr : Frame). set i.frames.items at fr) (c.in-Ok.ensures.ok ∙ ap (λ (fr : Frame). filled c.args.name f.page c.next_use-number.result fr) was ∙ ap (λ m. filled c.args.name f.page m (frame_at i.frames.items at)) number);
      uses = number;
      missed = refl;
    })
