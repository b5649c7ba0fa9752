use Rattle.std.proofs.Common.{◌<◌, ◌∙◌, length, ap, subst, sym}
use Rattle.std.proofs.lemmas.List.{get_or_read}
use Rattle.clone_pool.specs.declared.frame.Frame.{Frame}
use Rattle.clone_pool.specs.Frames.{no_frame, frame_at, is_loading}
use Rattle.clone_pool.specs.Pool.{Frames}
use Rattle.clone_pool.proofs.PoolLemmas.{claim_none, claim_held, claim_loading}
use Rattle.clone_pool.proofs.pool.Pool.loader.Goals as goal

pub returns-in_default-clause-loader : goal.returns-in_default-clause-loader
returns-in_default-clause-loader c = sym (claim_none c.args.self.now c.laws.ensures c.args.name (sym c.claimant.ensures.claimant ∙ c.in_default.is)).1

pub returns-then-is_loading-clause-loader : goal.returns-then-is_loading-clause-loader
returns-then-is_loading-clause-loader c =
    let i = c.self.inside in
    let v : Frames = c.args.self.now in
    let at = c.in-Some.at in
    let was = get_or_read i.frames.items c.claimed-index.result c.index.result.now (subst (λ (v : Frames). c.claimed-index.result < length v.frames) (sym c.self.view_is) c.claimed-index.ensures.within) c.index.ensures no_frame in
    let here = was ∙ ap (frame_at i.frames.items) c.claimed-index.ensures.same ∙ ap (λ (v : Frames). frame_at v.frames at) c.self.view_is in
    sym (claim_loading v c.laws.ensures c.args.name at c.in-Some.ensures.claims.claimant (sym (ap (λ (f : Frame). is_loading f.content) here) ∙ sym c.is_loading.ensures ∙ c.if-is_loading.true)).1

pub returns-clause-loader : goal.returns-clause-loader
returns-clause-loader c =
    let i = c.self.inside in
    let v : Frames = c.args.self.now in
    let at = c.in-Some.at in
    let was = get_or_read i.frames.items c.claimed-index.result c.index.result.now (subst (λ (v : Frames). c.claimed-index.result < length v.frames) (sym c.self.view_is) c.claimed-index.ensures.within) c.index.ensures no_frame in
    let here = was ∙ ap (frame_at i.frames.items) c.claimed-index.ensures.same ∙ ap (λ (v : Frames). frame_at v.frames at) c.self.view_is in
    sym (claim_held v c.laws.ensures c.args.name at c.in-Some.ensures.claims.claimant (sym (ap (λ (f : Frame). is_loading f.content) here) ∙ sym c.is_loading.ensures ∙ c.if-is_loading.false)).1
