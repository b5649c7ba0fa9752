use Rattle.std.proofs.Common.{◌<◌, refl, ◌∙◌, length, ap, arith}
use Rattle.std.proofs.lemmas.List.{length-set, get_or-set_same}
use Rattle.clone_pool.specs.Frames.{no_frame, frame_at, name_of, pinned}
use Rattle.clone_pool.specs.Pool.{Frames}
use Rattle.clone_pool.proofs.PoolLemmas.{set_holder}
use Rattle.clone_pool.proofs.pool.Pool.fresh.Goals as goal

pub returns-in-Some-clause-held : goal.returns-in-Some-clause-held
returns-in-Some-clause-held c =
    let is = c.in-Some.ensures.held in
    let old = c.args.self.now.frames in
    let pin = ap (λ (v : Frames). v.frames) c.pin.ensures in
    let low : c.in-Some.at < length c.pin.new.self.frames = omega (arith, is.within, ap length pin, length-set old c.in-Some.at (pinned (frame_at old c.in-Some.at))) in
    let name = ap (λ fs. name_of (frame_at fs c.in-Some.at)) pin ∙ ap name_of (get_or-set_same old c.in-Some.at (pinned (frame_at old c.in-Some.at)) no_frame is.within) ∙ is.name in
    set_holder c.pin.new.self.frames c.touch.new.self _ _ c.in-Some.at low (ap (λ (v : Frames). v.frames) c.touch.ensures) name c.laws.ensures

pub returns-clause-held : goal.returns-clause-held
returns-clause-held c =
    set_holder c.args.self.now.frames c.take.new.self _ _ c.in-Some-frame_for.at c.in-Some-frame_for.ensures.some.within (ap (λ (v : Frames). v.frames) c.take.ensures) refl c.laws-2.ensures
