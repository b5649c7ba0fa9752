use Rattle.std.proofs.Common.{refl, ap}
use Rattle.clone_pool.specs.Pool.{Frames}
use Rattle.clone_pool.proofs.PoolLemmas.{set_holder}
use Rattle.clone_pool.proofs.pool.Pool.fetch.Goals as goal

pub returns-in-Some-clause-held : goal.returns-in-Some-clause-held
returns-in-Some-clause-held g c =
    let is = c.in-Some.ensures.held in
    set_holder c.args.self.now.frames c.touch.new.self _ _ c.in-Some.at is.within (ap (λ (v : Frames). v.frames) c.touch.ensures) is.name c.laws.ensures

pub returns-clause-held : goal.returns-clause-held
returns-clause-held g c =
    let fills = c.in_ok-load.ensures.ok in
    set_holder c.args.self.now.frames c.load.new.self _ _ c.in-Some-frame_for.at c.in-Some-frame_for.ensures.some.within fills.frames refl c.laws-2.ensures
