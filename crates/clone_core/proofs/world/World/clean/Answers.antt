use Rattle.std.proofs.Common.{◌<◌, length, ap, arith}
use Rattle.clone_core.specs.Lines.{State}
use Rattle.clone_core.proofs.WaitingLemmas.{waiting}
use Rattle.clone_core.proofs.CleanLemmas.{frames_of, clean_begins, clean_goes, clean_ended, no_page, fewer_wait, not_begun, not_halved, not_landed}
use Rattle.clone_core.proofs.world.World.clean.Goals as goal

pub loop-space-init : goal.loop-space-init
loop-space-init g c = clean_begins c.args.self.now (let same = ap (λ (s : State). length (frames_of s)) c.self.view_is in omega (arith, same, c.laws.ensures.few))

pub returns-in_err-flush_begin : goal.returns-in_err-flush_begin
returns-in_err-flush_begin g c = not_begun _ _ _ _ _ _ _ _ c.from_residual.result c.loop-space.invariant c.in-Some.ensures c.in_err-flush_begin.ensures c.from_residual.ensures.1

pub returns-in_err-flush_half : goal.returns-in_err-flush_half
returns-in_err-flush_half g c = not_halved _ _ _ _ _ _ _ _ _ c.from_residual-in_err-flush_half.result c.loop-space.invariant c.in-Some.ensures c.in_ok-flush_begin.ensures c.in_err-flush_half.ensures c.from_residual-in_err-flush_half.ensures.1

pub returns-in_err-flush_land : goal.returns-in_err-flush_land
returns-in_err-flush_land g c = not_landed _ _ _ _ _ _ _ _ _ _ c.from_residual-in_err-flush_land.result c.loop-space.invariant c.in-Some.ensures c.in_ok-flush_begin.ensures c.in_ok-flush_half.ensures c.in_err-flush_land.ensures c.from_residual-in_err-flush_land.ensures.1

pub overflow_add-landed : goal.overflow_add-landed
overflow_add-landed g c = omega (arith, c.loop-space.invariant.few)

pub loop-space-smaller : goal.loop-space-smaller
loop-space-smaller g c =
    let fewer = fewer_wait _ _ _ _ _ _ _ c.in-Some.ensures c.in_ok-flush_begin.ensures c.in_ok-flush_half.ensures c.in_ok-flush_land.ensures in
    let low : waiting (frames_of c.flush_land.new.self) < waiting (frames_of c.loop-space.self) = omega (arith, fewer) in
    low

pub loop-space-preserved : goal.loop-space-preserved
loop-space-preserved g c = clean_goes _ _ _ _ _ _ _ _ _ c.loop-space.invariant c.in-Some.ensures c.in_ok-flush_begin.ensures c.in_ok-flush_half.ensures c.in_ok-flush_land.ensures

pub returns : goal.returns
returns g c = clean_ended _ _ _ _ c.oldest_dirty.result (no_page _ c.in_default.not-Some) c.loop-space.invariant c.oldest_dirty.ensures
