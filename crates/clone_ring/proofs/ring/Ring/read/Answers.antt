use Rattle.std.proofs.Common.{◌≤◌, ◌+◌, ◌-◌, ap, arith, length, length-take, drop}
use borrow.Rule.Slice.PartMut.{same_len_mid}
use Rattle.clone_ring.specs.Window.{Window}
use Rattle.clone_ring.proofs.PieceLemmas.{filled_more}
use Rattle.clone_ring.proofs.ring.Ring.read.Goals as goal

pub loop-done-preserved : goal.loop-done-preserved
loop-done-preserved c =
    let into = c.loop-done.into in
    let done = c.loop-done.done in
    let part = c.read_piece-done.new.into in
    let bytes = c.args.self.now.bytes in
    let offset = c.args.from - c.self.inside.floor in
    let count = c.read_piece-done.result in
    let left = length into - done in
    let floor = ap (λ (w : Window). w.floor) c.self.view_is in
    let kept = same_len_mid done left into part c.read_piece-done.auto.into in
    let few : count ≤ left = omega (arith, c.read_piece-done.ensures.few, length-take left (drop done into)) in
    let inside : offset + done + count ≤ length bytes = omega (arith, c.requires.within, c.requires.above, floor, few, c.loop-done.auto.into) in
    record {
      within = omega (arith, few, kept, c.loop-done.invariant.within);
      filled = filled_more into part _ bytes done offset count left c.loop-done.invariant.within inside c.read_piece-done.ensures.filled c.loop-done.invariant.filled;
    }
