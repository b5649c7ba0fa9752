use Rattle.std.proofs.Common.{◌≡◌, ◌-◌, ◌∙◌, ap, ◌++◌, arith, length, take, drop, length-append, length-take, length-drop}
use Rattle.clone_archive.proofs.Pieces.{appended_more}
use Rattle.clone_archive.proofs.blocks.Blocks.append.Goals as goal

pub loop-at-preserved : goal.loop-at-preserved
loop-at-preserved c =
    let ring = c.args.ring.now in
    let old = c.args.self.now.bytes in
    let piece = take c.append_piece.result (drop (c.loop-at.at - ring.floor) ring.bytes) in
    let more = appended_more old ring.bytes ring.floor c.args.from c.loop-at.at c.append_piece.result c.requires.above c.loop-at.invariant.above in
    let size = ap length c.append_piece.ensures.appended ∙ length-append c.loop-at.self.bytes piece in
    let long : length piece ≡ c.append_piece.result =
    omega (arith, length-take c.append_piece.result (drop (c.loop-at.at - ring.floor) ring.bytes), length-drop (c.loop-at.at - ring.floor) ring.bytes) in
    record {
      above = omega arith;
      within = omega arith;
      room = omega arith;
      appended = c.append_piece.ensures.appended ∙ (ap (λ bytes. bytes ++ piece) c.loop-at.invariant.appended ∙ more);
    }
