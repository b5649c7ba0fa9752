use Rattle.std.proofs.Common.{◌≡◌, ◌∷◌, [], ◌+◌, ◌<◌, false, ◌∙◌, arith}
use Rattle.std.proofs.lemmas.List.{length-append}
use Rattle.std.proofs.lemmas.List.Elements.{All-push, All-weaker}
use Rattle.clone_chunk.specs.declared.partials.PartialChunk.{PartialChunk}
use Rattle.clone_chunk.specs.Chunks.{has_bit}
use Rattle.clone_wire.specs.Reading.{partials_at}
use Rattle.clone_wire.proofs.Lists.{more_listed}
use Rattle.clone_wire.proofs.taken.partials_of.Goals as goal

pub loop-done-preserved : goal.loop-done-preserved
loop-done-preserved c =
    let x = c.in_ok-partial.partial in
    let is = c.in_ok-partial.ensures.next in
    rw c.in_ok-push.ensures.ok (record {
      so_far = more_listed c.args.at c.args.bitmap.now c.loop-done.from c.loop-done.partials c.args.n c.loop-done.done c.loop-done.reader x c.partial_of.new.reader (partials_at c.args.at c.args.bitmap.now 0 c.args.n c.args.reader.now) c.loop-done-test.true c.in_ok-partial.ensures.gives c.loop-done.invariant.so_far;
      count = length-append c.loop-done.partials (x ∷ []) ∙ omega (arith, c.loop-done.invariant.count);
      within = (let high = is.next.high in omega arith);
      above = All-push (λ (p : PartialChunk). p.chunk < x.chunk + 1) c.loop-done.partials x (All-weaker (λ (p : PartialChunk). p.chunk < c.loop-done.from) (λ (p : PartialChunk). p.chunk < x.chunk + 1) (λ p below. (let low = is.next.low in omega arith)) c.loop-done.partials c.loop-done.invariant.above) (omega arith);
      unset = All-push (λ (p : PartialChunk). has_bit c.args.bitmap.now p.chunk ≡ false) c.loop-done.partials x c.loop-done.invariant.unset is.next.unset;
    })
