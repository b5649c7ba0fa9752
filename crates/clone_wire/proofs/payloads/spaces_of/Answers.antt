use Rattle.std.proofs.Common.{◌∷◌, [], ◌∙◌, arith}
use Rattle.std.proofs.lemmas.List.{length-append}
use Rattle.clone_bytes.specs.Formats.{list_at}
use Rattle.clone_wire.specs.Reading as Reading
use Rattle.clone_wire.proofs.Lists.{goes_on}
use Rattle.clone_wire.proofs.payloads.spaces_of.Goals as goal

pub loop-preserved : goal.loop-preserved
loop-preserved c =
    let x = c.in_ok-space.space in
    rw c.in_ok-push.ensures.ok (record {
      so_far = goes_on Reading.space.read c.loop.spaces c.args.n c.loop.counter c.loop.reader x c.space_of.new.reader (list_at Reading.space.read c.args.n c.args.reader.now) c.loop-test.true c.in_ok-space.ensures c.loop.invariant.so_far;
      count = length-append c.loop.spaces (x ∷ []) ∙ omega (arith, c.loop.invariant.count);
    })
