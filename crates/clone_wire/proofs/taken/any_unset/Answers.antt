use Rattle.std.proofs.Common.{sym, ◌∙◌, arith}
use Rattle.clone_wire.proofs.TakenFormats.{passes_set}
use Rattle.clone_wire.proofs.taken.any_unset.Goals as goal

pub loop-chunk-preserved : goal.loop-chunk-preserved
loop-chunk-preserved c = sym (passes_set c.args.bitmap.now c.loop-chunk.chunk c.args.last (omega arith) (sym c.is_set.ensures ∙ c.if-not-is_set.false)) ∙ c.loop-chunk.invariant
