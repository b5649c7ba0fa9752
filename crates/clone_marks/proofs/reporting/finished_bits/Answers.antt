use Rattle.std.proofs.Common.{◌∙◌, sym}
use Rattle.clone_chunk.specs.Chunks.{has_bit}
use Rattle.clone_marks.specs.declared.chunk_marks.ChunkMarks.{ChunkMarks}
use Rattle.clone_marks.proofs.MarkLemmas.{bits_more, bits_unset}
use Rattle.clone_marks.proofs.reporting.finished_bits.Goals as goal
use Rattle.clone_marks.proofs.reporting.finished_bits.Goals.{then-is_finished, else-is_finished}

pub loop-number-preserved : goal.loop-number-preserved
loop-number-preserved c =
    let marks = c.args.chunks.now in
    let i = c.loop-number.number in
    let none : ChunkMarks = record { blocks = 0; taken = 0 } in
    let old = c.loop-number.bits in
    elim c.if-is_finished.branch [
      | then-is_finished w ↦
          let new = w.set.new.self in
          let finished = sym c.is_finished.ensures ∙ w.if-is_finished.true in
          rw w.bits-is (w.set.ensures.count ∙ c.loop-number.invariant.0, bits_more marks i none (has_bit old.bytes) (has_bit new.bytes) c.loop-number-test.true c.loop-number.invariant.1 (w.set.ensures.set ∙ sym finished) w.set.ensures.others)
      | else-is_finished w ↦
          let unfinished = sym c.is_finished.ensures ∙ w.if-is_finished.false in
          rw w.bits-is (c.loop-number.invariant.0, bits_unset marks i none (has_bit old.bytes) c.loop-number-test.true c.loop-number.invariant.1 unfinished)
    ]
