use Rattle.std.proofs.Common.{◌≡◌, ℕ, length, take}
use Rattle.clone_chunk.specs.Chunks.{has_bit}
use Rattle.clone_marks.specs.Blocks.{is_finished_at}
use Rattle.clone_marks.proofs.reporting.finished_bits.Given as goal

abbrev pub invariant-loop-number : goal.invariant-loop-number
invariant-loop-number l =
    (l.bits.count ≡ length l.chunks)
    × ((i : ℕ) → has_bit l.bits.bytes i ≡ is_finished_at (take l.number l.chunks) i)
