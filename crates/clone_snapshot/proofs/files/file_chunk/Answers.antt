use Rattle.std.proofs.Common.{◌<◌, ◌≤◌, ◌∙◌, sym, ap}
use Rattle.std.specs.Int.{div_ceil}
use Rattle.std.proofs.Common.{get_or, drop, ◌+◌, ◌-◌}
use Rattle.std.specs.List.{slice_get}
use Rattle.clone_snapshot.specs.StageLists.{Files, chunks_of}
use Rattle.clone_snapshot.proofs.FileLemmas.{chunk_here, chunk_later}
use Rattle.clone_snapshot.proofs.files.file_chunk.Goals as goal

pub returns-then-ahead-chunks-clause-chunk : goal.returns-then-ahead-chunks-clause-chunk
returns-then-ahead-chunks-clause-chunk c =
    let here : c.loop-space.ahead < div_ceil (get_or c.args.spaces.now c.loop-space.space-index (0, 0)).1 64 = rw c.div_ceil-chunks.ensures at c.if-ahead-chunks.true in
    c.chunk_of_space.ensures.chunk ∙ sym (chunk_here c.args.spaces.now c.loop-space.space-index c.loop-space.ahead (0, 0) c.loop-space-test.true here) ∙ c.loop-space.invariant

pub loop-space-preserved : goal.loop-space-preserved
loop-space-preserved c =
    let later : div_ceil (get_or c.args.spaces.now c.loop-space.space-index (0, 0)).1 64 ≤ c.loop-space.ahead = rw c.div_ceil-chunks.ensures at c.if-ahead-chunks.false in
    ap (λ n. slice_get (chunks_of (Files (drop (c.loop-space.space-index + 1) c.args.spaces.now))) (c.loop-space.ahead - n)) c.div_ceil-chunks.ensures ∙ sym (chunk_later c.args.spaces.now c.loop-space.space-index c.loop-space.ahead (0, 0) c.loop-space-test.true later) ∙ c.loop-space.invariant
