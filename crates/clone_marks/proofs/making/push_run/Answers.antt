use Rattle.std.proofs.Common.{◌≡◌, ◌∷◌, [], ◌∙◌, ap}
use Rattle.std.specs.Int.{div_ceil}
use Rattle.std.proofs.lemmas.List.{append_assoc}
use Rattle.clone_marks.specs.declared.chunk_marks.ChunkMarks.{ChunkMarks}
use Rattle.clone_marks.proofs.RunLemmas.{blocks_here, run_front, run_more}
use Rattle.clone_marks.proofs.making.push_run.Goals as goal

pub loop-index-preserved : goal.loop-index-preserved
loop-index-preserved c =
    let units = c.args.units in
    let i = c.loop-index.index in
    let first = c.args.chunks.now.items in
    let front = run_front units c.args.chunk c.args.block i in
    let blocks : c.div_ceil.result ≡ blocks_here units c.args.chunk c.args.block i = c.div_ceil.ensures ∙ ap (λ n. div_ceil n c.args.block) c.min-here.ensures in
    let last : ChunkMarks = record { blocks = blocks_here units c.args.chunk c.args.block i; taken = 0 } in
    rw (c.in_ok-push.ensures.items, c.loop-index.invariant, blocks, run_more units c.args.chunk c.args.block i) (append_assoc first front (last ∷ []))
