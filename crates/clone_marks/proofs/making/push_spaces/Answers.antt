use Rattle.std.proofs.Common.{◌++◌, ◌∙◌, take, get_or, sym, ap}
use Rattle.std.proofs.lemmas.List.{append_assoc}
use Rattle.clone_chunk.specs.declared.spaces.SpaceSize.{SpaceSize}
use Rattle.clone_snapshot.specs.StageLists.{Files}
use Rattle.clone_marks.specs.Counts.{pairs_of, block_counts, run_counts, unmarked}
use Rattle.clone_marks.proofs.RunLemmas.{spaces_more}
use Rattle.clone_marks.proofs.making.push_spaces.Goals as goal

pub loop-space-preserved : goal.loop-space-preserved
loop-space-preserved c =
    let spaces = c.args.spaces.now in
    let i = c.loop-space.space-index in
    let none : SpaceSize = record { space = 0; pages = 0 } in
    let first = c.args.chunks.now.items in
    let front = unmarked (block_counts (Files (pairs_of (take i spaces)))) in
    let last = unmarked (run_counts (get_or spaces i none).pages 64 8) in
    c.in_ok-push_run.ensures ∙ ap (λ xs. xs ++ last) c.loop-space.invariant ∙ append_assoc first front last ∙ ap (λ xs. first ++ xs) (sym (spaces_more spaces i none c.loop-space-test.true))
