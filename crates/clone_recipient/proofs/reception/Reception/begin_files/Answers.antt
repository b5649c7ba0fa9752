use Rattle.std.proofs.Common.{◌<◌, ◌∙◌, ℕ, List, ap, refl, subst, sym}
use Rattle.clone_chunk.specs.declared.copy_stage.CopyStage.TheVariants.{FileCopy}
use Rattle.clone_snapshot.specs.StageLists.{Files, chunk_count}
use Rattle.clone_marks.specs.Counts.{block_counts, unmarked}
use Rattle.clone_recipient.proofs.CountLemmas.{begun_counted}
use Rattle.clone_recipient.proofs.ExpectLemmas.{few_chunks}
use Rattle.clone_recipient.proofs.reception.Reception.begin_files.Goals as goal

pub of_files-requires : goal.of_files-requires
of_files-requires c = (few_chunks c.args.spaces.now c.requires.fit c.requires.few).0

pub invariant_of-self : goal.invariant_of-self
invariant_of-self c =
    let listed = c.in_ok-files.ensures in (
      subst (λ (ps : List (ℕ × ℕ)). chunk_count (Files ps) < 4294967296) (sym listed) (few_chunks c.args.spaces.now c.requires.fit c.requires.few).1,
      begun_counted FileCopy _ _ c.begin_stage.ensures refl (c.in_ok-marks.ensures ∙ ap (λ (ps : List (ℕ × ℕ)). unmarked (block_counts (Files ps))) (sym listed)),
    )
