use Rattle.std.proofs.Common.{◌≡◌, ◌+◌, ◌∙◌, if◌then◌else◌, ℕ, List, set, take, get_or, refl, sym, subst, ap}
use Rattle.std.proofs.lemmas.List.{get_or_default}
use Rattle.clone_chunk.specs.Chunks.{is_whole, within}
use Rattle.clone_chunk.specs.declared.chunk.Chunk.{Chunk}
use Rattle.clone_chunk.specs.declared.chunk.Chunk.TheVariants.{Finished}
use Rattle.clone_chunk.specs.declared.partials.PartialChunk.{PartialChunk}
use Rattle.clone_snapshot.specs.Snaps.{list_of}
use Rattle.clone_snapshot.specs.StageLists.{StageList, block_count}
use Rattle.clone_snapshot.specs.Resets.{IsReset}
use Rattle.clone_snapshot.proofs.ResetLemmas.{marked, one_more, settled}
use Rattle.clone_snapshot.proofs.resets.reset.Goals as goal

pub loop-partial-init : goal.loop-partial-init
loop-partial-init c =
    let new = c.reset_to.new.self in
    record {
      reset = marked (list_of c.args.list.now) c.args.bitmap.now c.args.chunks.now.states new.states new.kept c.requires.count c.reset_to.ensures.states c.reset_to.ensures.kept;
      room = refl;
    }

pub loop-partial-preserved : goal.loop-partial-preserved
loop-partial-preserved c =
    let list : StageList = list_of c.args.list.now in
    let partials : List PartialChunk = c.args.partials.now in
    let k : ℕ = c.loop-partial.partial-index in
    let none : PartialChunk = record { chunk = 0; mask = 0 } in
    let p : PartialChunk = get_or partials k none in
    let old = c.loop-partial.chunks in
    let new = c.keep.new.self in
    let blocks = c.blocks-in-loop-partial.ensures.count in
    let states = c.keep.ensures.states ∙ ap (λ (n : ℕ). settled list c.args.bitmap.now partials k p old.states old.kept (is_whole p.mask n)) blocks in
    let kept = c.keep.ensures.kept ∙ ap (λ (n : ℕ). set old.kept p.chunk (within p.mask n)) blocks in
    let more = one_more list c.args.bitmap.now partials k p old.states old.kept c.requires.partials.ascending c.loop-partial-test.true (get_or_default partials k p none c.loop-partial-test.true) c.loop-partial.invariant.reset in
    record {
      reset = subst (λ (xs : List Chunk). IsReset list c.args.bitmap.now (take (k + 1) partials) xs new.kept) (sym states) (subst (λ (masks : List ℕ). IsReset list c.args.bitmap.now (take (k + 1) partials) (settled list c.args.bitmap.now partials k p old.states old.kept (is_whole p.mask (block_count list p.chunk))) masks) (sym kept) more);
      room = c.keep.ensures.room ∙ c.loop-partial.invariant.room;
    }
