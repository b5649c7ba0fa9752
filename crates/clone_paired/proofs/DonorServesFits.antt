-- The block that a donor has read is one that a task may take.
use Rattle.std.proofs.Common.{ℕ, ◌≡◌, ◌∙◌, ◌⊎◌, ◌<◌, ◌≤◌, ◌+◌, ◌*◌, ◌-◌, min, List, [], ◌∷◌, true, Option, None, Some, length, take, drop, refl, sym, ap, subst, inl, inr, arith}
use Rattle.std.specs.Prelude.{slice_get, slice_index, ◌==◌}
use Rattle.std.specs.Option.{option_map_or}
use Rattle.std.proofs.lemmas.Bool.{and_from, cases_lt, eq-eqb}
use Rattle.std.proofs.lemmas.List.{length-drop, length-map, length-take, length-take-le}
use Rattle.std.proofs.lemmas.Option.{slice_get_past, slice_get_within}
use Rattle.clone_accepted.specs.Disk.{distance_of}
use Rattle.clone_archive.specs.Archived.{Archived}
use Rattle.clone_chunk.specs.Stages.{stage_number}
use Rattle.clone_chunk.specs.declared.copy_stage.CopyStage.TheVariants as copy
use Rattle.clone_page.specs.declared.pages.PageAt.{PageAt}
use Rattle.clone_snapshot.specs.StageLists.{StageList, Files, Pages, Redo, Nothing, Part, PagePart, RedoPart, block_of, blocks_of, cut, piece, size_of, stage_of}
use Rattle.clone_snapshot.specs.declared.block.RedoBlock.{RedoBlock}
use Rattle.clone_snapshot.specs.declared.listing.Listing.TheVariants as code
use Rattle.clone_snapshot.proofs.CutLemmas.{no_piece, piece_at}
use Rattle.clone_snapshot.proofs.EachBlock.{no_pages, redo_alone}
use Rattle.clone_marks.specs.Blocks as marks
use Rattle.clone_marks.specs.Counts.{block_counts, counted_pages}
use Rattle.clone_marks.proofs.RunLemmas.{counts_at}
use Rattle.clone_session.specs.Cloning.{Session}
use Rattle.clone_session.specs.CloneCalls.{IsInArchive, IsThere, part_of, redo_in}
use Rattle.clone_session.specs.CloneCauses.{donor_stage}
use Rattle.clone_session.specs.declared.caller.Caller.{Caller}
use Rattle.clone_session.specs.declared.copying.BlockWork.{BlockWork}
use Rattle.clone_session.specs.declared.copying.BlockWork.TheVariants as work
use Rattle.clone_wire.specs.Stages.{page_number, page_numbered}
use Rattle.clone_calls.specs.declared.block.Block.{Block}
use Rattle.clone_calls.specs.declared.block.Block.TheVariants as block
use Rattle.clone_serve.specs.Telling.{block_frame}
use Rattle.clone_tasks.specs.Tables.{attempt_of}
use Rattle.clone_tasks.specs.declared.standing.Phase.{Phase}
use Rattle.clone_tasks.specs.declared.standing.Phase.TheVariants.{Opening, Copying, Done}
use Rattle.clone_recipient.specs.Expecting.{are_at, are_pages, are_pages_of, fits_block, size_at}
use Rattle.clone_recipient.specs.Receptions.{Reception}
use Rattle.clone_recipient.proofs.SizeLemmas.{pages_size}
use Rattle.clone_engine.specs.Copying.{IsBlock, places_of}
use Rattle.clone_engine.specs.Donor.{Donor}
use Rattle.clone_rounds.specs.World.{Block as BlockAnswer}
use Rattle.clone_view.specs.Frames.{answer_of}
use Rattle.clone_view.specs.Rows.{place_of}
use Rattle.clone_view.specs.Tables.{phase_number}
use Rattle.clone_paired.specs.Blocks.{HasAscending}
use Rattle.clone_paired.specs.Lines.{caller_of}
use Rattle.clone_paired.specs.Sessions.{Copies, IsSessionOf}
use Rattle.clone_paired.specs.Speaking.{HasBlock, IsGiven}

-- ---- how many pages or bytes a block has, and where

are_those : (pages : List PageAt) → are_at (places_of pages) pages ≡ true
are_those [] = refl
are_those (p ∷ pages) = and_from _ _ (and_from _ _ (eq-eqb p.space p.space refl) (eq-eqb p.number p.number refl)) (are_those pages)

page_piece : (size : ℕ) (pages : List (ℕ × ℕ)) (i : ℕ) → size_of (piece size (PagePart pages) i) ≡ min size (length pages - size * i)
page_piece size pages i = length-take size (drop (size * i) pages) ∙ ap (min size) (length-drop (size * i) pages)

page_cut : (size : ℕ) (pages : List (ℕ × ℕ)) (i : ℕ) → 0 < size → option_map_or size_of (slice_get (cut size (PagePart pages)) i) 0 ≡ min size (length pages - size * i)
page_cut size pages i some = by (cases_lt (size * i) (length pages))
  where
    by : (size * i < length pages) ⊎ (length pages ≤ size * i) → option_map_or size_of (slice_get (cut size (PagePart pages)) i) 0 ≡ min size (length pages - size * i)
    by (inl within) = ap (λ o. option_map_or size_of o 0) (piece_at size (PagePart pages) i some within) ∙ page_piece size pages i
    by (inr past) = let none : min size (length pages - size * i) ≡ 0 = omega (arith, past) in ap (λ o. option_map_or size_of o 0) (no_piece size (PagePart pages) i some past) ∙ sym none

listed_size : (pages : List (ℕ × ℕ)) (chunk block : ℕ) → size_at (Pages pages) chunk block ≡ min 8 (min 64 (length pages - 64 * chunk) - 8 * block)
listed_size pages chunk block = by (cases_lt (64 * chunk) (length pages))
  where
    by : (64 * chunk < length pages) ⊎ (length pages ≤ 64 * chunk) → size_at (Pages pages) chunk block ≡ min 8 (min 64 (length pages - 64 * chunk) - 8 * block)
    by (inl within) =
        ap (λ o. option_map_or size_of (slice_get (option_map_or blocks_of o []) block) 0) (piece_at 64 (PagePart pages) chunk (omega arith) within)
        ∙ page_cut 8 (take 64 (drop (64 * chunk) pages)) block (omega arith)
        ∙ ap (λ n. min 8 (n - 8 * block)) (page_piece 64 pages chunk)
    by (inr past) =
        let none : min 8 (min 64 (length pages - 64 * chunk) - 8 * block) ≡ 0 = omega (arith, past) in
        ap (λ o. option_map_or size_of (slice_get (option_map_or blocks_of o []) block) 0) (no_piece 64 (PagePart pages) chunk (omega arith) past) ∙ ap (λ o. option_map_or size_of o 0) (slice_get_past {X = Part} [] block (omega arith)) ∙ sym none

redo_from : (start end chunk block from count : ℕ) → block_of (Redo start end) chunk block ≡ Some (RedoPart from count) → from ≡ start + distance_of chunk block
redo_from start end chunk block from count is = by (cases_lt (65536 * chunk) (end - start))
  where
    inside : 65536 * chunk < end - start → (16384 * block < (min 65536 (end - start - 65536 * chunk))) ⊎ ((min 65536 (end - start - 65536 * chunk)) ≤ 16384 * block) → from ≡ start + distance_of chunk block
    inside within (inl less) =
        let at : block_of (Redo start end) chunk block ≡ Some (RedoPart (start + 65536 * chunk + 16384 * block) (min 16384 (min 65536 (end - start - 65536 * chunk) - 16384 * block))) = ap (λ o. slice_get (option_map_or blocks_of o []) block) (piece_at 65536 (RedoPart start (end - start)) chunk (omega arith) within) ∙ piece_at 16384 (RedoPart (start + 65536 * chunk) (min 65536 (end - start - 65536 * chunk))) block (omega arith) less in
        let same : from ≡ start + 65536 * chunk + 16384 * block = cc (is, at) in
        omega (arith, same)
    inside within (inr past) =
        let at : block_of (Redo start end) chunk block ≡ None = ap (λ o. slice_get (option_map_or blocks_of o []) block) (piece_at 65536 (RedoPart start (end - start)) chunk (omega arith) within) ∙ no_piece 16384 (RedoPart (start + 65536 * chunk) (min 65536 (end - start - 65536 * chunk))) block (omega arith) past in
        absurd (cc (is, at))

    by : (65536 * chunk < end - start) ⊎ (end - start ≤ 65536 * chunk) → from ≡ start + distance_of chunk block
    by (inl within) = inside within (cases_lt (16384 * block) (min 65536 (end - start - 65536 * chunk)))
    by (inr past) =
        let at : block_of (Redo start end) chunk block ≡ None = ap (λ o. slice_get (option_map_or blocks_of o []) block) (no_piece 65536 (RedoPart start (end - start)) chunk (omega arith) past) ∙ slice_get_past {X = Part} [] block (omega arith) in
        absurd (cc (is, at))

-- ---- pages

pages_fit : (phase : Phase) (r : Reception) (list : StageList) (chunk number : ℕ) (pages : List PageAt) → Copies phase r list → stage_number (stage_of list) ≡ phase_number phase → block_of list chunk number ≡ Some (PagePart (places_of pages)) → fits_block (page_numbered (stage_number (stage_of list))) r chunk number pages ≡ true
pages_fit (Copying copy.FileCopy) r (Files spaces) chunk number pages copies same is =
    ap (λ (o : Option Part). are_pages_of o pages) (ap (λ (l : StageList). block_of l chunk number) (sym copies) ∙ is) ∙ are_those pages
pages_fit (Copying copy.PageCopy) r (Pages listed) chunk number pages (other, list, count) same is =
    let one : listed ≡ other = cc (list) in
    let long : length pages ≡ size_at (Pages listed) chunk number = sym (length-map pages (λ (p : PageAt). (p.space, p.number))) ∙ sym (ap (λ (o : Option Part). option_map_or size_of o 0) is) in
    let all : r.pages ≡ length listed = count ∙ sym (ap length one) in
    eq-eqb (length pages) (size_at (counted_pages r.pages) chunk number) (long ∙ listed_size listed chunk number ∙ pages_size (length listed) chunk number ∙ ap (λ (n : ℕ). size_at (counted_pages n) chunk number) (sym all))
pages_fit phase r (Redo start end) chunk number pages copies same is = absurd (no_pages (code.Redo start end) chunk number (places_of pages) (λ spaces e. cc (e)) (λ listed e. cc (e)) is)
pages_fit phase r Nothing chunk number pages copies same is = absurd (no_pages code.Nothing chunk number (places_of pages) (λ spaces e. cc (e)) (λ listed e. cc (e)) is)
pages_fit Opening r (Files spaces) chunk number pages copies same is = absurd (omega (arith, same))
pages_fit Opening r (Pages listed) chunk number pages copies same is = absurd (omega (arith, same))
pages_fit Done r (Files spaces) chunk number pages copies same is = absurd (omega (arith, same))
pages_fit Done r (Pages listed) chunk number pages copies same is = absurd (omega (arith, same))
pages_fit (Copying copy.PageCopy) r (Files spaces) chunk number pages copies same is = absurd (omega (arith, same))
pages_fit (Copying copy.RedoCopy) r (Files spaces) chunk number pages copies same is = absurd (omega (arith, same))
pages_fit (Copying copy.FileCopy) r (Pages listed) chunk number pages copies same is = absurd (omega (arith, same))
pages_fit (Copying copy.RedoCopy) r (Pages listed) chunk number pages copies same is = absurd (omega (arith, same))

-- pages are copied in one of the first two stages
page_stage : (list : StageList) (chunk number : ℕ) (pages : List (ℕ × ℕ)) → block_of list chunk number ≡ Some (PagePart pages) → page_number (page_numbered (stage_number (stage_of list))) ≡ stage_number (stage_of list)
page_stage (Files spaces) chunk number pages is = refl
page_stage (Pages listed) chunk number pages is = refl
page_stage (Redo start end) chunk number pages is = absurd (no_pages (code.Redo start end) chunk number pages (λ spaces e. cc (e)) (λ listed e. cc (e)) is)
page_stage Nothing chunk number pages is = absurd (no_pages code.Nothing chunk number pages (λ spaces e. cc (e)) (λ listed e. cc (e)) is)

-- ---- redo

redo_long : (a : Option Archived) (redo : RedoBlock) → IsInArchive a redo → length (redo_in a redo) ≡ redo.length
redo_long None redo is = absurd is
redo_long (Some a) redo is = length-take-le redo.length (drop (redo.from - a.start) a.bytes) (omega (arith, length-drop (redo.from - a.start) a.bytes, is.0, is.1))

redo_copied : (phase : Phase) (r : Reception) (start end : ℕ) → Copies phase r (Redo start end) → 3 ≡ phase_number phase → (start ≡ r.checkpoint) × (end ≡ r.lsn)
redo_copied (Copying copy.RedoCopy) r start end copies same = (cc (copies), cc (copies))
redo_copied (Copying copy.FileCopy) r start end copies same = absurd (omega (arith, same))
redo_copied (Copying copy.PageCopy) r start end copies same = absurd (omega (arith, same))
redo_copied Opening r start end copies same = absurd (omega (arith, same))
redo_copied Done r start end copies same = absurd (omega (arith, same))

-- ---- THE BLOCK, as it was read

module _ (r : Reception) (s : Session) (own : IsSessionOf r s) (phase : donor_stage s ≡ phase_number r.table.phase) (counts : marks.blocks_of r.table.marks ≡ block_counts s.snap.list) (ascend : HasAscending s.snap.list) (caller : Caller) (k stage : ℕ) (caller_is : caller ≡ caller_of r.table k) (stage_is : stage ≡ donor_stage s) (chunk number : ℕ) (d : Donor) where
  attempt : record { session = caller.session; incarnation = caller.incarnation } ≡ attempt_of r.table
  attempt = ap (λ (c : Caller). record { session = c.session; incarnation = c.incarnation }) caller_is

  has_block : (part : Part) → block_of s.snap.list chunk number ≡ Some part → HasBlock r.table chunk number
  has_block part is = subst (λ (n : ℕ). number < n) (sym (ap (λ (c : List ℕ). slice_index c chunk) counts ∙ counts_at s.snap.list chunk)) (slice_get_within _ number part is)

  pages_given : (pages : List PageAt) → block_of s.snap.list chunk number ≡ Some (PagePart (places_of pages)) → IsGiven (Some s) r (block_frame caller stage chunk number (block.Pages pages))
  pages_given pages is = (attempt, has_block (PagePart (places_of pages)) is, and_from (are_pages 0 pages) _ (ascend chunk number pages is) (ap (λ (n : ℕ). fits_block (page_numbered n) r chunk number pages) stage_is ∙ pages_fit r.table.phase r s.snap.list chunk number pages (own.copies phase) phase is))

  redo_given : (redo : RedoBlock) (from : ℕ) (bytes : List ℕ) → block_of s.snap.list chunk number ≡ Some (RedoPart redo.from redo.length) → IsInArchive d.cloning.archive redo → from ≡ redo.from → bytes ≡ redo_in d.cloning.archive redo → IsGiven (Some s) r (block_frame caller stage chunk number (block.Redo from bytes))
  redo_given redo from bytes is there from_is bytes_is = (attempt, has_block (RedoPart redo.from redo.length) is, and_from (from == r.checkpoint + distance_of chunk number) _ (eq-eqb from (r.checkpoint + distance_of chunk number) at) (eq-eqb (length bytes) (size_at (Redo r.checkpoint r.lsn) chunk number) long))
    where
      alone : (start : ℕ) × (end : ℕ) × (s.snap.list ≡ Redo start end)
      alone = redo_alone s.snap.list chunk number redo.from redo.length is

      same : (alone.0 ≡ r.checkpoint) × (alone.1 ≡ r.lsn)
      same = redo_copied r.table.phase r alone.0 alone.1 (subst (Copies r.table.phase r) alone.2 (own.copies phase)) (sym (ap (λ (l : StageList). stage_number (stage_of l)) alone.2) ∙ phase)

      list : s.snap.list ≡ Redo r.checkpoint r.lsn
      list = alone.2 ∙ (λ i. Redo (same.0 i) (same.1 i))

      here : block_of (Redo r.checkpoint r.lsn) chunk number ≡ Some (RedoPart redo.from redo.length)
      here = ap (λ (l : StageList). block_of l chunk number) (sym list) ∙ is

      at : from ≡ r.checkpoint + distance_of chunk number
      at = from_is ∙ redo_from r.checkpoint r.lsn chunk number redo.from redo.length here

      long : length bytes ≡ size_at (Redo r.checkpoint r.lsn) chunk number
      long = ap length bytes_is ∙ redo_long d.cloning.archive redo there ∙ sym (ap (λ (o : Option Part). option_map_or size_of o 0) here)

  -- A TASK MAY TAKE IT.
  pub block_given : (made : BlockWork) (told : Block) → block_of s.snap.list chunk number ≡ Some (part_of made) → IsThere d.cloning made → IsBlock s.snap.list d made told → IsGiven (Some s) r (block_frame caller stage chunk number told)
  block_given (work.Pages places) (block.Pages pages) is there read = pages_given pages (is ∙ ap (λ (p : List (ℕ × ℕ)). Some (PagePart p)) (sym read.0))
  block_given (work.Pages places) (block.Redo from bytes) is there read = absurd read
  block_given (work.Redo redo) (block.Pages pages) is there read = absurd read
  block_given (work.Redo redo) (block.Redo from bytes) is there read = redo_given redo from bytes is there read.0 read.1

  -- and so the rounds have it
  pub block_says : (made : BlockWork) (told : Block) → block_of s.snap.list chunk number ≡ Some (part_of made) → IsBlock s.snap.list d made told → (all : ℕ → List ℕ) → all (donor_stage s) ≡ block_counts s.snap.list → answer_of all (block_frame caller stage chunk number told) ≡ Some (BlockAnswer (donor_stage s) (place_of (block_counts s.snap.list) chunk number))
  block_says (work.Pages places) (block.Pages pages) is read all counted =
      let stage_at : page_number (page_numbered stage) ≡ donor_stage s = ap (λ (n : ℕ). page_number (page_numbered n)) stage_is ∙ page_stage s.snap.list chunk number places is in
      ap (λ (n : ℕ). Some (BlockAnswer n (place_of (all n) chunk number))) stage_at ∙ ap (λ (c : List ℕ). Some (BlockAnswer (donor_stage s) (place_of c chunk number))) counted
  block_says (work.Pages places) (block.Redo from bytes) is read all counted = absurd read
  block_says (work.Redo redo) (block.Pages pages) is read all counted = absurd read
  block_says (work.Redo redo) (block.Redo from bytes) is read all counted =
      let alone = redo_alone s.snap.list chunk number redo.from redo.length is in
      let stage_at : 3 ≡ donor_stage s = sym (ap (λ (l : StageList). stage_number (stage_of l)) alone.2) in
      ap (λ (n : ℕ). Some (BlockAnswer n (place_of (all n) chunk number))) stage_at ∙ ap (λ (c : List ℕ). Some (BlockAnswer (donor_stage s) (place_of c chunk number))) counted
