-- The record of a recipient, as its calls leave it.
use Rattle.std.proofs.Common.{◌≡◌, ◌+◌, ◌≤◌, ◌<◌, ◌==◌, ◌&&◌, ◌||◌, ◌++◌, ◌∷◌, ◌∙◌, [], ℕ, Bool, true, false, not, List, Option, None, Some, option_map, refl, sym, ap, subst, arith, append-nil, if◌then◌else◌}
use Rattle.std.specs.List.{AllByRecursion, Contains}
use Rattle.std.specs.Prelude.{nat_le, slice_index}
use Rattle.std.proofs.lemmas.Bool.{eqb-true, false≢true, leb-true}
use Rattle.std.proofs.lemmas.List.Elements.{Contains-append_left, Contains-push}
use Rattle.clone_model.specs.declared.line.TheConstants.{MOST_PAGES}
use Rattle.clone_outside.specs.Disk.{DiskImage, ForTold, Steps}
use Rattle.clone_chunk.specs.Plans as plans
use Rattle.clone_chunk.specs.Stages.{copy_number, copying}
use Rattle.clone_chunk.specs.declared.copy_stage.CopyStage.{CopyStage}
use Rattle.clone_chunk.specs.declared.copy_stage.CopyStage.TheVariants as copy
use Rattle.clone_chunk.specs.declared.plan.StagePlan.{StagePlan}
use Rattle.clone_chunk.specs.declared.plan.StagePlan.TheVariants as plan
use Rattle.clone_chunk.specs.declared.spaces.SpaceSize.{SpaceSize}
use Rattle.clone_chunk.specs.declared.stage.Stage.{Stage}
use Rattle.clone_chunk.specs.declared.stage.Stage.TheVariants as stage
use Rattle.clone_accepted.specs.Answers.{Item, Moves, PageBlock, RedoBlock, Takes, ToldDone, ToldFiles, ToldPages, ToldRedo}
use Rattle.clone_accepted.specs.Disk.{with_item, with_told}
use Rattle.clone_accepted.specs.Record.{HasFiles, HasListed, HasLog, IsRecord, MayCome}
use Rattle.clone_accepted.specs.Turns as turns
use Rattle.clone_accepted.specs.Whole.{HasAll, IsWhole}
use Rattle.clone_accepted.proofs.RecordLemmas as accepted
use Rattle.clone_marks.specs.Blocks.{AreAllTaken, blocks_of, is_taken}
use Rattle.clone_marks.specs.Counts.{block_counts, pairs_of, unmarked}
use Rattle.clone_marks.specs.declared.chunk_marks.ChunkMarks.{ChunkMarks}
use Rattle.clone_marks.proofs.ForgetLemmas.{forgotten_taken}
use Rattle.clone_marks.proofs.RunLemmas.{counts_at, none_taken}
use Rattle.clone_page.specs.declared.pages.PageAt.{PageAt}
use Rattle.clone_wire.specs.declared.frame.Attempt.{Attempt}
use Rattle.clone_wire.specs.declared.frame.Frame.{Frame}
use Rattle.clone_wire.specs.declared.frame.Frame.TheVariants as frame
use Rattle.clone_wire.specs.declared.stage.PageStage.{PageStage}
use Rattle.clone_wire.specs.declared.stage.PageStage.TheVariants as page
use Rattle.clone_tasks.specs.Awaiting.{awaits_block, awaits_end_of, awaits_stage, fits_stage, is_in, is_opening, is_present, is_same, moves, moves_from, next_stage}
use Rattle.clone_tasks.specs.Losing.{after_loss, is_spent, kept_in, loss_table}
use Rattle.clone_tasks.specs.Moves.{joined_by}
use Rattle.clone_tasks.specs.Sending.{after_sending}
use Rattle.clone_tasks.specs.Tables.{Table, awaits_end, incarnation_of, is_done, standing_of}
use Rattle.clone_tasks.specs.declared.end.CloneEnd.{CloneEnd}
use Rattle.clone_tasks.specs.declared.end.CloneEnd.TheVariants as end
use Rattle.clone_tasks.specs.declared.rule.Rule.{Rule}
use Rattle.clone_tasks.specs.declared.rule.Rule.TheVariants as rule
use Rattle.clone_tasks.specs.declared.standing.Phase.{Phase}
use Rattle.clone_tasks.specs.declared.standing.Phase.TheVariants.{Opening, Copying, Done}
use Rattle.clone_tasks.specs.declared.standing.Standing.{Standing}
use Rattle.clone_tasks.specs.declared.standing.Standing.TheVariants as standing
use Rattle.clone_recipient.specs.Expecting.{are_spaces, copied_in, fits, fits_pages, fits_redo, is_expected, is_space}
use Rattle.clone_recipient.specs.Receptions.{AreCounted, Reception, begun, list_of}
use Rattle.clone_recipient.specs.Record.{AreTaken, HasBlock, IsRecordIn, IsRecordOf, items_of, moved_to, stage_of}
use Rattle.clone_recipient.specs.Taking.{HasMarked, Takes as Took, TakesStage, laid_at, moved_by, told_by}
use Rattle.clone_recipient.specs.declared.limits.TheConstants.{MOST_SPACE}
use Rattle.clone_recipient.proofs.ExpectLemmas.{both}

-- ---- what is left of a record

-- the chunks are as they were, and what is marked was marked
pub record StaysKnown (old new : Table) : Type 0 where
  pub phase : new.phase ≡ old.phase
  pub marked : (chunk block : ℕ) → is_taken new.marks chunk block ≡ true → is_taken old.marks chunk block ≡ true

less_taken : (phase : Phase) (old new : List ChunkMarks) (items : List Item) → ((chunk block : ℕ) → is_taken new chunk block ≡ true → is_taken old chunk block ≡ true) → AreTaken phase old items → AreTaken phase new items
less_taken Opening old new items marked were = tt
less_taken (Copying at) old new items marked were = λ chunk block is. were chunk block (marked chunk block is)
less_taken Done old new items marked were = tt

pub stays : (r : Reception) (t : Table) (items : List Item) (first : DiskImage) (told : Option DiskImage) → StaysKnown r.table t → IsRecordOf r items first told → IsRecordOf (record r { table = t }) items first told
stays r t items first told same was =
    subst (λ (p : Phase). IsRecordIn p (record r { table = t }) items first told) (sym same.phase) (record {
      is = was.is;
      files = was.files;
      pages = was.pages;
      redo = was.redo;
      blocks = less_taken r.table.phase r.table.marks t.marks items same.marked was.blocks;
      log = was.log;
    })

pub record_begins : (session count limit version : ℕ) (first : DiskImage) (told : Option DiskImage) → ForTold told (λ m. m ≡ first) → IsRecordOf (begun session count limit version) [] first told
record_begins session count limit version first told is = record {
  is = record { turn = tt; stage_is = refl; disk = is; files = λ late. absurd (omega (arith, late)); listed = λ late. absurd (omega (arith, late)) };
  files = λ late. absurd (omega (arith, late));
  pages = λ late. absurd (omega (arith, late));
  redo = λ late. absurd (omega (arith, late));
  blocks = tt;
  log = λ done. absurd (false≢true done);
}

pub record_sends : (r : Reception) (next : Rule) (task floor : ℕ) (items : List Item) (first : DiskImage) (told : Option DiskImage) → IsRecordOf r items first told → IsRecordOf (record r { table = after_sending next r.table task floor }) items first told
record_sends r next task floor items first told was = stays r (after_sending next r.table task floor) items first told (by next) was
  where
    by : (next : Rule) → StaysKnown r.table (after_sending next r.table task floor)
    by rule.Nothing = record { phase = refl; marked = λ c b is. is }
    by rule.Stale = record { phase = refl; marked = λ c b is. is }
    by rule.Receive = record { phase = refl; marked = λ c b is. is }
    by rule.Connect = record { phase = refl; marked = λ c b is. is }
    by (rule.Acknowledge at) = record { phase = refl; marked = λ c b is. is }
    by (rule.Execute at) = record { phase = refl; marked = λ c b is. is }
    by rule.Complete = record { phase = refl; marked = λ c b is. is }

pub record_loses : (r : Reception) (incarnation : ℕ) (items : List Item) (first : DiskImage) (told : Option DiskImage) → IsRecordOf r items first told → IsRecordOf (record r { table = loss_table r.table incarnation }) items first told
record_loses r incarnation items first told was = stays r (loss_table r.table incarnation) items first told (record { phase = phase (incarnation == incarnation_of r.table) (is_spent (after_loss r.table)); marked = marked (incarnation == incarnation_of r.table) (is_spent (after_loss r.table)) }) was
  where
    lost : Bool → Bool → Table
    lost own spent = if own then (if spent then record (after_loss r.table) { ended = Some (end.Spent (after_loss r.table).losses) } else after_loss r.table) else r.table

    phase : (own spent : Bool) → (lost own spent).phase ≡ r.table.phase
    phase true true = refl
    phase true false = refl
    phase false spent = refl

    marked : (own spent : Bool) (chunk block : ℕ) → is_taken (lost own spent).marks chunk block ≡ true → is_taken r.table.marks chunk block ≡ true
    marked true true chunk block is = forgotten_taken (kept_in r.table.version) r.table.marks chunk block is
    marked true false chunk block is = forgotten_taken (kept_in r.table.version) r.table.marks chunk block is
    marked false spent chunk block is = is

pub record_ends : (r : Reception) (how : CloneEnd) (items : List Item) (first : DiskImage) (told : Option DiskImage) → IsRecordOf r items first told → IsRecordOf (record r { table = record r.table { ended = Some how } }) items first told
record_ends r how items first told was = stays r (record r.table { ended = Some how }) items first told (record { phase = refl; marked = λ c b is. is }) was

pub record_whole : (r : Reception) (items : List Item) (first : DiskImage) (told : Option DiskImage) → IsRecordOf r items first told → is_done r.table.phase ≡ true → IsWhole items r.checkpoint r.lsn r.position
record_whole r items first told was done = accepted.whole items (stage_of r.table.phase) r.checkpoint r.lsn r.position first told was.is (late r.table.phase done) (was.log done)
  where
    late : (p : Phase) → is_done p ≡ true → 3 ≤ stage_of p
    late Opening done = absurd (false≢true done)
    late (Copying at) done = absurd (false≢true done)
    late Done done = omega arith

-- ---- a block

block_still : (at : CopyStage) (items more : List Item) (chunk block : ℕ) → HasBlock at items chunk block → HasBlock at (items ++ more) chunk block
block_still copy.FileCopy items more chunk block (pages, has) = (pages, Contains-append_left items more _ has)
block_still copy.PageCopy items more chunk block (pages, has) = (pages, Contains-append_left items more _ has)
block_still copy.RedoCopy items more chunk block (from, bytes, has) = (from, bytes, Contains-append_left items more _ has)

-- one more block is marked, and it was taken
one_more : (at : CopyStage) (old new : List ChunkMarks) (items : List Item) (item : Item) (chunk block : ℕ) → HasBlock at (items ++ item ∷ []) chunk block → ((c b : ℕ) → is_taken new c b ≡ (is_taken old c b || ((c == chunk) && (b == block))))
    → AreTaken (Copying at) old items → AreTaken (Copying at) new (items ++ item ∷ [])
one_more at old new items item chunk block has marked were c b is = by (is_taken old c b) refl (sym (marked c b) ∙ is)
  where
    by : (before : Bool) → is_taken old c b ≡ before → (before || ((c == chunk) && (b == block))) ≡ true → HasBlock at (items ++ item ∷ []) c b
    by true was now = block_still at items (item ∷ []) c b (were c b was)
    by false was now =
        let own = both (c == chunk) (b == block) now in
        subst (λ (n : ℕ). HasBlock at (items ++ item ∷ []) n b) (sym (eqb-true c chunk own.0))
        (subst (λ (n : ℕ). HasBlock at (items ++ item ∷ []) chunk n) (sym (eqb-true b block own.1)) has)

-- the recipient copies the stage of the block
in_stage : (p : Phase) (at : CopyStage) → is_in p (copying at) ≡ true → p ≡ Copying at
in_stage Opening at is = absurd (false≢true is)
in_stage (Copying copy.FileCopy) copy.FileCopy is = refl
in_stage (Copying copy.FileCopy) copy.PageCopy is = absurd (false≢true is)
in_stage (Copying copy.FileCopy) copy.RedoCopy is = absurd (false≢true is)
in_stage (Copying copy.PageCopy) copy.FileCopy is = absurd (false≢true is)
in_stage (Copying copy.PageCopy) copy.PageCopy is = refl
in_stage (Copying copy.PageCopy) copy.RedoCopy is = absurd (false≢true is)
in_stage (Copying copy.RedoCopy) copy.FileCopy is = absurd (false≢true is)
in_stage (Copying copy.RedoCopy) copy.PageCopy is = absurd (false≢true is)
in_stage (Copying copy.RedoCopy) copy.RedoCopy is = refl
in_stage Done at is = absurd (false≢true is)

-- a block joins the record
block_joins : (r new : Reception) (at : CopyStage) (item : Item) (answer : turns.IsNext (copy_number at) item) (items : List Item) (first : DiskImage) (told now : Option DiskImage) (chunk block : ℕ) → turns.stage_with (copy_number at) item ≡ copy_number at → r.table.phase ≡ Copying at
    → HasMarked chunk block r new → Steps told now (with_item item) → HasBlock at (items ++ item ∷ []) chunk block → IsRecordOf r items first told → IsRecordOf new (items ++ item ∷ []) first now
block_joins r new at item next items first told now chunk block same copies marked steps has was =
    let before : IsRecordIn (Copying at) r items first told = subst (λ (p : Phase). IsRecordIn p r items first told) copies was in
    let more : (x : Item) → Contains items x → Contains (items ++ item ∷ []) x = λ x there. Contains-append_left items (item ∷ []) x there in
    let may : MayCome items (copy_number at) = record { files = before.is.files; listed = before.is.listed } in
    let joined : IsRecord (items ++ item ∷ []) (copy_number at) first now =
    subst (λ (n : ℕ). IsRecord (items ++ item ∷ []) n first now) same
    (accepted.takes items item (copy_number at) first told now before.is next (subst (λ (n : ℕ). MayCome items n) (sym same) may) steps) in
    let phase : new.table.phase ≡ Copying at = ap (λ (t : Table). t.phase) marked.table.else_same ∙ copies in
    subst (λ (x : Reception). IsRecordOf x (items ++ item ∷ []) first now) (sym marked.else_same)
    (subst (λ (p : Phase). IsRecordIn p (record r { table = new.table; sizes = new.sizes }) (items ++ item ∷ []) first now) (sym phase) (record {
      is = joined;
      files = λ late. more _ (before.files late);
      pages = λ late. let found = before.pages late in (found.0, more _ found.1);
      redo = λ late. more _ (before.redo late);
      blocks = one_more at r.table.marks new.table.marks items item chunk block has marked.table.taken before.blocks;
      log = λ done. absurd (false≢true done);
    }))

page_next : (at : PageStage) (chunk block : ℕ) (pages : List PageAt) → turns.IsNext (copy_number (copied_in at)) (Takes (PageBlock (copy_number (copied_in at)) chunk block (laid_at pages)))
page_next page.FileCopy chunk block pages = (refl, omega arith, omega arith)
page_next page.PageCopy chunk block pages = (refl, omega arith, omega arith)

page_has : (at : PageStage) (items : List Item) (chunk block : ℕ) (pages : List PageAt) → HasBlock (copied_in at) (items ++ Takes (PageBlock (copy_number (copied_in at)) chunk block (laid_at pages)) ∷ []) chunk block
page_has page.FileCopy items chunk block pages = (laid_at pages, Contains-push items _)
page_has page.PageCopy items chunk block pages = (laid_at pages, Contains-push items _)

awaited_in : (r : Reception) (task chunk block : ℕ) (at : CopyStage) (here rest : Bool) → (here && awaits_block r.table task at chunk block && rest) ≡ true → r.table.phase ≡ Copying at
awaited_in r task chunk block at here rest expected =
    let block_awaited = (both here (awaits_block r.table task at chunk block) (both (here && awaits_block r.table task at chunk block) rest expected).0).1 in
    let end_awaited = (both (awaits_end_of r.table task at) _ block_awaited).0 in
    in_stage r.table.phase at (both (awaits_end (standing_of r.table task)) (is_in r.table.phase (copying at)) end_awaited).1

-- ---- a STAGE

spaces_have_pages : (least : ℕ) (spaces : List SpaceSize) → are_spaces least spaces ≡ true → AllByRecursion (λ (space : ℕ × ℕ). 0 < space.1) (pairs_of spaces)
spaces_have_pages least [] are = tt
spaces_have_pages least (s ∷ spaces) are =
    let is = both (is_space least s) (are_spaces (s.space + 1) spaces) are in
    let front = both (nat_le least s.space && nat_le s.space MOST_SPACE && nat_le 1 s.pages) (nat_le s.pages MOST_PAGES) is.0 in
    let some : 1 ≤ s.pages = leb-true 1 s.pages (both (nat_le least s.space && nat_le s.space MOST_SPACE) (nat_le 1 s.pages) front.0).1 in
    (omega (arith, some), spaces_have_pages (s.space + 1) spaces is.1)

-- the blocks of a stage were taken where each is marked
all_blocks : (at : CopyStage) (r : Reception) (items : List Item) → AreAllTaken r.table.marks → blocks_of r.table.marks ≡ block_counts (list_of at r) → AreTaken (Copying at) r.table.marks items → HasAll (list_of at r) (HasBlock at items)
all_blocks at r items all counted were = λ chunk block low.
    were chunk block (all chunk block (subst (λ (n : ℕ). block < n) (sym (ap (λ (cs : List ℕ). slice_index cs chunk) counted ∙ counts_at (list_of at r) chunk)) low))

begins_untaken : (at : CopyStage) (counts : List ℕ) (items : List Item) → AreTaken (Copying at) (unmarked counts) items
begins_untaken at counts items = λ chunk block is. absurd (false≢true (sym (none_taken counts chunk block) ∙ is))

-- the STAGE that moves a recipient is that of the next stage
opening_next : (own : Bool) (p : Phase) (at : Stage) → own ≡ true → is_opening p ≡ true → (not own || is_same at (next_stage p) || is_in p at) ≡ true → is_same at (next_stage p) ≡ true
opening_next false p at own opens fits = absurd (false≢true own)
opening_next true (Copying present) at own opens fits = absurd (false≢true opens)
opening_next true Done at own opens fits = absurd (false≢true opens)
opening_next true Opening stage.FileCopy own opens fits = refl
opening_next true Opening stage.PageCopy own opens fits = absurd (false≢true fits)
opening_next true Opening stage.RedoCopy own opens fits = absurd (false≢true fits)
opening_next true Opening stage.Done own opens fits = absurd (false≢true fits)

moves_next : (s : Standing) (p : Phase) (task : ℕ) (at : Stage) → fits_stage s p task at ≡ true → moves_from s p task ≡ true → is_same at (next_stage p) ≡ true
moves_next standing.Apart p task at fits goes = absurd (false≢true goes)
moves_next standing.Joining p task at fits goes = let parts = both (task == 0) (is_opening p) goes in opening_next (task == 0) p at parts.0 parts.1 fits
moves_next standing.Ready p task at fits goes = absurd (false≢true goes)
moves_next standing.Fetching p task at fits goes = absurd (false≢true goes)
moves_next standing.Served p task at fits goes = absurd (false≢true goes)
moves_next standing.Acknowledging p task at fits goes = fits

module _ (r : Reception) (items : List Item) (first : DiskImage) (told now : Option DiskImage) where
  more : (plan : StagePlan) (x : Item) → Contains items x → Contains (items ++ Moves (told_by plan) ∷ []) x
  more plan x there = Contains-append_left items (Moves (told_by plan) ∷ []) x there

  -- the stage that ends is whole
  abbrev Ends : Phase → Type 0
  Ends p = (is_opening p ≡ false → AreAllTaken r.table.marks) × AreCounted p r

  files_whole : IsRecordIn (Copying copy.FileCopy) r items first told → Ends (Copying copy.FileCopy) → HasFiles items
  files_whole was ends = record { spaces = r.files; told = was.files (omega arith); blocks = all_blocks copy.FileCopy r items (ends.0 refl) ends.1 was.blocks }

  pages_whole : IsRecordIn (Copying copy.PageCopy) r items first told → Ends (Copying copy.PageCopy) → HasListed items
  pages_whole was ends =
      let found = was.pages (omega arith) in
      record { count = r.pages; made = found.0; told = found.1; blocks = all_blocks copy.PageCopy r items (ends.0 refl) ends.1 was.blocks }

  redo_whole : IsRecordIn (Copying copy.RedoCopy) r items first told → Ends (Copying copy.RedoCopy) → HasLog (items ++ Moves ToldDone ∷ []) r.checkpoint r.lsn r.position
  redo_whole was ends = record {
    told = Contains-append_left items (Moves ToldDone ∷ []) _ (was.redo (omega arith));
    blocks = λ chunk block low. block_still copy.RedoCopy items (Moves ToldDone ∷ []) chunk block (all_blocks copy.RedoCopy r items (ends.0 refl) ends.1 was.blocks chunk block low);
  }

  -- nothing more is told once all is copied
  unmoved : Steps told now (λ m. m) → now ≡ told
  unmoved steps = steps ∙ by told
    where
      by : (o : Option DiskImage) → option_map (λ m. m) o ≡ o
      by None = refl
      by (Some m) = refl

  moved : (p : Phase) (plan : StagePlan) → is_same (plans.stage_of plan) (next_stage p) ≡ true → fits plan ≡ true → Ends p → Steps told now (with_told (told_by plan)) → IsRecordIn p r items first told
      → IsRecordOf (moved_by plan r) (items ++ moved_to (not (is_done p)) plan) first now
  moved Opening (plan.FileCopy chunks spaces) same fit ends steps was = record {
    is = accepted.takes items (Moves (ToldFiles (pairs_of spaces))) 0 first told now was.is (refl, spaces_have_pages 0 spaces (both (are_spaces 0 spaces) _ fit).0) (record { files = λ late. absurd (omega (arith, late)); listed = λ late. absurd (omega (arith, late)) }) steps;
    files = λ late. Contains-push items _;
    pages = λ late. absurd (omega (arith, late));
    redo = λ late. absurd (omega (arith, late));
    blocks = begins_untaken copy.FileCopy _ _;
    log = λ done. absurd (false≢true done);
  }
  moved (Copying copy.FileCopy) (plan.PageCopy chunks position spaces) same fit ends steps was = record {
    is = accepted.takes items (Moves (ToldPages position (pairs_of spaces))) 1 first told now was.is (refl, tt) (record { files = λ late. files_whole was ends; listed = λ late. absurd (omega (arith, late)) }) steps;
    files = λ late. more (plan.PageCopy chunks position spaces) _ (was.files (omega arith));
    pages = λ late. (pairs_of spaces, Contains-push items _);
    redo = λ late. absurd (omega (arith, late));
    blocks = begins_untaken copy.PageCopy _ _;
    log = λ done. absurd (false≢true done);
  }
  moved (Copying copy.PageCopy) (plan.RedoCopy chunks checkpoint lsn position) same fit ends steps was = record {
    is = accepted.takes items (Moves (ToldRedo checkpoint lsn position)) 2 first told now was.is (refl, tt) (record { files = λ late. was.is.files (omega arith); listed = λ late. pages_whole was ends }) steps;
    files = λ late. more (plan.RedoCopy chunks checkpoint lsn position) _ (was.files (omega arith));
    pages = λ late. let found = was.pages (omega arith) in (found.0, more (plan.RedoCopy chunks checkpoint lsn position) _ found.1);
    redo = λ late. Contains-push items _;
    blocks = begins_untaken copy.RedoCopy _ _;
    log = λ done. absurd (false≢true done);
  }
  moved (Copying copy.RedoCopy) (plan.Done checkpoint lsn position) same fit ends steps was = record {
    is = accepted.takes items (Moves ToldDone) 3 first told now was.is (refl, tt) (record { files = λ late. was.is.files (omega arith); listed = λ late. was.is.listed (omega arith) }) steps;
    files = λ late. more (plan.Done checkpoint lsn position) _ (was.files (omega arith));
    pages = λ late. let found = was.pages (omega arith) in (found.0, more (plan.Done checkpoint lsn position) _ found.1);
    redo = λ late. more (plan.Done checkpoint lsn position) _ (was.redo (omega arith));
    blocks = tt;
    log = λ done. redo_whole was ends;
  }
  moved Done (plan.Done checkpoint lsn position) same fit ends steps was =
      subst (λ (o : Option DiskImage). IsRecordIn Done (moved_by (plan.Done checkpoint lsn position) r) (items ++ []) first o) (sym (unmoved steps))
      (subst (λ (is : List Item). IsRecordIn Done (moved_by (plan.Done checkpoint lsn position) r) is first told) (sym (append-nil items))
      (record { is = was.is; files = was.files; pages = was.pages; redo = was.redo; blocks = tt; log = was.log }))
  moved Opening (plan.PageCopy chunks position spaces) same fit ends steps was = absurd (false≢true same)
  moved Opening (plan.RedoCopy chunks checkpoint lsn position) same fit ends steps was = absurd (false≢true same)
  moved Opening (plan.Done checkpoint lsn position) same fit ends steps was = absurd (false≢true same)
  moved (Copying copy.FileCopy) (plan.FileCopy chunks spaces) same fit ends steps was = absurd (false≢true same)
  moved (Copying copy.FileCopy) (plan.RedoCopy chunks checkpoint lsn position) same fit ends steps was = absurd (false≢true same)
  moved (Copying copy.FileCopy) (plan.Done checkpoint lsn position) same fit ends steps was = absurd (false≢true same)
  moved (Copying copy.PageCopy) (plan.FileCopy chunks spaces) same fit ends steps was = absurd (false≢true same)
  moved (Copying copy.PageCopy) (plan.PageCopy chunks position spaces) same fit ends steps was = absurd (false≢true same)
  moved (Copying copy.PageCopy) (plan.Done checkpoint lsn position) same fit ends steps was = absurd (false≢true same)
  moved (Copying copy.RedoCopy) (plan.FileCopy chunks spaces) same fit ends steps was = absurd (false≢true same)
  moved (Copying copy.RedoCopy) (plan.PageCopy chunks position spaces) same fit ends steps was = absurd (false≢true same)
  moved (Copying copy.RedoCopy) (plan.RedoCopy chunks checkpoint lsn position) same fit ends steps was = absurd (false≢true same)
  moved Done (plan.FileCopy chunks spaces) same fit ends steps was = absurd (false≢true same)
  moved Done (plan.PageCopy chunks position spaces) same fit ends steps was = absurd (false≢true same)
  moved Done (plan.RedoCopy chunks checkpoint lsn position) same fit ends steps was = absurd (false≢true same)

  unadded : (new : Reception) → IsRecordOf new items first told → now ≡ told → IsRecordOf new (items ++ []) first now
  unadded new was same =
      subst (λ (o : Option DiskImage). IsRecordOf new (items ++ []) first o) (sym same)
      (subst (λ (is : List Item). IsRecordOf new is first told) (sym (append-nil items)) was)

  -- the sizes of the disk's spaces are no part of a record
  resized : (x : Reception) (new : Reception) (is : List Item) → IsRecordOf x is first now → IsRecordOf (record x { sizes = new.sizes }) is first now
  resized x new is was = record { is = was.is; files = was.files; pages = was.pages; redo = was.redo; blocks = was.blocks; log = was.log }

  stage_joins : (new : Reception) (task : ℕ) (attempt : Attempt) (plan : StagePlan) (goes : Bool) → moves r.table task ≡ goes → AreCounted r.table.phase r → is_expected r task (frame.Stage attempt plan) ≡ true → TakesStage goes plan task r new told now
      → IsRecordOf r items first told → IsRecordOf new (items ++ moved_to (goes && not (is_done r.table.phase)) plan) first now
  stage_joins new task attempt plan true goes counted expected takes was =
      let parts = both (is_present r.table attempt && awaits_stage r.table task (plans.stage_of plan)) (fits plan) expected in
      let awaited = (both (is_present r.table attempt) (awaits_stage r.table task (plans.stage_of plan)) parts.0).1 in
      let same = moves_next (standing_of r.table task) r.table.phase task (plans.stage_of plan) awaited goes in
      let added : List Item = items ++ moved_to (not (is_done r.table.phase)) plan in
      subst (λ (x : Reception). IsRecordOf x added first now) (sym takes.0)
      (resized (moved_by plan r) new added (moved r.table.phase plan same parts.1 (takes.2, counted) takes.1 was))
  stage_joins new task attempt plan false goes counted expected takes was =
      subst (λ (x : Reception). IsRecordOf x (items ++ []) first now) (sym takes.0)
      (unadded (record r { table = joined_by r.table task }) (stays r (joined_by r.table task) items first told (record { phase = refl; marked = λ c b is. is }) was) takes.1)

-- ---- a frame that is taken

pub record_takes : (r new : Reception) (task : ℕ) (f : Frame) (items : List Item) (first : DiskImage) (told now : Option DiskImage) → AreCounted r.table.phase r → is_expected r task f ≡ true → Took f task r new told now → IsRecordOf r items first told
    → IsRecordOf new (items ++ items_of r task f) first now
record_takes r new task (frame.Stage attempt plan) items first told now counted expected takes was =
    stage_joins r items first told now new task attempt plan (moves r.table task) refl counted expected takes was
record_takes r new task (frame.Pages attempt at chunk block pages) items first told now counted expected takes was =
    block_joins r new (copied_in at) (Takes (PageBlock (copy_number (copied_in at)) chunk block (laid_at pages))) (page_next at chunk block pages) items first told now chunk block refl
    (awaited_in r task chunk block (copied_in at) (is_present r.table attempt) (fits_pages at r chunk block pages) expected) takes.0 takes.1 (page_has at items chunk block pages) was
record_takes r new task (frame.Redo attempt chunk block from bytes) items first told now counted expected takes was =
    block_joins r new copy.RedoCopy (Takes (RedoBlock chunk block from bytes)) refl items first told now chunk block refl
    (awaited_in r task chunk block copy.RedoCopy (is_present r.table attempt) (fits_redo r chunk block from bytes) expected) takes.0 takes.1 (from, bytes, Contains-push items _) was
record_takes r new task (frame.End attempt at) items first told now counted expected takes was =
    subst (λ (x : Reception). IsRecordOf x (items ++ []) first now) (sym takes.0)
    (unadded r items first told now _ (stays r _ items first told (record { phase = refl; marked = λ c b is. is }) was) takes.1)
record_takes r new task (frame.Refused cause) items first told now counted expected takes was =
    subst (λ (x : Reception). IsRecordOf x (items ++ []) first now) (sym takes.0)
    (unadded r items first told now _ (record_ends r _ items first told was) takes.1)
record_takes r new task (frame.Init attempt version page_size compressed tasks) items first told now counted expected takes was = absurd takes
record_takes r new task (frame.Attach attempt other) items first told now counted expected takes was = absurd takes
record_takes r new task (frame.Reinit attempt at finished) items first told now counted expected takes was = absurd takes
record_takes r new task (frame.Reinit2 attempt at taken) items first told now counted expected takes was = absurd takes
record_takes r new task (frame.Execute at) items first told now counted expected takes was = absurd takes
record_takes r new task (frame.Ack at floor) items first told now counted expected takes was = absurd takes
record_takes r new task frame.Exit items first told now counted expected takes was = absurd takes
