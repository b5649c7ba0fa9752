-- A flush begins, or fails before anything is written.
use Rattle.std.proofs.Common.{◌≡◌, ◌≢◌, ◌+◌, ◌<◌, ◌&&◌, ◌⊎◌, inl, inr, ℕ, Bool, true, false, not, length, refl, sym, ap, subst, ◌∙◌, arith, Option, Some, None, IsSome, Result, Err, if◌then◌else◌}
use Rattle.std.specs.FinMap as finite
use Rattle.std.specs.FinMap.{same_map}
use Rattle.clone_base.proofs.MapEntries.{get-set_same, get-set_other, cases_row}
use Rattle.clone_base.proofs.OrderedMaps.{removed_again}
use Rattle.clone_model.proofs.RowMaps.{row_cmp_total, row_cmp_exact}
use Rattle.clone_model.specs.declared.line.TheConstants.{MOST_PAGES}
use Rattle.clone_outside.specs.Disk as disk
use Rattle.clone_outside.specs.Disk.{DiskImage, ForTold, IsBeforeOrAfter}
use Rattle.clone_law.specs.Machine as machine
use Rattle.clone_law.specs.Machine.{Copy, PageEngine, Idle, Untracked, Tracked, Copied, Stopped}
use Rattle.clone_law.specs.Rule.{CopyRule}
use Rattle.clone_pool.specs.Frames.{frame_at, name_of, no_frame, is_waiting, begun, failed}
use Rattle.clone_pool.specs.Index.{is_name_of}
use Rattle.clone_pool.proofs.PoolLemmas.{within}
use Rattle.std.proofs.lemmas.List.{get_or-set_same}
use Rattle.clone_pool.specs.declared.frame.PageName.{PageName}
use Rattle.clone_buffer.specs.Buffered.{Buffered}
use Rattle.clone_buffer.specs.Flushing.{with_change, with_noted, Changes}
use Rattle.clone_buffer.specs.OnePage.{Copies, disk_standing, engine_of}
use Rattle.clone_buffer.proofs.LawLemmas.{copy_kept, copy_keeps}
use Rattle.clone_buffer.proofs.LengthenLemmas.{fault_keeps, lengthen_keeps, longer_page, IsNew}
use Rattle.clone_flush.specs.Flights.{Flights, HasFiles, IsFlown, IsOnDisk, StandsFlown, beside_of, is_short, write_of}
use Rattle.clone_flush.specs.Calls.{Lengthens, Waits, ends_short, has_begun, lengthened, new_write, reaching, with_write, without_write}
use Rattle.clone_flush.specs.declared.flusher.PageWrite.{PageWrite}
use Rattle.clone_flush.specs.declared.refusal.FlushRefusal.{FlushRefusal}
use Rattle.clone_flush.specs.declared.refusal.FlushRefusal.TheVariants.{NotDirty, InFlight, NoFlush, DiskFault, NoMemory}
use Rattle.clone_flush.proofs.FlightLemmas.{flown_begun, told_stepped}
use Rattle.clone_flush.proofs.FileLemmas.{extended_count, long_enough, long_is, page_there}

-- A write that took the place of another gives way to it.
pub gone_again : (page : PageName) (w : PageWrite) (f : Flights) → None ≡ write_of f page → without_write page (with_write page w f) ≡ f
gone_again page w f none = λ i. record f { writes = removed_again row_cmp_total row_cmp_exact f.writes (page.space, page.number) w (sym none) i }

pub back_again : (page : PageName) (w v : PageWrite) (f : Flights) → Some v ≡ write_of f page → with_write page v (with_write page w f) ≡ f
back_again page w v f some = λ i. record f { writes = same_map row_cmp_total row_cmp_exact (finite.insert (finite.insert f.writes key w) key v) f.writes (λ q. by q (cases_row q key)) i }
  where
    key : ℕ × ℕ
    key = (page.space, page.number)

    by : (q : ℕ × ℕ) → (q ≡ key) ⊎ (q ≢ key) → finite.get (finite.insert (finite.insert f.writes key w) key v) q ≡ finite.get f.writes q
    by q (inl same) = ap (finite.get (finite.insert (finite.insert f.writes key w) key v)) same ∙ get-set_same row_cmp_total row_cmp_exact (finite.insert f.writes key w) key v ∙ some ∙ ap (finite.get f.writes) (sym same)
    by q (inr other) = get-set_other row_cmp_total row_cmp_exact (finite.insert f.writes key w) key v q other ∙ get-set_other row_cmp_total row_cmp_exact f.writes key w q other

-- no flush begins where it is refused without a fault
pub refused_begin : {X : Type 0} (refusal : FlushRefusal) → (let r : Result X FlushRefusal = Err refusal in r ≢ Err DiskFault) → (let r : Result X FlushRefusal = Err refusal in has_begun r ≡ false)
refused_begin NotDirty other = refl
refused_begin InFlight other = refl
refused_begin NoFlush other = refl
refused_begin DiskFault other = absurd (other refl)
refused_begin NoMemory other = refl

-- a page that waits has a frame that is dirty, and no flush of which has begun
pub is_waiting_there : (page : PageName) (b : Buffered) (at : ℕ) → Waits page b at → is_waiting (frame_at b.pool.frames at) ≡ true
is_waiting_there page b at w = λ i. w.dirty.dirty i && not (w.quiet i)

-- its frame has it still then
pub begun_name : (page : PageName) (b : Buffered) (at : ℕ) → Waits page b at → name_of (frame_at (with_change at begun b).pool.frames at) ≡ Some page
begun_name page b at w =
    let name = w.dirty.holder.name in
    let low : at < length b.pool.frames = within b.pool.frames at (subst IsSome (sym name) refl) in
    ap name_of (get_or-set_same b.pool.frames at (begun (frame_at b.pool.frames at)) no_frame low) ∙ name

-- The file of a space gets longer.
module _ (b : Buffered) (f : Flights) (copies : Copies) (m : DiskImage) (k : IsFlown b f copies m) where
  there_still : (space pages : ℕ) (page : PageName) (w : PageWrite) → IsOnDisk w (disk.page_of m page.space page.number) → IsOnDisk w (disk.page_of (disk.with_extended m space pages) page.space page.number)
  there_still space pages page w on = by (longer_page m space pages page.space page.number)
    where
      by : ((disk.page_of (disk.with_extended m space pages) page.space page.number ≡ disk.page_of m page.space page.number) × (disk_standing (disk.with_extended m space pages) page.space page.number ≡ disk_standing m page.space page.number)) ⊎ IsNew m space pages page.space page.number → IsOnDisk w (disk.page_of (disk.with_extended m space pages) page.space page.number)
      by (inl same) = subst (IsOnDisk w) (sym same.0) on
      by (inr new) = absurd (subst (IsOnDisk w) new.none on)

  pub flown_longer : (space pages : ℕ) → IsFlown b f copies (disk.with_extended m space pages)
  flown_longer space pages = record {
    kept = lengthen_keeps b (beside_of f copies) m space pages k.kept;
    there = λ page w is. there_still space pages page w (k.there page w is);
    floor = k.floor;
  }

  -- a flush fails before anything is written
  pub flown_fault : (page : PageName) (at : ℕ) → Changes b page at begun → Changes (with_change at begun b) page at failed → is_waiting (frame_at b.pool.frames at) ≡ true → IsFlown (with_change at failed (with_change at begun b)) f copies m
  flown_fault page at c d waits = record { kept = fault_keeps b (beside_of f copies) m page at c d waits k.kept; there = k.there; floor = k.floor }

  -- what a clone has of each page, once a page of it is noted
  noted_rule : (space number : ℕ) (e : PageEngine) (copy : Copy) → CopyRule space number e copy → CopyRule space number e (machine.noted copy)
  noted_rule space number e Idle rule = tt
  noted_rule space number e (Untracked starts) rule = tt
  noted_rule space number e Tracked rule = tt
  noted_rule space number e (Copied base starts) rule = rule
  noted_rule space number e (Stopped base log starts) rule = rule

  pub flown_noted : (page : PageName) → IsFlown b f (with_noted page copies) m
  flown_noted page = record { kept = copy_keeps b (beside_of f copies) m (with_noted page copies) k.kept rule; there = k.there; floor = k.floor }
    where
      rule : (space number : ℕ) → CopyRule space number (engine_of b (beside_of f copies) m space number) (with_noted page copies space number)
      rule space number = by (is_name_of page (Some (record { space = space; number = number })))
        where
          e : PageEngine
          e = engine_of b (beside_of f copies) m space number

          had : CopyRule space number e (copies space number)
          had = (copy_kept b (beside_of f copies) m space number k.kept).copy

          by : (t : Bool) → CopyRule space number e (if t then machine.noted (copies space number) else copies space number)
          by true = noted_rule space number e (copies space number) had
          by false = had

-- A FLUSH BEGINS, with its file long enough.
module _ (b : Buffered) (f : Flights) (copies : Copies) (page : PageName) (at : ℕ) (c : Changes b page at begun) (waits : is_waiting (frame_at b.pool.frames at) ≡ true) (known : IsSome (finite.get f.files page.space)) (low : page.number < MOST_PAGES) where
  abbrev Begun : DiskImage → Type 0
  Begun m = IsFlown (with_change at begun b) (with_write page (new_write at b) f) (with_noted page copies) m

  abbrev Had : DiskImage → Type 0
  Had m = IsFlown b f copies m × HasFiles f.files m

  begun_long : is_short f.files page.space page.number ≡ false → (m : DiskImage) → Had m → Begun m
  begun_long long m had = flown_begun b f copies m page at had.0 c waits (long_enough f.files m had.1 page.space page.number known long)

  begun_short : (m : DiskImage) → Had m → Begun (reaching page m)
  begun_short m had =
      let k : IsFlown b f copies (reaching page m) = flown_longer b f copies m had.0 page.space (page.number + 1) in
      flown_begun b f copies (reaching page m) page at k c waits (there (finite.get f.files page.space) refl known)
    where
      there : (o : Option ℕ) → finite.get f.files page.space ≡ o → IsSome o → IsSome (disk.page_of (reaching page m) page.space page.number)
      there None none some = absurd (cc)
      there (Some pages) is some =
          let long = had.1 page.space pages is in
          let now = extended_count m page.space (page.number + 1) page.space long.0 long.1 in
          page_there (reaching page m) page.space page.number now.now now.is (omega (arith, now.reached refl))

  both : (told : Option DiskImage) → StandsFlown b f copies told → ForTold told (HasFiles f.files) → ForTold told Had
  both None st files = tt
  both (Some m) k files = (k, files)

  pub stands_begun : (before after : Option DiskImage) → Lengthens (ends_short page f) page before after → StandsFlown b f copies before → ForTold before (HasFiles f.files) → ForTold after Begun
  stands_begun before after lengthens st files = by (ends_short page f) refl lengthens
    where
      by : (t : Bool) → ends_short page f ≡ t → Lengthens t page before after → ForTold after Begun
      by false e same = subst (λ (t : Option DiskImage). ForTold t Begun) (sym same) (stays before (both before st files))
        where
          stays : (t : Option DiskImage) → ForTold t Had → ForTold t Begun
          stays None had = tt
          stays (Some m) had = begun_long (long_is page f low e) m had
      by true e step = told_stepped Had Begun before after (reaching page) step begun_short (both before st files)

-- A FLUSH FAILS to lengthen its file.
module _ (b : Buffered) (f : Flights) (copies : Copies) (page : PageName) (at : ℕ) (c : Changes b page at begun) (d : Changes (with_change at begun b) page at failed) (waits : is_waiting (frame_at b.pool.frames at) ≡ true) where
  pub stands_fault : (before after : Option DiskImage) → IsBeforeOrAfter before after (reaching page) → StandsFlown b f copies before → StandsFlown (with_change at failed (with_change at begun b)) f copies after
  stands_fault before after (inl same) st = subst (StandsFlown (with_change at failed (with_change at begun b)) f copies) (sym same) (stays before st)
    where
      stays : (t : Option DiskImage) → StandsFlown b f copies t → StandsFlown (with_change at failed (with_change at begun b)) f copies t
      stays None st = tt
      stays (Some m) k = flown_fault b f copies m k page at c d waits
  stands_fault before after (inr step) st = told_stepped (IsFlown b f copies) (IsFlown (with_change at failed (with_change at begun b)) f copies) before after (reaching page) step
      (λ m k. flown_longer (with_change at failed (with_change at begun b)) f copies m (flown_fault b f copies m k page at c d waits) page.space (page.number + 1)) st

pub stands_noted : (b : Buffered) (f : Flights) (copies : Copies) (page : PageName) (told : Option DiskImage) → StandsFlown b f copies told → StandsFlown b f (with_noted page copies) told
stands_noted b f copies page None st = tt
stands_noted b f copies page (Some m) k = flown_noted b f copies m k page

-- the files of a disk that failed to lengthen one
pub files_failed : (f : Flights) (page : PageName) (before after : Option DiskImage) → IsBeforeOrAfter before after (reaching page) → ForTold before (HasFiles f.files) → ForTold after (HasFiles f.files)
files_failed f page before after (inl same) h = subst (λ (t : Option DiskImage). ForTold t (HasFiles f.files)) (sym same) h
files_failed f page before after (inr step) h = told_stepped (HasFiles f.files) (HasFiles f.files) before after (reaching page) step longer h
  where
    longer : (m : DiskImage) → HasFiles f.files m → HasFiles f.files (reaching page m)
    longer m h s pages is =
        let long = h s pages is in
        let now = extended_count m page.space (page.number + 1) s long.0 long.1 in
        (now.now, now.is, omega (arith, now.more, long.2))

-- the files of a disk on which one may have got longer
pub files_kept : (f : Flights) (page : PageName) (short : Bool) (before after : Option DiskImage) → Lengthens short page before after → ForTold before (HasFiles f.files) → ForTold after (HasFiles f.files)
files_kept f page false before after same h = files_failed f page before after (inl same) h
files_kept f page true before after step h = files_failed f page before after (inr step) h

-- A FILE IS KNOWN TO BE LONGER, which changes nothing of how the writes stand.
pub stands_reached : (short : Bool) (page : PageName) (f : Flights) (b : Buffered) (copies : Copies) (told : Option DiskImage) → StandsFlown b f copies told → StandsFlown b (lengthened short page f) copies told
stands_reached false page f b copies told st = st
stands_reached true page f b copies None st = tt
stands_reached true page f b copies (Some m) k = record { kept = k.kept; there = k.there; floor = k.floor }

-- a write that began, with its file known to be long enough
pub reached_write : (short : Bool) (page : PageName) (w : PageWrite) (f : Flights) → lengthened short page (with_write page w f) ≡ with_write page w (lengthened short page f)
reached_write false page w f = refl
reached_write true page w f = refl
