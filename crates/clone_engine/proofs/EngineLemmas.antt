-- What holds of every engine: of its files and its pages, and over its disk.
use Rattle.std.proofs.Common.{[], ◌≡◌, ◌≢◌, ◌≤◌, ◌+◌, ◌⊎◌, inl, inr, ℕ, List, length, replicate, slice_get, refl, sym, ap, subst, ◌∙◌, arith, Option, None, Some, IsSome, option_map, option_and_then, ◌<◌, Bool, true, false, IsTrue, if◌then◌else◌, ◌&&◌, ◌∷◌, is_some}
use Rattle.std.proofs.lemmas.Bool.{cases_eq, true≢false}
use Rattle.std.proofs.lemmas.List.{length-set}
use Rattle.std.proofs.lemmas.Option.{slice_get_past, slice_get_within}
use Rattle.std.specs.Cmp.{nat_cmp_total}
use Rattle.std.proofs.lemmas.Map.Lookups.{exact_unsigned}
use Rattle.std.specs.FinMap as finite
use Rattle.std.specs.Ordering.{nat_cmp}
use Rattle.clone_base.proofs.OrderedMaps.{len-again}
use Rattle.clone_image.proofs.Images.{get-put_same, get-put_other}
use Rattle.clone_image.specs.Redone.{past_end, redone, standing_at, standing_in, Standing}
use Rattle.clone_outside.specs.Disk as disk
use Rattle.clone_buffer.specs.OnePage as one
use Rattle.clone_outside.specs.Disk.{DiskImage, with_page, changed, edited, with_created, zero_page, Steps, ForTold}
use Rattle.clone_outside.specs.declared.disk.Held.{Held}
use Rattle.clone_model.specs.declared.line.TheConstants.{MOST_PAGES}
use Rattle.clone_contents.specs.Records.{system_size}
use Rattle.clone_flush.specs.Flights.{Files, HasFiles, Flights, IsFlown, IsOnDisk, beside_of, StandsFlown, write_of, beyond}
use Rattle.clone_plain.specs.Donor.{Donor}
use Rattle.clone_plain.specs.Effects.{created}
use Rattle.clone_trx.proofs.Common.{length-replicate, same_Some, none-some, get-empty, no_donor}
use Rattle.clone_engine.specs.Engine.{AreOfDonor, Engine, IsEngine, MakesPages}
use Rattle.clone_image.specs.Image.{Image, page_of, page_count}
use Rattle.clone_pool.specs.declared.frame.Frame.{Frame}
use Rattle.clone_pool.specs.declared.frame.PageName.{PageName}
use Rattle.clone_pool.specs.Frames.{frame_at, name_of, holder, is_begun, is_fresh}
use Rattle.clone_pool.specs.Pool.{IsPool}
use Rattle.clone_buffer.specs.Buffered.{Buffered, IsBuffer, image_of}
use Rattle.clone_buffer.specs.Flushing.{with_change}
use Rattle.clone_buffer.specs.Keeping as buffer
use Rattle.clone_buffer.proofs.FrameLemmas.{holder_name}
use Rattle.clone_buffer.proofs.ShownLemmas.{shown_held}
use Rattle.clone_flush.specs.Calls.{HasDirty}
use Rattle.clone_trx.specs.Kept.{Keeps}
use Rattle.clone_trx.specs.Sound.{IsKept}
use Rattle.clone_trx.proofs.CreateLemmas.{no_space, unheld}
use Rattle.clone_trx.proofs.FramePinLemmas.{set_pins}
use Rattle.clone_image.proofs.RedoLemmas.{replayed_is_redone}
use Rattle.clone_law.specs.Machine.{HasSpace, PageEngine, Untracked}
use Rattle.clone_buffer.proofs.ImageLemmas.{below_count}
use Rattle.clone_law.specs.Rule.{CopyRule, Held as IsHeld}
use Rattle.clone_pool.specs.declared.frame.Flush.{Flush}
use Rattle.clone_pool.specs.declared.frame.Flush.TheVariants as flush
use Rattle.clone_buffer.proofs.LawLemmas.{copy_keeps}
use Rattle.clone_flush.specs.declared.flusher.PageWrite.{PageWrite}
use Rattle.clone_buffer.specs.Keeping.{Stands}
use Rattle.clone_trx.specs.Ways.{StaysStanding}
use Rattle.clone_outside.specs.DiskCalls.{DiskState}
use Rattle.clone_engine.specs.Growth.{PagesStay}
use Rattle.clone_engine.proofs.WayLemmas.{Grows, of_tables}
use Rattle.clone_recover.specs.Reading.{IsOfTable}
use Rattle.clone_mtr.specs.declared.record.Record.{Record}
use Rattle.clone_engine.proofs.ToldLemmas.{told_both}

-- The files of the tables and of the system space, as far as they are known and as the disk has
-- them.

-- donors with the same tables have the same files
pub same_files : (d after : Donor) (files : Files) → after.tables ≡ d.tables → AreOfDonor d files → AreOfDonor after files
same_files d after files same are = record {
  system = are.system;
  tables = λ table there. are.tables table (subst (λ (t : finite.FinMap nat_cmp ℕ). IsSome (finite.get t table)) same there);
  others = λ space other known. subst (λ (t : finite.FinMap nat_cmp ℕ). IsSome (finite.get t space)) (sym same) (are.others space other known);
  count = are.count ∙ sym (ap (λ (t : finite.FinMap nat_cmp ℕ). finite.len t + 1) same);
  sizes = are.sizes;
}

-- a table isn't there whose file isn't known
pub no_table : (d : Donor) (files : Files) (table : ℕ) → AreOfDonor d files → finite.get files table ≡ None → finite.get d.tables table ≡ None
no_table d files table are unknown = by (finite.get d.tables table) refl
  where
    by : (o : Option ℕ) → finite.get d.tables table ≡ o → o ≡ None
    by None is = refl
    by (Some count) is = absurd (let known = subst IsSome unknown (are.tables table (subst IsSome (sym is) refl)) in cc)

still_known : (files : Files) (space pages s : ℕ) → IsSome (finite.get files s) → IsSome (finite.get (finite.insert files space pages) s)
still_known files space pages s known = by (cases_eq s space)
  where
    by : (s ≡ space) ⊎ (s ≢ space) → IsSome (finite.get (finite.insert files space pages) s)
    by (inl same) = subst IsSome (sym (ap (finite.get (finite.insert files space pages)) same ∙ get-put_same files space pages)) refl
    by (inr other) = subst IsSome (sym (get-put_other files space s pages other)) known

-- so many pages may a file have
abbrev pub IsSize : ℕ → Type 0
IsSize pages = (1 ≤ pages) × (pages ≤ MOST_PAGES)

still_small : (files : Files) (space pages s n : ℕ) → IsSize pages → ((s n : ℕ) → finite.get files s ≡ Some n → IsSize n) → finite.get (finite.insert files space pages) s ≡ Some n → IsSize n
still_small files space pages s n most small is = by (cases_eq s space)
  where
    by : (s ≡ space) ⊎ (s ≢ space) → IsSize n
    by (inl same) =
        let value = same_Some pages n (sym (get-put_same files space pages) ∙ ap (finite.get (finite.insert files space pages)) (sym same) ∙ is) in
        (omega (arith, most.0, value), omega (arith, most.1, value))
    by (inr other) = small s n (sym (get-put_other files space s pages other) ∙ is)

-- a file that is known has other pages
pub raised_files : (d : Donor) (files : Files) (space pages : ℕ) → IsSome (finite.get files space) → IsSize pages → AreOfDonor d files → AreOfDonor d (finite.insert files space pages)
raised_files d files space pages known most are = record {
  system = still_known files space pages 0 are.system;
  tables = λ table there. still_known files space pages table (are.tables table there);
  others = λ s other there. are.others s other (was s there (cases_eq s space));
  count = counted (finite.get files space) refl known ∙ are.count;
  sizes = λ s n. still_small files space pages s n most are.sizes;
}
  where
    was : (s : ℕ) → IsSome (finite.get (finite.insert files space pages) s) → (s ≡ space) ⊎ (s ≢ space) → IsSome (finite.get files s)
    was s there (inl same) = subst (λ (n : ℕ). IsSome (finite.get files n)) (sym same) known
    was s there (inr other) = subst IsSome (get-put_other files space s pages other) there

    counted : (o : Option ℕ) → finite.get files space ≡ o → IsSome o → finite.len (finite.insert files space pages) ≡ finite.len files
    counted None is some = absurd (cc)
    counted (Some old) is some = len-again nat_cmp_total exact_unsigned files space old pages is

-- one more of a map that hasn't the key
one_more : (m : finite.FinMap nat_cmp ℕ) (k n : ℕ) → finite.get m k ≡ None → finite.len (finite.insert m k n) ≡ finite.len m + 1
one_more m k n none = grind (arith, finite.len-insert nat_cmp_total m k n, none)

-- a table is made, with its file
pub made_files : (d : Donor) (files : Files) (table buckets : ℕ) → 1 ≤ table → IsSize buckets → finite.get files table ≡ None → AreOfDonor d files → AreOfDonor (created table buckets d) (finite.insert files table buckets)
made_files d files table buckets low most unknown are = record {
  system = still_known files table buckets 0 are.system;
  tables = λ t there. known t there (cases_eq t table);
  others = λ s other there. of_table s there other (cases_eq s table);
  count = one_more files table buckets unknown ∙ ap (λ (n : ℕ). n + 1) are.count ∙ sym (ap (λ (n : ℕ). n + 1) (one_more d.tables table buckets (no_table d files table are unknown)));
  sizes = λ s n. still_small files table buckets s n most are.sizes;
}
  where
    known : (t : ℕ) → IsSome (finite.get (finite.insert d.tables table buckets) t) → (t ≡ table) ⊎ (t ≢ table) → IsSome (finite.get (finite.insert files table buckets) t)
    known t there (inl same) = subst IsSome (sym (ap (finite.get (finite.insert files table buckets)) same ∙ get-put_same files table buckets)) refl
    known t there (inr other) = still_known files table buckets t (are.tables t (subst IsSome (get-put_other d.tables table t buckets other) there))

    of_table : (s : ℕ) → IsSome (finite.get (finite.insert files table buckets) s) → s ≢ 0 → (s ≡ table) ⊎ (s ≢ table) → IsSome (finite.get (finite.insert d.tables table buckets) s)
    of_table s there other (inl same) = subst IsSome (sym (ap (finite.get (finite.insert d.tables table buckets)) same ∙ get-put_same d.tables table buckets)) refl
    of_table s there other (inr apart) = subst IsSome (sym (get-put_other d.tables table s buckets apart)) (are.others s other (subst IsSome (get-put_other files table s buckets apart) there))

-- the first file is that of the system space
pub first_files : AreOfDonor no_donor (finite.insert finite.empty 0 system_size)
first_files = record {
  system = subst IsSome (sym (get-put_same none 0 system_size)) refl;
  tables = λ table there. absurd (let no = subst IsSome (get-empty nat_cmp table) there in cc);
  others = λ s other there. absurd (let no = subst IsSome (get-put_other none 0 s system_size other ∙ get-empty nat_cmp s) there in cc);
  count = one_more none 0 system_size (get-empty nat_cmp 0);
  sizes = λ s n. still_small none 0 system_size s n (omega (arith), omega (arith)) (λ s n is. absurd (none-some n (sym (get-empty nat_cmp s) ∙ is)));
}
  where
    none : Files
    none = finite.empty

-- A page is written.

edited_count : (m : DiskImage) (space number : ℕ) (edit : Held → Held) (s : ℕ) (o : Option (List Held)) → finite.get m.spaces space ≡ o → option_map length (finite.get (changed m.spaces space (edited number edit) o) s) ≡ disk.page_count m s
edited_count m space number edit s None is = refl
edited_count m space number edit s (Some pages) is = by (cases_eq s space)
  where
    by : (s ≡ space) ⊎ (s ≢ space) → option_map length (finite.get (finite.insert m.spaces space (edited number edit pages)) s) ≡ disk.page_count m s
    by (inl same) = subst (λ n. option_map length (finite.get (finite.insert m.spaces space (edited number edit pages)) n) ≡ disk.page_count m n) (sym same)
        (ap (option_map length) (get-put_same m.spaces space (edited number edit pages)) ∙ ap (λ n. Some n) (length-set pages number _) ∙ sym (ap (option_map length) is))
    by (inr other) = ap (option_map length) (get-put_other m.spaces space s (edited number edit pages) other)

pub page_written : (files : Files) (m : DiskImage) (space number : ℕ) (edit : Held → Held) → HasFiles files m → HasFiles files (with_page m space number edit)
page_written files m space number edit h s pages is = let long = h s pages is in (long.0, edited_count m space number edit s (finite.get m.spaces space) refl ∙ long.1, long.2)

-- A space is made.

module _ (m : DiskImage) (table buckets : ℕ) where
  made_count : disk.page_count (with_created m table buckets) table ≡ Some buckets
  made_count = ap (option_map length) (get-put_same m.spaces table (replicate buckets zero_page)) ∙ ap (λ n. Some n) (length-replicate buckets zero_page)

  other_count : (s : ℕ) → s ≢ table → disk.page_count (with_created m table buckets) s ≡ disk.page_count m s
  other_count s other = ap (option_map length) (get-put_other m.spaces table s (replicate buckets zero_page) other)

  pub other_page : (s number : ℕ) → s ≢ table → disk.page_of (with_created m table buckets) s number ≡ disk.page_of m s number
  other_page s number other = ap (λ (o : Option (List Held)). option_and_then (λ pages. slice_get pages number) o) (get-put_other m.spaces table s (replicate buckets zero_page) other)

  -- a page past its end
  pub past_made : (number : ℕ) → buckets ≤ number → (disk.page_of (with_created m table buckets) table number ≡ None) × (one.disk_standing (with_created m table buckets) table number ≡ past_end)
  past_made number high =
      let there = get-put_same m.spaces table (replicate buckets zero_page) in
      let none : slice_get (replicate buckets zero_page) number ≡ None = slice_get_past (replicate buckets zero_page) number (omega (arith, high, length-replicate buckets zero_page)) in
      (ap (λ (o : Option (List Held)). option_and_then (λ ps. slice_get ps number) o) there ∙ none, ap (λ (o : Option (List Held)). one.standing_in o number) there ∙ ap one.standing_at none)

  -- of a table whose file isn't known, which may not come to be
  pub space_left : (files : Files) → finite.get files table ≡ None → HasFiles files m → HasFiles files (with_created m table buckets)
  space_left files none h s pages is =
      let long = h s pages is in
      (long.0, other_count s (λ same. none-some pages (sym none ∙ ap (finite.get files) (sym same) ∙ is)) ∙ long.1, long.2)

  pub space_made : (files : Files) → HasFiles files m → HasFiles (finite.insert files table buckets) (with_created m table buckets)
  space_made files h s pages is = by (cases_eq s table)
    where
      by : (s ≡ table) ⊎ (s ≢ table) → (count : ℕ) × (disk.page_count (with_created m table buckets) s ≡ Some count) × (pages ≤ count)
      by (inl same) =
          let value = same_Some buckets pages (sym (get-put_same files table buckets) ∙ ap (finite.get (finite.insert files table buckets)) (sym same) ∙ is) in
          (buckets, ap (disk.page_count (with_created m table buckets)) same ∙ made_count, omega (arith, value))
      by (inr other) = let long = h s pages (sym (get-put_other files table s buckets other) ∙ is) in (long.0, other_count s other ∙ long.1, long.2)

-- the first space of a disk
pub first_made : (m : DiskImage) → HasFiles (finite.insert finite.empty 0 system_size) (with_created m 0 system_size)
first_made m = space_made m 0 system_size finite.empty (λ s pages is. absurd (none-some pages (sym (get-empty nat_cmp s) ∙ is)))

-- What holds of every engine: of its pages, and over its disk.

-- The pages in frames are those of the image, which has spaces of tables and the system space
-- alone.

-- a frame that has a page which isn't new
pub record HasOld (frames : List Frame) (page : PageName) : Type 0 where
  pub at : ℕ
  pub name : name_of (frame_at frames at) ≡ Some page
  pub old : is_fresh (frame_at frames at).content ≡ false

-- A page whose flush has begun has one.
flying_held : (frames : List Frame) (page : PageName) → IsTrue (is_begun (one.flush_in (one.frame_of frames page.space page.number))) → HasOld frames page
flying_held frames page flies = by (holder frames page) refl flies
  where
    old : (at : ℕ) → holder frames page ≡ Some at → (b : Bool) → is_fresh (frame_at frames at).content ≡ b → IsTrue (is_begun (one.flush_in (if b then None else Some (frame_at frames at)))) → HasOld frames page
    old at is true fresh begun = absurd (true≢false (sym begun))
    old at is false fresh begun = record { at = at; name = (holder_name frames page at is).1; old = fresh }

    by : (o : Option ℕ) → holder frames page ≡ o → IsTrue (is_begun (one.flush_in (one.frame_in frames o))) → HasOld frames page
    by None is begun = absurd (true≢false (sym begun))
    by (Some at) is begun = old at is (is_fresh (frame_at frames at).content) refl begun

-- so does a page that is dirty
pub dirty_held : (b : Buffered) (page : PageName) (at : ℕ) → IsPool b.pool → HasDirty page b at → HasOld b.pool.frames page
dirty_held b page at p h = by (is_fresh (frame_at b.pool.frames at).content) refl
  where
    by : (fresh : Bool) → is_fresh (frame_at b.pool.frames at).content ≡ fresh → HasOld b.pool.frames page
    by true fresh = absurd (true≢false (sym h.dirty ∙ ((p.frame at).fresh fresh).1))
    by false old = record { at = at; name = h.holder.name; old = old }

-- and it is one of the image
pub in_image : (b : Buffered) (page : PageName) → IsBuffer b → IsTrue b.right → HasOld b.pool.frames page → (bytes : List ℕ) × (page_of (image_of b) page.space page.number ≡ Some bytes)
in_image b page is right h =
    let f : Frame = frame_at b.pool.frames h.at in
    (f.page, shown_held (image_of b) f.page page f.content (is.shows right h.at) h.name h.old)

-- a page on its way to the disk is none of a table that isn't there
pub flies_elsewhere : (d : Donor) (b : Buffered) (beside : one.Beside) (m : DiskImage) (table : ℕ) (page : PageName) → IsBuffer b → buffer.IsKept b beside m → IsKept d (image_of b) → 1 ≤ table → finite.get d.tables table ≡ None
    → IsSome (beside.image page.space page.number) → page.space ≢ table
flies_elsewhere d b beside m table page is k kept low none flies =
    let found = in_image b page is k.right (flying_held b.pool.frames page ((k.page page.space page.number).flights.1 flies)) in
    unheld (image_of b) table page found.0 (no_space d (image_of b) table kept low none) found.1

-- how many pages its space has
pub record IsWithin (image : Image) (space number : ℕ) : Type 0 where
  pub count : ℕ
  pub size : page_count image space ≡ Some count
  pub low : number < count

pub is_within : (image : Image) (space number : ℕ) (bytes : List ℕ) → page_of image space number ≡ Some bytes → IsWithin image space number
is_within image space number bytes is = by (finite.get image space) refl
  where
    by : (o : Option (List (List ℕ))) → finite.get image space ≡ o → IsWithin image space number
    by None none = absurd (let no = sym (ap (λ (o : Option (List (List ℕ))). option_and_then (λ pages. slice_get pages number) o) none) ∙ is in cc)
    by (Some pages) some = record {
      count = length pages;
      size = ap (option_map length) some;
      low = slice_get_within pages number bytes (sym (ap (λ (o : Option (List (List ℕ))). option_and_then (λ ps. slice_get ps number) o) some) ∙ is);
    }

-- A DIRTY PAGE is one of a space whose file is known, and a space may have as many pages.
pub dirty_known : (d : Donor) (b : Buffered) (files : Files) (page : PageName) (at : ℕ) → IsPool b.pool → IsBuffer b → IsTrue b.right → IsKept d (image_of b) → AreOfDonor d files → HasDirty page b at
    → IsSome (finite.get files page.space) × (page.number < MOST_PAGES)
dirty_known d b files page at p is right kept are dirty = by (cases_eq page.space 0)
  where
    within : IsWithin (image_of b) page.space page.number
    within = let found = in_image b page is right (dirty_held b page at p dirty) in is_within (image_of b) page.space page.number found.0 found.1

    table : page.space ≢ 0 → (o : Option ℕ) → finite.get d.tables page.space ≡ o → IsSome (finite.get files page.space) × (page.number < MOST_PAGES)
    table other None none = absurd (none-some within.count (sym (kept.sound.tables.spaces page.space other none) ∙ within.size))
    table other (Some count) some =
        let size = (kept.sound.tables.sizes page.space count some).0 in
        let same = same_Some within.count size.pages (sym within.size ∙ size.size) in
        (are.tables page.space (subst IsSome (sym some) refl), omega (arith, within.low, same, size.most))

    by : (page.space ≡ 0) ⊎ (page.space ≢ 0) → IsSome (finite.get files page.space) × (page.number < MOST_PAGES)
    by (inl zero) =
        let same = same_Some within.count system_size (sym within.size ∙ ap (page_count (image_of b)) zero ∙ kept.formed.size) in
        (subst (λ (s : ℕ). IsSome (finite.get files s)) (sym zero) are.system, omega (arith, within.low, same))
    by (inr other) = table other (finite.get d.tables page.space) refl

-- the pages of a space that the log makes
pub spaced_page : (b : Buffered) (space number count : ℕ) → IsBuffer b → page_count (image_of b) space ≡ Some count → HasSpace (redone space number b.log)
spaced_page b space number count is size = subst HasSpace (replayed_is_redone b.log space number (omega (arith, is.below))) (by (finite.get (image_of b) space) refl)
  where
    at : (o : Option (List ℕ)) → HasSpace (standing_at o)
    at None = tt
    at (Some page) = tt

    by : (o : Option (List (List ℕ))) → finite.get (image_of b) space ≡ o → HasSpace (standing_in o number)
    by None none = absurd (none-some count (sym (ap (option_map length) none) ∙ size))
    by (Some pages) some = at (slice_get pages number)

pub spaced_by : (b : Buffered) (space number : ℕ) → IsBuffer b → IsSome (page_of (image_of b) space number) → HasSpace (redone space number b.log)
spaced_by b space number is there = by (page_of (image_of b) space number) refl there
  where
    by : (o : Option (List ℕ)) → page_of (image_of b) space number ≡ o → IsSome o → HasSpace (redone space number b.log)
    by None none some = absurd (cc)
    by (Some page) is_there some = let within = is_within (image_of b) space number page is_there in spaced_page b space number within.count is within.size

-- a page of the image below the count of its space
pub is_there : (b : Buffered) (space number count : ℕ) → page_count (image_of b) space ≡ Some count → number < count → IsSome (page_of (image_of b) space number)
is_there b space number count size low = below_count (image_of b) space count 0 size number low

-- the pages of the image below one that it has
pub below_there : (b : Buffered) (space number other : ℕ) → IsSome (page_of (image_of b) space number) → other ≤ number → IsSome (page_of (image_of b) space other)
below_there b space number other there low = by (page_of (image_of b) space number) refl there
  where
    by : (o : Option (List ℕ)) → page_of (image_of b) space number ≡ o → IsSome o → IsSome (page_of (image_of b) space other)
    by None none some = absurd (cc)
    by (Some page) is some = let within = is_within (image_of b) space number page is in is_there b space other within.count within.size (omega (arith, low, within.low))

-- a frame that stays pinned as it is
pub change_keeps : (d : Donor) (b : Buffered) (at : ℕ) (change : Frame → Frame) → (change (frame_at b.pool.frames at)).pins ≡ (frame_at b.pool.frames at).pins → Keeps d b → Keeps d (with_change at change b)
change_keeps d b at change same k = record { loose = λ other. (set_pins b.pool.frames at (change (frame_at b.pool.frames at)) same).at other ∙ k.loose other; kept = k.kept }

-- What a clone may have of a page past the end of its file.

-- pages that stand with what a clone has of each, stand with all else that keeps the rule
pub stands_with : (b : Buffered) (f : Flights) (copies others : one.Copies) (m : DiskImage) → IsFlown b f copies m → ((space number : ℕ) → CopyRule space number (one.engine_of b (beside_of f copies) m space number) (others space number)) → IsFlown b f others m
stands_with b f copies others m k rule = record { kept = copy_keeps b (beside_of f copies) m others k.kept rule; there = k.there; floor = k.floor }

grounded : (x : Flush) → one.flight_of x None ≡ None
grounded flush.Idle = refl
grounded (flush.Begun later) = refl
grounded flush.Failed = refl

-- A page that isn't on the disk, of a space that the log makes, is past the end.
module _ (b : Buffered) (f : Flights) (copies : one.Copies) (m : DiskImage) (k : IsFlown b f copies m) (space number : ℕ) (none : disk.page_of m space number ≡ None) (past : one.disk_standing m space number ≡ past_end) (has : HasSpace (redone space number b.log)) where
  abbrev e : PageEngine
  e = one.engine_of b (beside_of f copies) m space number

  closed : e.writing ≡ false
  closed = ap (λ (o : Option Held). one.is_open o && one.has_space (redone space number b.log)) none

  unwritten : (o : Option PageWrite) → finite.get f.writes (space, number) ≡ o → o ≡ None
  unwritten None is = refl
  unwritten (Some w) is = absurd (subst (IsOnDisk w) none (k.there (record { space = space; number = number }) w is))

  still : e.flight ≡ None
  still = ap (λ (o : Option PageWrite). one.flight_of (one.flush_in (one.frame_of b.pool.frames space number)) (option_map (λ (w : PageWrite). w.image) o)) (unwritten (finite.get f.writes (space, number)) refl) ∙ grounded (one.flush_in (one.frame_of b.pool.frames space number))

  pub past_rule : CopyRule space number e (Untracked (past_end ∷ []))
  past_rule = (closed, still, (subst (λ (s : Standing). IsHeld space number e.oldest s b.log) past ((k.kept.page space number).rule.engine.quiet closed has), tt))

-- What a disk tells over a call, and how flights stand to it.

-- A buffer that stands over the disk as it was.

-- It stands beside this still, or beside what a clone has of each page by then.
abbrev Becomes : one.Beside → one.Beside → Buffered → Buffered → Option DiskImage → Option DiskImage → Type 0
Becomes beside later old new before after = Stands old beside before → Stands new later after

abbrev Stays : one.Beside → Buffered → Buffered → Option DiskImage → Option DiskImage → Type 0
Stays beside = Becomes beside beside

still_flown : (f : Flights) (copies later : one.Copies) (old new : Buffered) (told : Option DiskImage) → Becomes (beside_of f copies) (beside_of f later) old new told told → new.ring.floor ≡ old.ring.floor → StandsFlown old f copies told → StandsFlown new f later told
still_flown f copies later old new None stays floor had = tt
still_flown f copies later old new (Some m) stays floor k = record { kept = stays k.kept; there = k.there; floor = omega (arith, floor, k.floor) }

pub becomes_flown : (f : Flights) (copies later : one.Copies) (old new : Buffered) (before after : Option DiskImage) → after ≡ before → Becomes (beside_of f copies) (beside_of f later) old new before after → new.ring.floor ≡ old.ring.floor → StandsFlown old f copies before → StandsFlown new f later after
becomes_flown f copies later old new before after same stays floor had =
    subst (StandsFlown new f later) (sym same) (still_flown f copies later old new before (subst (Becomes (beside_of f copies) (beside_of f later) old new before) same stays) floor had)

pub stays_flown : (f : Flights) (copies : one.Copies) (old new : Buffered) (before after : Option DiskImage) → after ≡ before → Stays (beside_of f copies) old new before after → new.ring.floor ≡ old.ring.floor → StandsFlown old f copies before → StandsFlown new f copies after
stays_flown f copies = becomes_flown f copies copies

-- One that stands over the disk with a table's space made.
module _ (d : Donor) (f : Flights) (copies later : one.Copies) (old new : Buffered) (table buckets : ℕ) (b : IsBuffer old) (kept : IsTrue old.right → IsKept d (image_of old)) (low : 1 ≤ table) (none : finite.get d.tables table ≡ None) (floor : new.ring.floor ≡ old.ring.floor) where
  abbrev made : DiskImage → DiskImage
  made m = with_created m table buckets

  flown_made : (m : DiskImage) → Becomes (beside_of f copies) (beside_of f later) old new (Some m) (Some (made m)) → IsFlown old f copies m → IsFlown new f later (made m)
  flown_made m stays k = record { kept = stays k.kept; there = there; floor = omega (arith, floor, k.floor) }
    where
      there : (page : PageName) (w : PageWrite) → write_of f page ≡ Some w → IsOnDisk w (disk.page_of (made m) page.space page.number)
      there page w is =
          let flies : IsSome ((beside_of f copies).image page.space page.number) = ap (λ (o : Option PageWrite). is_some (option_map (λ (x : PageWrite). x.image) o)) is in
          let other = flies_elsewhere d old (beside_of f copies) m table page b k.kept (kept k.kept.right) low none flies in
          subst (IsOnDisk w) (sym (other_page m table buckets page.space page.number other)) (k.there page w is)

  pub made_flown : (before after : Option DiskImage) → Steps before after made → Becomes (beside_of f copies) (beside_of f later) old new before after → StandsFlown old f copies before → StandsFlown new f later after
  made_flown None after is stays had = subst (StandsFlown new f later) (sym is) tt
  made_flown (Some m) after is stays k = subst (StandsFlown new f later) (sym is) (flown_made m (subst (Becomes (beside_of f copies) (beside_of f later) old new (Some m)) is stays) k)

-- What holds of every donor, after a call of transactions.

abbrev pub engine : Donor → Buffered → Flights → DiskState → Engine
engine d b f k = record { donor = d; buffer = b; flights = f; disk = k }

-- where the disk tells, all that was read is right
pub right_told : (b : Buffered) (f : Flights) (copies : one.Copies) (told : Option DiskImage) → StandsFlown b f copies told → ForTold told (λ _. IsTrue b.right)
right_told b f copies None st = tt
right_told b f copies (Some m) k = k.kept.right

-- An engine is one over each disk that tells the same.
pub retold : (e : Engine) (k : DiskState) → k.told ≡ e.disk.told → IsEngine e → IsEngine (record e { disk = k })
retold e k same is = record {
  keeps = is.keeps;
  stands = subst (StandsFlown e.buffer e.flights one.no_copies) (sym same) is.stands;
  files = subst (λ (told : Option DiskImage). ForTold told (HasFiles e.flights.files)) (sym same) is.files;
  spaces = is.spaces;
  within = subst (λ (told : Option DiskImage). ForTold told (λ _. MakesPages e.flights.files e.buffer)) (sym same) is.within;
  short = subst (StandsFlown e.buffer e.flights (beyond e.flights.files)) (sym same) is.short;
  tables = is.tables;
}

-- A CALL OF TRANSACTIONS over a disk that stays
pub still_engine : (P : Record → Type 0) (to : (r : Record) → P r → IsOfTable r) (most : ℕ) (d e : Donor) (old new : Buffered) (f : Flights) (k l : DiskState) → IsEngine (engine d old f k) → Keeps e new → Grows P most old new → PagesStay old new → StaysStanding old new k.told l.told → l.told ≡ k.told → e.tables ≡ d.tables → IsEngine (engine e new f l)
still_engine P to most d e old new f k l is keeps grows pages stays same tables = record {
  keeps = keeps;
  stands = all one.no_copies is.stands;
  files = subst (λ (told : Option DiskImage). ForTold told (HasFiles f.files)) (sym same) is.files;
  spaces = same_files d e f.files tables is.spaces;
  within = subst (λ (told : Option DiskImage). ForTold told (λ _. MakesPages f.files new)) (sym same)
      (told_both (λ _. IsTrue old.right) (λ _. MakesPages f.files old) (λ _. MakesPages f.files new) k.told (λ m right had space number inside. pages right space number (had space number inside)) (right_told old f one.no_copies k.told is.stands) is.within);
  short = all (beyond f.files) is.short;
  tables = of_tables P most old new to grows is.tables;
}
  where
    all : (copies : one.Copies) → StandsFlown old f copies k.told → StandsFlown new f copies l.told
    all copies = stays_flown f copies old new k.told l.told same (stays (beside_of f copies)) grows.floor
