-- The pages on their way to the disk, each with its image, the checkpoint, and the files.
use Rattle.std.specs.Prelude.{ℕ, ◌≡◌, ◌≤◌, ◌∷◌, [], nat_le, Bool, true, false, List, take, None, Some, IsSome, option_map, if◌then◌else◌, refl}
use Rattle.std.specs.declared.option.Option.{Option}
use Rattle.std.specs.FinMap as finite
use Rattle.std.specs.Ordering.{nat_cmp}
use Rattle.std.specs.Coded.{Coded, code_by, coded×, coded_ℕ, coded_bool, coded_list}
use Rattle.clone_outside.specs.Disk as disk
use Rattle.clone_outside.specs.Disk.{DiskImage, ForTold, page_count}
use Rattle.clone_outside.specs.declared.disk.Held.{Held}
use Rattle.clone_outside.specs.declared.disk.TheConstants.{HALF_PAGE}
use Rattle.clone_model.specs.Keys.{row_cmp}
use Rattle.clone_image.specs.Redone.{past_end}
use Rattle.clone_law.specs.Machine.{Idle, Untracked}
use Rattle.clone_buffer.specs.Buffered.{Buffered}
use Rattle.clone_buffer.specs.OnePage.{Beside, Copies}
use Rattle.clone_buffer.specs.Keeping.{IsKept}
use Rattle.clone_pool.specs.declared.frame.PageName.{PageName}
use Rattle.clone_flush.specs.declared.flusher.PageWrite.{PageWrite}

-- from a space and a page's number there to the write of the page that is under way
abbrev pub Writes : Type 0
Writes = finite.FinMap row_cmp PageWrite

-- the writes that an ordered map lists
abbrev pub writes_of : List ((ℕ × ℕ) × PageWrite) → Writes
writes_of entries = finite.from_entries entries

-- from a space to so many pages of its file as are known to be there
abbrev pub Files : Type 0
Files = finite.FinMap nat_cmp ℕ

-- the writes that are under way, the last checkpoint, and the files
pub record Flights : Type 0 where
  pub writes : Writes
  pub checkpoint : ℕ
  pub files : Files

abbrev pub write_code : Coded PageWrite
write_code =
    code_by (List ℕ × Bool) (coded× (coded_list coded_ℕ) coded_bool) (λ w. (w.image, w.halved))
    (λ p. record { image = p.0; halved = p.1 }) (λ _. refl)

abbrev pub flights_code : Coded Flights
flights_code =
    code_by (Writes × (ℕ × Files))
    (coded× (finite.code (coded× coded_ℕ coded_ℕ) write_code)
    (coded× coded_ℕ (finite.code coded_ℕ coded_ℕ)))
    (λ f. (f.writes, (f.checkpoint, f.files)))
    (λ p. record { writes = p.0; checkpoint = p.1.0; files = p.1.1 }) (λ _. refl)

-- the write of a page that is under way, if there is one
abbrev pub write_of : Flights → PageName → Option PageWrite
write_of f page = finite.get f.writes (page.space, page.number)

-- the write of a page of the space is under way
abbrev pub HasWriteOf : ℕ → Flights → Type 0
HasWriteOf space f =
    (number : ℕ) × IsSome (write_of f (record { space = space; number = number }))

-- what a buffer is kept with, where a clone has this of each page
abbrev pub beside_of : Flights → Copies → Beside
beside_of f copies = record {
  checkpoint = f.checkpoint;
  image = λ space number. option_map (λ w. w.image) (finite.get f.writes (space, number));
  copy = copies;
}

-- a file of so many pages, if it is known, ends before the page of this number
abbrev pub ends_before : Option ℕ → ℕ → Bool
ends_before None number = false
ends_before (Some pages) number = nat_le pages number

-- the page lies past the end of its file, which is known
abbrev pub is_short : Files → ℕ → ℕ → Bool
is_short files space number = ends_before (finite.get files space) number

-- what a clone will have of such a page: that it isn't there
abbrev pub beyond : Files → Copies
beyond files space number =
    if is_short files space number then Untracked (past_end ∷ []) else Idle

-- the disk has each file that is known, with at least so many pages
abbrev pub HasFiles : Files → DiskImage → Type 0
HasFiles files m =
    (space pages : ℕ) → finite.get files space ≡ Some pages
    → (count : ℕ) × (page_count m space ≡ Some count) × (pages ≤ count)

-- the page is there on the disk, with the image's first half where that was written
abbrev pub IsOnDisk : PageWrite → Option Held → Type 0
IsOnDisk w None = ⊥
IsOnDisk w (Some held) =
    w.halved ≡ true → take HALF_PAGE held.bytes ≡ take HALF_PAGE w.image

-- How the writes stand to a disk that tells what it holds, and to what a clone has of each page:
-- the buffer is kept, each page that is on its way is there, and so is the log from the checkpoint
-- on.
pub record IsFlown (b : Buffered) (f : Flights) (copies : Copies) (m : DiskImage) : Type 0 where
  pub kept : IsKept b (beside_of f copies) m
  pub there : (page : PageName) (w : PageWrite) → write_of f page ≡ Some w
      → IsOnDisk w (disk.page_of m page.space page.number)
  pub floor : b.ring.floor ≤ f.checkpoint

abbrev pub StandsFlown : Buffered → Flights → Copies → Option DiskImage → Type 0
StandsFlown b f copies told = ForTold told (IsFlown b f copies)
