-- What the drop of a space does to a buffer.
use Rattle.std.specs.Prelude.{ℕ, ◌≡◌, ◌==◌, ◌&&◌, nat_lt, Bool, false, List, ◌∷◌, map, None, Some, Result, Ok, Err, if◌then◌else◌}
use Rattle.std.specs.declared.option.Option.{Option}
use Rattle.std.specs.List.{AllByRecursion}
use Rattle.std.specs.FinMap as finite
use Rattle.clone_mtr.specs.declared.record.Record.{Record}
use Rattle.clone_mtr.specs.declared.record.Record.TheVariants.{Drop}
use Rattle.clone_image.specs.Image.{page_count, EditsPages}
use Rattle.clone_ring.specs.declared.log_full.LogFull.{LogFull}
use Rattle.clone_pool.specs.declared.frame.Frame.{Frame}
use Rattle.clone_pool.specs.declared.frame.PageName.{PageName}
use Rattle.clone_pool.specs.Frames.{frame_at, name_of, claim_of, discarded}
use Rattle.clone_pool.specs.Pool.{Frames}
use Rattle.clone_buffer.specs.Buffered.{Buffered, image_of}
use Rattle.clone_buffer.specs.Writing.{HasFrame, IsOnPage, Writes}

-- the page is one of the space, with a number below this one
abbrev pub is_page_below : ℕ → ℕ → Option PageName → Bool
is_page_below space pages None = false
is_page_below space pages (Some name) = (name.space == space) && nat_lt name.number pages

-- a frame that claims such a page does so no more
abbrev pub freed : ℕ → ℕ → Frame → Frame
freed space pages f = if is_page_below space pages (claim_of f) then discarded f else f

-- so it is with each frame
abbrev pub given_up : ℕ → ℕ → Frames → Frames
given_up space pages v = record v { frames = map (freed space pages) v.frames }

-- the buffer without these pages
abbrev pub without_pages : ℕ → ℕ → Buffered → Buffered
without_pages space pages v = record v { pool = given_up space pages v.pool }

-- no frame with a page of the space is pinned
abbrev pub AreUnpinned : ℕ → List Frame → Type 0
AreUnpinned space frames =
    (at : ℕ) (name : PageName) → name_of (frame_at frames at) ≡ Some name → name.space ≡ space
    → (frame_at frames at).pins ≡ 0

-- A space of so many pages is dropped. The other records change pages that are there then, each in
-- its frame.
pub record DropsSpace (v : Buffered) (space pages : ℕ) (records : List Record) : Type 0 where
  pub rest : List Record
  pub is : records ≡ Drop space ∷ rest
  pub edits : AllByRecursion EditsPages rest
  pub framed : AllByRecursion (HasFrame v.pool.frames) rest
  pub there : AllByRecursion (IsOnPage (finite.remove (image_of v) space)) rest
  pub size : page_count (image_of v) space ≡ Some pages

-- The space's pages below this number were given up, and a mini-transaction was written; or there
-- was no room in the ring, and nothing has changed.
abbrev pub WritesWithout : ℕ → ℕ → List Record → Buffered → Buffered → Result ℕ LogFull → Type 0
WritesWithout space pages records old new (Ok end) =
    Writes records (without_pages space pages old) new (Ok end)
WritesWithout space pages records old new (Err full) = Writes records old new (Err full)
