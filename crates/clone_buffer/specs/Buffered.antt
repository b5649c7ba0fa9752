-- What contracts see of a buffer: the redo log, and the frames that show what it makes.
use Rattle.std.specs.Prelude.{ℕ, ◌≡◌, ◌<◌, ◌-◌, Bool, List, None, Some, drop, IsTrue, IsSome}
use Rattle.std.specs.List.{AllByRecursion}
use Rattle.clone_base.specs.declared.limits.TheConstants.{LSN_LIMIT}
use Rattle.clone_page.specs.Header.{zero_page}
use Rattle.clone_mtr.specs.declared.record.Record.{Record}
use Rattle.clone_mtr.specs.Spelling.{log_of}
use Rattle.clone_image.specs.Image.{Image, page_of}
use Rattle.clone_image.specs.Replay.{first_lsn, replayed, IsSpelled}
use Rattle.clone_law.specs.Since.{ends}
use Rattle.clone_ring.specs.Window.{Window, end_of}
use Rattle.clone_pool.specs.declared.frame.Frame.{Frame}
use Rattle.clone_pool.specs.declared.frame.Content.{Content}
use Rattle.clone_pool.specs.declared.frame.Content.TheVariants.{Unused, Fresh, Held, Loading}
use Rattle.clone_pool.specs.Frames.{frame_at}
use Rattle.clone_pool.specs.Pool.{Frames}

-- The mini-transactions written so far, and whether each page that was read so far was the one that
-- the log made; the bytes of the log from the floor on; and the pages in frames.
pub record Buffered : Type 0 where
  pub log : List (List Record)
  pub right : Bool
  pub ring : Window
  pub pool : Frames

-- the pages as the log makes them
abbrev pub image_of : Buffered → Image
image_of v = replayed v.log

-- A page that is held is the one of the image. A new one isn't there yet, and has zero bytes. One
-- that is to be loaded is there.
abbrev pub Shown : Image → Content → List ℕ → Type 0
Shown image Unused bytes = Unit {0}
Shown image (Fresh name) bytes = (page_of image name.space name.number ≡ None) × (bytes ≡ zero_page)
Shown image (Held name) bytes = page_of image name.space name.number ≡ Some bytes
Shown image (Loading name) bytes = IsSome (page_of image name.space name.number)

-- each frame shows its page
abbrev pub Shows : Image → List Frame → Type 0
Shows image frames = (at : ℕ) → Shown image (frame_at frames at).content (frame_at frames at).page

-- what holds of every buffer
pub record IsBuffer (v : Buffered) : Type 0 where
  -- the ring has the bytes of the log from its floor on
  pub bytes : v.ring.bytes ≡ drop (v.ring.floor - first_lsn) (log_of v.log)
  pub end : end_of v.ring ≡ ends v.log
  pub below : ends v.log < LSN_LIMIT
  pub spelled : AllByRecursion IsSpelled v.log
  pub shows : IsTrue v.right → Shows (replayed v.log) v.pool.frames
