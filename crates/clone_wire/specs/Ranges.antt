-- The frames that there are: what the types of a frame's fields keep.
use Rattle.std.specs.Prelude.{ℕ, ◌≡◌, ◌+◌, ◌<◌, ◌≤◌, ◌^◌, false, List, [], ◌∷◌, length, ⊤}
use Rattle.std.specs.List.{AllByRecursion}
use Rattle.clone_bytes.specs.Fields.{IsBytes}
use Rattle.clone_wire.specs.declared.frame.Attempt.{Attempt}
use Rattle.clone_wire.specs.declared.frame.Frame.{Frame}
use Rattle.clone_wire.specs.declared.frame.Frame.TheVariants.{Init, Attach, Reinit, Reinit2}
use Rattle.clone_wire.specs.declared.frame.Frame.TheVariants.{Execute, Ack, Exit, Stage, Pages}
use Rattle.clone_wire.specs.declared.frame.Frame.TheVariants.{Redo, End, Refused}
use Rattle.clone_chunk.specs.declared.plan.StagePlan.{StagePlan}
use Rattle.clone_chunk.specs.declared.plan.StagePlan.TheVariants as plan
use Rattle.clone_chunk.specs.declared.spaces.SpaceSize.{SpaceSize}
use Rattle.clone_page.specs.declared.pages.PageAt.{PageAt}
use Rattle.clone_base.specs.declared.limits.TheConstants.{PAGE_SIZE, SPACE_LIMIT, BLOCK_PAGES}
use Rattle.clone_base.specs.declared.limits.TheConstants.{BLOCK_BYTES}
use Rattle.clone_chunk.specs.Bitmaps.{IsBitmap}
use Rattle.clone_chunk.specs.Chunks.{has_bit}
use Rattle.clone_chunk.specs.Partials.{IsMask, ArePartials, AreUnset, Taken}
use Rattle.clone_chunk.specs.declared.partials.PartialChunk.{PartialChunk}
use Rattle.clone_chunk.specs.Causes.{cause_first, cause_second}

-- a number of so many bytes
abbrev pub HasWidth : ℕ → ℕ → Type 0
HasWidth width n = n < 256 ^ width

abbrev pub AllAre : {X : Type 0} → (X → Type 0) → List X → Type 0
AllAre Is xs = AllByRecursion Is xs

abbrev pub IsAttempt : Attempt → Type 0
IsAttempt attempt = HasWidth 8 attempt.session × HasWidth 4 attempt.incarnation

abbrev pub IsSpace : SpaceSize → Type 0
IsSpace space = HasWidth 4 space.space × HasWidth 4 space.pages

pub record IsPageAt (page : PageAt) : Type 0 where
  pub space : HasWidth 4 page.space
  pub number : HasWidth 4 page.number
  pub long : length page.page ≡ PAGE_SIZE
  pub bytes : IsBytes page.page

abbrev pub IsChunkNumber : PartialChunk → Type 0
IsChunkNumber partial = HasWidth 4 partial.chunk

-- a bitmap, and partial chunks without a bit in it
pub record IsTakenBlocks (taken : Taken) : Type 0 where
  pub bitmap : IsBitmap taken.finished.count taken.finished.bytes
  pub bytes : IsBytes taken.finished.bytes
  pub partials : ArePartials taken.partials
  pub chunks : AllAre IsChunkNumber taken.partials
  pub unset : AreUnset taken.finished.bytes taken.partials

-- a chunk that may be listed next where more follow: from this one on, without a bit set
pub record IsNext (bitmap : List ℕ) (from more chunk : ℕ) : Type 0 where
  pub low : from ≤ chunk
  pub high : chunk + more ≤ 0xFFFFFFFF
  pub unset : has_bit bitmap chunk ≡ false

pub record IsNextPartial (bitmap : List ℕ) (from more : ℕ) (partial : PartialChunk) : Type 0 where
  pub next : IsNext bitmap from more partial.chunk
  pub mask : IsMask partial.mask

-- partial chunks as they may be listed one after the other, from this one on
abbrev pub AreListed : List ℕ → ℕ → List PartialChunk → Type 0
AreListed bitmap from [] = ⊤
AreListed bitmap from (partial ∷ partials) =
    IsNextPartial bitmap from (length partials) partial
    × AreListed bitmap (partial.chunk + 1) partials

abbrev pub IsPlan : StagePlan → Type 0
IsPlan (plan.FileCopy chunks spaces) = HasWidth 4 chunks × AllAre IsSpace spaces
    × (length spaces ≤ SPACE_LIMIT)
IsPlan (plan.PageCopy chunks position spaces) = HasWidth 4 chunks × HasWidth 8 position
    × AllAre IsSpace spaces × (length spaces ≤ SPACE_LIMIT)
IsPlan (plan.RedoCopy chunks checkpoint lsn position) = HasWidth 4 chunks × HasWidth 8 checkpoint
    × HasWidth 8 lsn × HasWidth 8 position
IsPlan (plan.Done checkpoint lsn position) = HasWidth 8 checkpoint × HasWidth 8 lsn
    × HasWidth 8 position

abbrev pub IsFrame : Frame → Type 0
IsFrame (Init attempt version size compressed tasks) = IsAttempt attempt × HasWidth 2 version
    × HasWidth 4 size × HasWidth 1 tasks
IsFrame (Attach attempt task) = IsAttempt attempt × HasWidth 1 task
IsFrame (Reinit attempt stage finished) = IsAttempt attempt × IsBitmap finished.count finished.bytes
    × IsBytes finished.bytes
IsFrame (Reinit2 attempt stage taken) = IsAttempt attempt × IsTakenBlocks taken
IsFrame (Execute stage) = ⊤
IsFrame (Ack stage floor) = HasWidth 8 floor
IsFrame Exit = ⊤
IsFrame (Stage attempt plan) = IsAttempt attempt × IsPlan plan
IsFrame (Pages attempt stage chunk block pages) = IsAttempt attempt × HasWidth 4 chunk
    × HasWidth 1 block × AllAre IsPageAt pages × (1 ≤ length pages) × (length pages ≤ BLOCK_PAGES)
IsFrame (Redo attempt chunk block from bytes) = IsAttempt attempt × HasWidth 4 chunk
    × HasWidth 1 block × HasWidth 8 from × IsBytes bytes × (1 ≤ length bytes)
    × (length bytes ≤ BLOCK_BYTES)
IsFrame (End attempt stage) = IsAttempt attempt
IsFrame (Refused cause) = HasWidth 8 (cause_first cause) × HasWidth 8 (cause_second cause)
