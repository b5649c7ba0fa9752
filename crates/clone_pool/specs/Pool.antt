-- What contracts see of a pool, and what its calls do to it.
use Rattle.std.specs.Prelude.{ℕ, ◌≡◌, ◌↔◌, ◌<◌, ◌≤◌, ◌^◌, ◌-◌, true, false, List, length, Some, None, Result, Ok, Err, MatchOption, slice_set, unwrap_or}
use Rattle.std.specs.declared.cmp.Ordering.{Ordering}
use Rattle.std.specs.declared.option.Option.{Option}
use Rattle.std.specs.Ordering.{nat_cmp, ordering_then}
use Rattle.std.specs.List.{Contains}
use Rattle.std.specs.List.Sorted.{IsStrictlySortedBy}
use Rattle.clone_pool.specs.declared.frame.Frame.{Frame}
use Rattle.clone_pool.specs.declared.frame.Flush.TheVariants.{Idle}
use Rattle.clone_pool.specs.declared.frame.PageName.{PageName}
use Rattle.clone_pool.specs.declared.orders.Orders.{Orders}
use Rattle.clone_pool.specs.declared.pool.FetchRefusal.{FetchRefusal}
use Rattle.clone_pool.specs.declared.pool.FetchRefusal.TheVariants.{PoolFull, DiskFault}
use Rattle.clone_pool.specs.declared.tournament.TheConstants.{NO_NUMBER}
use Rattle.clone_pool.specs.Frames.{frame_at, name_of, loading_of, claim_of, is_fresh, holder, loader, claimant, is_free, may_go, is_dirty, is_waiting, open_page, later_in, next_use, touched, filled, emptied, freshened, pinned, discarded}
use Rattle.clone_pool.specs.Orders.{orders_of, age_rank}
use Rattle.clone_pool.specs.Tournament.{is_before}

-- the frames by their numbers, how many uses there were, and the page that was asked of the disk
-- when a fetch last ended with a fault
pub record Frames : Type 0 where
  pub frames : List Frame
  pub uses : ℕ
  pub missed : Option PageName

-- what holds of each frame, after so many uses
pub record IsFrame (uses : ℕ) (f : Frame) : Type 0 where
  -- a frame without a page is neither pinned nor dirty, and was never used
  pub unused : name_of f ≡ None → (is_free f ≡ true) × (f.last_use ≡ 0)
  -- a frame with one was
  pub used : (name : PageName) → name_of f ≡ Some name → 0 < f.last_use
  -- a new page is pinned, and no change has made it
  pub fresh : is_fresh f.content ≡ true → (0 < f.pins) × (is_dirty f ≡ false)
  -- only a dirty page has a flush
  pub clean : is_dirty f ≡ false → f.flush ≡ Idle
  pub use_is : f.last_use ≤ uses
  pub oldest_is : unwrap_or f.oldest 0 < NO_NUMBER
  pub later_is : unwrap_or (later_in f.flush) 0 < NO_NUMBER

-- what holds of every pool
pub record IsPool (v : Frames) : Type 0 where
  pub count : length v.frames < 2 ^ 32
  pub uses : v.uses < NO_NUMBER
  pub frame : (at : ℕ) → IsFrame v.uses (frame_at v.frames at)
  -- no page has two frames
  pub once : (page : PageName) (at : ℕ) → name_of (frame_at v.frames at) ≡ Some page
      → holder v.frames page ≡ Some at
  -- a page that is loaded has one frame for that, and no frame holds it
  pub loads : (page : PageName) (at : ℕ) → loading_of (frame_at v.frames at) ≡ Some page
      → (holder v.frames page ≡ None) × (loader v.frames page ≡ Some at)

-- a pool, and what it keeps beside its frames
pub record IsKept (v : Frames) (orders : Orders) : Type 0 where
  pub pool : IsPool v
  pub orders_is : orders ≡ orders_of v.frames

-- the frame with this number has become another one
abbrev pub with_frame : ℕ → (Frame → Frame) → Frames → Frames
with_frame at change v = record v { frames = slice_set v.frames at (change (frame_at v.frames at)) }

-- a frame was used
abbrev pub used : ℕ → Frames → Frames
used at v = record (with_frame at (touched (next_use v.uses)) v) { uses = next_use v.uses }

-- each frame is pinned, dirty or set aside
abbrev pub AreKept : List Frame → Type 0
AreKept frames = (at : ℕ) → at < length frames → may_go (frame_at frames at) ≡ false

-- the frame may go, and no other that may go was used before it
pub record IsVictim (frames : List Frame) (at : ℕ) : Type 0 where
  pub within : at < length frames
  pub free : may_go (frame_at frames at) ≡ true
  pub least : (other : ℕ) → other < length frames → may_go (frame_at frames other) ≡ true
      → (frame_at frames at).last_use ≤ (frame_at frames other).last_use

-- The frame for a page that has none: its own loader, or else the one that makes way. It is neither
-- pinned nor dirty.
pub record IsFrameFor (page : PageName) (frames : List Frame) (at : ℕ) : Type 0 where
  pub within : at < length frames
  pub free : is_free (frame_at frames at) ≡ true
  pub which : MatchOption (loader frames page) (IsVictim frames at) (λ own. at ≡ own)

-- there is neither a loader of it nor a frame that may go
abbrev pub HasNoFrameFor : PageName → List Frame → Type 0
HasNoFrameFor page frames = (loader frames page ≡ None) × AreKept frames

-- a frame may go
abbrev pub HasVictim : List Frame → Type 0
HasVictim frames = (at : ℕ) × (at < length frames) × (may_go (frame_at frames at) ≡ true)

-- no page is dirty
abbrev pub AreClean : List Frame → Type 0
AreClean frames = (at : ℕ) → at < length frames → is_dirty (frame_at frames at) ≡ false

-- a page is dirty since this LSN, and none since an earlier one
pub record IsOldest (frames : List Frame) (lsn : ℕ) : Type 0 where
  pub at : ℕ
  pub within : at < length frames
  pub dirty : (frame_at frames at).oldest ≡ Some lsn
  pub least : (other : ℕ) → other < length frames
      → lsn ≤ unwrap_or (frame_at frames other).oldest lsn

-- no dirty page waits for a flush
abbrev pub AreNotWaiting : List Frame → Type 0
AreNotWaiting frames = (at : ℕ) → at < length frames → is_waiting (frame_at frames at) ≡ false

-- the frame's page waits for a flush, and no other that does is dirty for longer, or as long with a
-- name before its own
pub record IsNextToFlush (frames : List Frame) (at : ℕ) : Type 0 where
  pub within : at < length frames
  pub waits : is_waiting (frame_at frames at) ≡ true
  pub first : (other : ℕ) → other < length frames → is_waiting (frame_at frames other) ≡ true
      → is_before (age_rank (frame_at frames other)) (age_rank (frame_at frames at)) ≡ false

-- pages in the order of their spaces, and then of their numbers there
abbrev pub page_cmp : ℕ × ℕ → ℕ × ℕ → Ordering
page_cmp a b = ordering_then (nat_cmp a.0 b.0) (nat_cmp a.1 b.1)

-- the pages whose write counts as open, each once, in ascending order
pub record AreOpenPages (frames : List Frame) (pages : List (ℕ × ℕ)) : Type 0 where
  pub ascending : IsStrictlySortedBy page_cmp pages
  pub exact : (page : ℕ × ℕ)
      → Contains pages page ↔ ((at : ℕ) × (open_page (frame_at frames at) ≡ Some page))

-- the frame has the page, whatever its bytes are, and that was a use
pub record Fills (page : PageName) (at : ℕ) (old new : Frames) : Type 0 where
  pub bytes : List ℕ
  pub frames : new.frames
      ≡ slice_set old.frames at (filled page bytes (next_use old.uses) (frame_at old.frames at))
  pub uses : new.uses ≡ next_use old.uses
  pub missed : new.missed ≡ old.missed

-- the page was missed, and the frame has no page
pub record Empties (page : PageName) (at : ℕ) (old new : Frames) : Type 0 where
  pub bytes : List ℕ
  pub frames : new.frames ≡ slice_set old.frames at (emptied bytes (frame_at old.frames at))
  pub uses : new.uses ≡ old.uses
  pub missed : new.missed ≡ Some page

-- a page that has no frame gets its loader or the one that makes way, if there is one; after a
-- fault that has no page
abbrev pub Misses : PageName → Frames → Frames → Result ℕ FetchRefusal → Type 0
Misses page old new (Ok at) = IsFrameFor page old.frames at × Fills page at old new
Misses page old new (Err (PoolFull frames)) =
    (frames ≡ length old.frames) × HasNoFrameFor page old.frames × (new ≡ old)
Misses page old new (Err DiskFault) =
    (at : ℕ) × (IsFrameFor page old.frames at × Empties page at old new)

-- a page that has a frame is used there
abbrev pub Fetches : PageName → Frames → Frames → Result ℕ FetchRefusal → Type 0
Fetches page old new result =
    MatchOption (holder old.frames page) (Misses page old new result)
    (λ at. (result ≡ Ok at) × (new ≡ used at old))

-- a frame was taken for a new page
abbrev pub with_fresh : PageName → ℕ → Frames → Frames
with_fresh page at v = record (with_frame at (freshened page (next_use v.uses)) v) {
  uses = next_use v.uses;
}

-- a new page that has no frame gets its loader or the one that makes way, if there is one
abbrev pub TakesFrame : PageName → Frames → Frames → Result ℕ FetchRefusal → Type 0
TakesFrame page old new (Ok at) = IsFrameFor page old.frames at × (new ≡ with_fresh page at old)
TakesFrame page old new (Err refusal) =
    (refusal ≡ PoolFull (length old.frames)) × HasNoFrameFor page old.frames × (new ≡ old)

-- a page that has a frame is used and pinned there
abbrev pub Freshens : PageName → Frames → Frames → Result ℕ FetchRefusal → Type 0
Freshens page old new result =
    MatchOption (holder old.frames page) (TakesFrame page old new result)
    (λ at. (result ≡ Ok at) × (new ≡ used at (with_frame at pinned old)))

-- the frame with this number holds the page, and no other does
pub record IsHolder (page : PageName) (frames : List Frame) (at : ℕ) : Type 0 where
  pub within : at < length frames
  pub name : name_of (frame_at frames at) ≡ Some page
  pub holder : holder frames page ≡ Some at

-- the frame with this number claims the page, and no other does
pub record IsClaimant (page : PageName) (frames : List Frame) (at : ℕ) : Type 0 where
  pub within : at < length frames
  pub claim : claim_of (frame_at frames at) ≡ Some page
  pub claimant : claimant frames page ≡ Some at

-- the frame, if there is one, claims no page any more
abbrev pub discarded_at : Option ℕ → Frames → Frames
discarded_at None v = v
discarded_at (Some at) v = with_frame at discarded v

-- the frame is as before but for the number of its last use
abbrev pub IsSamePage : Frame → Frame → Type 0
IsSamePage old new = new ≡ touched new.last_use old

-- each pinned or dirty frame is as before but for the number of its last use
abbrev pub KeepsInUse : List Frame → List Frame → Type 0
KeepsInUse old new =
    (at : ℕ) → is_free (frame_at old at) ≡ false → IsSamePage (frame_at old at) (frame_at new at)

-- each frame but this one is as before
abbrev pub KeepsOthers : ℕ → List Frame → List Frame → Type 0
KeepsOthers at old new = (other : ℕ) → (other ≡ at → ⊥) → frame_at new other ≡ frame_at old other

-- a pin more has room
abbrev pub HasPinRoom : Frame → Type 0
HasPinRoom f = f.pins < 2 ^ 32 - 1
