-- Frames, and what becomes of one.
use Rattle.std.specs.Prelude.{◌≡◌, ℕ, ◌==◌, ◌&&◌, ◌+◌, ◌-◌, ◌^◌, Bool, true, false, IsSome, List, map, None, Some, is_some, not, min, get_or, if◌then◌else◌, option_map, unwrap_or}
use Rattle.std.specs.declared.option.Option.{Option}
use Rattle.clone_page.specs.Header.{zero_page}
use Rattle.clone_mtr.specs.Effects.{effect}
use Rattle.clone_mtr.specs.declared.record.Record.{Record}
use Rattle.clone_mtr.specs.declared.record.Record.TheVariants as record_is
use Rattle.clone_pool.specs.declared.frame.Frame.{Frame}
use Rattle.clone_pool.specs.declared.frame.Content.{Content}
use Rattle.clone_pool.specs.declared.frame.Content.TheVariants.{Unused, Fresh, Held, Loading}
use Rattle.clone_pool.specs.declared.frame.Flush.{Flush}
use Rattle.clone_pool.specs.declared.frame.Flush.TheVariants.{Idle, Begun, Failed}
use Rattle.clone_pool.specs.declared.frame.PageName.{PageName}
use Rattle.clone_pool.specs.Index.{frame_number_of}

-- a frame without a page
abbrev pub no_frame : Frame
no_frame = record {
  content = Unused;
  page = zero_page;
  oldest = None;
  flush = Idle;
  pins = 0;
  last_use = 0;
}

abbrev pub frame_at : List Frame → ℕ → Frame
frame_at frames at = get_or frames at no_frame

abbrev pub name_in : Content → Option PageName
name_in Unused = None
name_in (Fresh name) = Some name
name_in (Held name) = Some name
name_in (Loading name) = None

-- the page that a frame holds
abbrev pub name_of : Frame → Option PageName
name_of f = name_in f.content

abbrev pub loading_in : Content → Option PageName
loading_in Unused = None
loading_in (Fresh name) = None
loading_in (Held name) = None
loading_in (Loading name) = Some name

-- the page that a frame is set aside for, until it is loaded
abbrev pub loading_of : Frame → Option PageName
loading_of f = loading_in f.content

abbrev pub claim_in : Content → Option PageName
claim_in Unused = None
claim_in (Fresh name) = Some name
claim_in (Held name) = Some name
claim_in (Loading name) = Some name

-- a frame CLAIMS the page that it holds or is set aside for
abbrev pub claim_of : Frame → Option PageName
claim_of f = claim_in f.content

abbrev pub HoldsPage : Frame → Type 0
HoldsPage f = IsSome (name_of f)

abbrev pub ClaimsPage : Frame → Type 0
ClaimsPage f = IsSome (claim_of f)

-- the number of the frame that holds the page
abbrev pub holder : List Frame → PageName → Option ℕ
holder frames page = frame_number_of page (map name_of frames)

-- the number of the frame that is set aside for the page
abbrev pub loader : List Frame → PageName → Option ℕ
loader frames page = frame_number_of page (map loading_of frames)

-- the number of the frame that claims the page
abbrev pub claimant : List Frame → PageName → Option ℕ
claimant frames page = frame_number_of page (map claim_of frames)

abbrev pub is_dirty : Frame → Bool
is_dirty f = is_some f.oldest

abbrev pub is_loading : Content → Bool
is_loading Unused = false
is_loading (Fresh name) = false
is_loading (Held name) = false
is_loading (Loading name) = true

-- neither pinned nor dirty. A page that is on its way to the disk, or whose write failed, is dirty.
abbrev pub is_free : Frame → Bool
is_free f = (f.pins == 0) && not (is_dirty f)

-- nor set aside for a page
abbrev pub may_go : Frame → Bool
may_go f = is_free f && not (is_loading f.content)

abbrev pub is_begun : Flush → Bool
is_begun Idle = false
is_begun (Begun later) = true
is_begun Failed = false

-- dirty, and no flush of it is under way
abbrev pub is_waiting : Frame → Bool
is_waiting f = is_dirty f && not (is_begun f.flush)

abbrev pub IsInFlight : Frame → Type 0
IsInFlight f = is_begun f.flush ≡ true

-- the write of a page counts as open from the beginning of a flush until one lands
abbrev pub counts_as_open : Flush → Bool
counts_as_open Idle = false
counts_as_open (Begun later) = true
counts_as_open Failed = true

-- the page of a frame, by its space and its number there, if its write counts as open
abbrev pub open_page : Frame → Option (ℕ × ℕ)
open_page f =
    if counts_as_open f.flush
    then option_map (λ (name : PageName). (name.space, name.number)) (name_of f)
    else None

-- the number of the next use, which stays at the last number but one
abbrev pub next_use : ℕ → ℕ
next_use uses = min (uses + 1) (2 ^ 64 - 2)

-- the frame was used
abbrev pub touched : ℕ → Frame → Frame
touched number f = record f { last_use = number }

abbrev pub left_in : Content → Content
left_in Unused = Unused
left_in (Fresh name) = Unused
left_in (Held name) = Unused
left_in (Loading name) = Loading name

-- The frame has no page any more, and any bytes. One that is set aside stays so.
abbrev pub emptied : List ℕ → Frame → Frame
emptied bytes f = record f { content = left_in f.content; page = bytes; last_use = 0 }

-- the frame is set aside for a page
abbrev pub aside_for : PageName → Frame → Frame
aside_for name f = record f { content = Loading name; last_use = 0 }

-- the frame holds this page, which was used
abbrev pub filled : PageName → List ℕ → ℕ → Frame → Frame
filled name bytes number f = record f { content = Held name; page = bytes; last_use = number }

-- the frame is pinned for a new page of zero bytes, which was used
abbrev pub freshened : PageName → ℕ → Frame → Frame
freshened name number f = record f {
  content = Fresh name;
  page = zero_page;
  pins = 1;
  last_use = number;
}

abbrev pub pinned : Frame → Frame
pinned f = record f { pins = f.pins + 1 }

abbrev pub is_fresh : Content → Bool
is_fresh Unused = false
is_fresh (Fresh name) = true
is_fresh (Held name) = false
is_fresh (Loading name) = false

-- a pin less. A new page that no change made goes with its last pin.
abbrev pub unpinned : Frame → Frame
unpinned f =
    if is_fresh f.content && (f.pins == 1)
    then record f { content = Unused; pins = 0; last_use = 0 }
    else record f { pins = f.pins - 1 }

-- a change makes a new page
abbrev pub made : Content → Content
made Unused = Unused
made (Fresh name) = Held name
made (Held name) = Held name
made (Loading name) = Loading name

-- the first change after a flush began
abbrev pub noted : ℕ → Flush → Flush
noted start Idle = Idle
noted start (Begun later) = Begun (Some (unwrap_or later start))
noted start Failed = Failed

-- the page that a record changes
abbrev pub page_changed : Record → Option PageName
page_changed (record_is.Init space number kind) = Some (record { space = space; number = number })
page_changed (record_is.Write space number patch) = Some (record { space = space; number = number })
page_changed (record_is.Extend space pages) = None
page_changed (record_is.Create space pages) = None
page_changed (record_is.Drop space) = None

-- a record of the mini-transaction from start to end changed the page
abbrev pub changed : Record → ℕ → ℕ → Frame → Frame
changed entry start end f = record f {
  content = made f.content;
  page = effect end entry f.page;
  oldest = Some (unwrap_or f.oldest start);
  flush = noted start f.flush;
}

-- a flush begins, and no change has come after it
abbrev pub begun : Frame → Frame
begun f = record f { flush = Begun None }

-- the first change after the flush began
abbrev pub later_in : Flush → Option ℕ
later_in Idle = None
later_in (Begun later) = later
later_in Failed = None

-- the flush ends with the page on the disk as it was when it began
abbrev pub landed : Frame → Frame
landed f = record f { oldest = later_in f.flush; flush = Idle }

abbrev pub failed : Frame → Frame
failed f = record f { flush = Failed }

-- the frame claims its page no more, whatever was changed
abbrev pub discarded : Frame → Frame
discarded f = record f { content = Unused; oldest = None; flush = Idle; last_use = 0 }
