-- What contracts see of a disk in memory.
use Rattle.std.specs.Prelude.{◌≡◌, ℕ, true, List, [], ◌∷◌, ◌++◌, drop, None, Some, Result, replicate, is_some, if◌then◌else◌}
use Rattle.std.specs.declared.option.Option.{Option}
use Rattle.std.specs.Option.{option_map_or}
use Rattle.clone_base.specs.declared.limits.TheConstants.{PAGE_SIZE}
use Rattle.clone_outside.specs.Calls.{Calls, no_calls, with_failing, nth_from_now}
use Rattle.clone_outside.specs.Disk.{blank}
use Rattle.clone_outside.specs.DiskCalls.{DiskState}
use Rattle.clone_outside.specs.declared.Refusal.{Refusal}
use Rattle.clone_outside.specs.declared.disk.Held.{Held}
use Rattle.clone_outside.specs.declared.disk.DiskOrder.{DiskOrder}
use Rattle.clone_outside.specs.declared.disk.DiskOrder.TheVariants.{FailAt, Tear, Stop, Again}
use Rattle.clone_memdisk.specs.Contained.{Contained, moments_of, stopped}
use Rattle.clone_memdisk.specs.Halts.{IsCall, halting}
use Rattle.clone_memdisk.specs.Recorded.{unchanged}
use Rattle.clone_memdisk.specs.declared.halts.Halt.{Halt}

-- What it holds, and its changes where it keeps a list of them; what reads of open pages give, if
-- that was ordered; the calls, the orders, and the stops that are still to end.
pub record Stored : Type 0 where
  pub contents : Contained
  pub tear : Option ℕ
  pub calls : Calls
  pub orders : List DiskOrder
  pub halts : List Halt

-- what it tells; what a stop leaves it tells where it keeps a list of its changes
abbrev pub state_of : Stored → DiskState
state_of d = record {
  told = Some d.contents.image;
  stops = moments_of d.contents.list;
  failures = d.calls.faults;
  orders = d.orders;
}

-- nothing is held, and no call was made
abbrev pub fresh : Stored
fresh = record {
  contents = record { image = blank; list = None };
  tear = None;
  calls = no_calls;
  orders = [];
  halts = [];
}

-- the same, and the changes are kept
abbrev pub fresh_recording : Stored
fresh_recording = record fresh { contents = record { image = blank; list = Some unchanged } }

-- the write of the page is open, and its bytes stay
abbrev pub interrupted : Held → Held
interrupted page = record page { writing = true }

-- one more call, which fails exactly where an order named it or the disk has stopped
pub record IsCounted {T : Type 0} (old new : Stored) (result : Result T Refusal) : Type 0 where
  pub call : IsCall result old.calls new.calls old.halts new.halts
  pub tear : new.tear ≡ old.tear

-- the disk goes on after the first of its stops, if there is one
abbrev pub resumed : List Halt → Contained → Contained
resumed [] contents = contents
resumed (h ∷ hs) contents = stopped h.choice contents

-- what an order makes of it
abbrev pub carried : DiskOrder → Stored → Stored
carried (FailAt call) disk =
    record disk { calls = with_failing disk.calls (nth_from_now disk.calls call) }
carried (Tear byte) disk = record disk { tear = Some byte }
carried (Stop calls choice) disk =
    record disk {
      halts = halting (is_some disk.contents.list) (record { calls = calls; choice = choice })
          disk.halts;
    }
carried Again disk =
    record disk { contents = resumed disk.halts disk.contents; halts = drop 1 disk.halts }

-- an order was given
abbrev pub ordered : DiskOrder → Stored → Stored
ordered order disk = record (carried order disk) { orders = disk.orders ++ order ∷ [] }

-- what a page gives: its bytes, or where its write is open and a byte was ordered, that byte alone
abbrev pub given : Option ℕ → Held → List ℕ
given None page = page.bytes
given (Some byte) page = if page.writing then replicate PAGE_SIZE byte else page.bytes

-- a read of a page, which leaves the bytes before where the page isn't there
abbrev pub IsRead : Option ℕ → Option Held → List ℕ → List ℕ → Type 0
IsRead tear page before bytes = bytes ≡ option_map_or (given tear) page before
