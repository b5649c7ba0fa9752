-- The changes of a disk in memory, and what a stop keeps of them.
use Rattle.std.specs.Prelude.{ℕ, ◌==◌, Bool, true, false, List, ◌++◌, take, drop, replicate, None, Some, if◌then◌else◌}
use Rattle.std.specs.declared.option.Option.{Option}
use Rattle.clone_base.specs.declared.limits.TheConstants.{PAGE_SIZE}
use Rattle.clone_outside.specs.Disk.{DiskImage, with_page, rest_written, with_extended, with_created, with_removed, with_mark}
use Rattle.clone_outside.specs.Stops.{DiskChange, WriteHalf, WriteRest}
use Rattle.clone_outside.specs.Stops as change
use Rattle.clone_outside.specs.declared.disk.TheConstants.{HALF_PAGE}
use Rattle.clone_outside.specs.declared.disk.Held.{Held}
use Rattle.clone_memdisk.specs.declared.change.Change.{Change}
use Rattle.clone_memdisk.specs.declared.change.Change.TheVariants as lent
use Rattle.clone_memdisk.specs.declared.change.Entry.{Entry}
use Rattle.clone_memdisk.specs.declared.change.Entry.TheVariants.{Half, Rest, Extend, Create, Remove, Mark}

-- the change that is meant
abbrev pub entry_of : Change → Entry
entry_of (lent.Half space page from) = Half space page from.now
entry_of (lent.Rest space page from) = Rest space page from.now
entry_of (lent.Extend space pages) = Extend space pages
entry_of (lent.Create space pages) = Create space pages
entry_of (lent.Remove space) = Remove space
entry_of (lent.Mark bytes) = Mark bytes.now

-- what is told of it
abbrev pub change_of : Entry → DiskChange
change_of (Half space page from) = WriteHalf space page
change_of (Rest space page from) = WriteRest space page
change_of (Extend space pages) = change.Extend space pages
change_of (Create space pages) = change.Create space pages
change_of (Remove space) = change.Remove space
change_of (Mark bytes) = change.WriteMark bytes

-- the first half of a page is written, and its write is open or not
abbrev pub half_made : Bool → List ℕ → Held → Held
half_made opens from page =
    record { bytes = take HALF_PAGE from ++ drop HALF_PAGE page.bytes; writing = opens }

-- the disk after the change; after the first half of a page its write is open, or no write is
abbrev pub made : Bool → Entry → DiskImage → DiskImage
made opens (Half space page from) m = with_page m space page (half_made opens from)
made opens (Rest space page from) m = with_page m space page (rest_written from)
made opens (Extend space pages) m = with_extended m space pages
made opens (Create space pages) m = with_created m space pages
made opens (Remove space) m = with_removed m space
made opens (Mark bytes) m = with_mark m bytes

abbrev pub with_change : Entry → DiskImage → DiskImage
with_change x m = made true x m

-- with no write open after it
abbrev pub with_laid : Entry → DiskImage → DiskImage
with_laid x m = made false x m

-- all of a change, but nothing of one of the other half of a page
abbrev pub first_half : Entry → Option Entry
first_half (Half space page from) = Some (Half space page from)
first_half (Rest space page from) = None
first_half (Extend space pages) = Some (Extend space pages)
first_half (Create space pages) = Some (Create space pages)
first_half (Remove space) = Some (Remove space)
first_half (Mark bytes) = Some (Mark bytes)

-- a change with the byte 255 in place of those of half a page
abbrev pub filled : Entry → Entry
filled (Half space page from) = Half space page (replicate PAGE_SIZE 255)
filled (Rest space page from) = Rest space page (replicate PAGE_SIZE 255)
filled (Extend space pages) = Extend space pages
filled (Create space pages) = Create space pages
filled (Remove space) = Remove space
filled (Mark bytes) = Mark bytes

-- what a stop with this choice keeps of a change that no sync followed
abbrev pub kept : ℕ → Entry → Option Entry
kept choice x =
    if choice == 0 then None
    else if choice == 2 then first_half x
    else if choice == 3 then Some (filled x)
    else Some x
