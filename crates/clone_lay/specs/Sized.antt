-- The sizes that are kept of a disk's spaces.
use Rattle.std.specs.Prelude.{◌≡◌, ℕ}
use Rattle.std.specs.FinMap as finite
use Rattle.std.specs.Ordering.{nat_cmp}
use Rattle.clone_outside.specs.Disk.{DiskImage, page_count}

-- from the number of a space to how many pages it has
abbrev pub PageCounts : Type 0
PageCounts = finite.FinMap nat_cmp ℕ

-- these are the spaces of the disk, and each has so many pages
abbrev pub AreSizes : PageCounts → DiskImage → Type 0
AreSizes sizes m = (space : ℕ) → page_count m space ≡ finite.get sizes space
