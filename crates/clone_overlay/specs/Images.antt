-- The image that a disk holds: the pages of its tables and of the system space.
use Rattle.std.specs.Prelude.{ℕ, ◌≡◌, false, nat_lt, map, IfSome, unwrap_or, List, []}
use Rattle.std.specs.FinMap as finite
use Rattle.clone_outside.specs.Disk as disk
use Rattle.clone_outside.specs.Disk.{DiskImage}
use Rattle.clone_outside.specs.declared.disk.Held.{Held}
use Rattle.clone_image.specs.Image.{Image}
use Rattle.clone_base.specs.declared.limits.TheConstants.{REDO_SPACE}

-- spaces from this number on are no tables
abbrev pub redo_space : ℕ
redo_space = REDO_SPACE

-- the bytes of pages
abbrev pub bytes_of : List Held → List (List ℕ)
bytes_of pages = map (λ h. h.bytes) pages

-- the pages of each space below the redo's
abbrev pub image_of : DiskImage → Image
image_of m =
    finite.from_entries (map (λ e. (e.0, bytes_of e.1))
    (finite.entries (finite.retain_keys m.spaces (λ s. nat_lt s redo_space))))

-- no page of the disk is being written
abbrev pub IsQuiet : DiskImage → Type 0
IsQuiet m = (space number : ℕ) → IfSome (disk.page_of m space number) (λ held. held.writing ≡ false)

-- the pages of a space, or none where it isn't there
abbrev pub pages_in : Image → ℕ → List (List ℕ)
pages_in image space = unwrap_or (finite.get image space) []
