-- An overlay that shows a disk as it is.
use Rattle.std.specs.Prelude.{ℕ, List, [], ◌∷◌, nat_lt, if◌then◌else◌, None, Some}
use Rattle.std.specs.declared.option.Option.{Option}
use Rattle.std.specs.FinMap as finite
use Rattle.clone_outside.specs.Disk.{DiskImage, page_count}
use Rattle.clone_overlay.specs.Covers.{Cover, Overlay}
use Rattle.clone_overlay.specs.Images.{redo_space}

-- so many pages, all of them the disk's
abbrev pub whole : ℕ → Cover
whole count = record { kept = count; count = count; leaves = finite.empty }

-- a space of so many pages is added, if it is there
abbrev pub added : Overlay → ℕ → Option ℕ → Overlay
added overlay space None = overlay
added overlay space (Some count) = finite.insert overlay space (whole count)

-- a space of the disk, if it is no redo
abbrev pub with_space : DiskImage → Overlay → ℕ → Overlay
with_space m overlay space =
    if nat_lt space redo_space then added overlay space (page_count m space) else overlay

abbrev pub with_spaces : DiskImage → Overlay → List ℕ → Overlay
with_spaces m overlay [] = overlay
with_spaces m overlay (s ∷ ss) = with_spaces m (with_space m overlay s) ss
