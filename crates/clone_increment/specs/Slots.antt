-- Slots, each of which may hold a page.
use Rattle.std.specs.Prelude.{ℕ, ◌≡◌, List, None, Some, IsSome}
use Rattle.std.specs.declared.option.Option.{Option}
use Rattle.std.specs.Borrow.{Bor}
use Rattle.std.specs.BTreeMap.{BTreeMap, get}
use Rattle.std.specs.FinMap as finite
use Rattle.clone_model.specs.Keys.{row_cmp}
use Rattle.clone_model.specs.Room.{kept}
use Rattle.clone_outside.specs.Disk.{DiskImage, ForTold, GivesQuiet}

-- a page that may be lent
abbrev pub page_in : Option (Bor (List ℕ)) → Option (List ℕ)
page_in None = None
page_in (Some page) = Some page.now

-- the slot holds what the disk has at this place, if that is told and not being written
abbrev pub IsRead : Option DiskImage → ℕ → ℕ → Option (List ℕ) → Type 0
IsRead told space number None = ⊥
IsRead told space number (Some bytes) = ForTold told (λ m. GivesQuiet m space number bytes)

-- slots by place
abbrev pub Slots : Type 0
Slots = BTreeMap (ℕ × ℕ) (Option (List ℕ))

-- there is a slot at each place where others have one
abbrev pub HasRoomFor : Slots → Slots → Type 0
HasRoomFor slots others =
    (place : ℕ × ℕ) → IsSome (get row_cmp others place) → IsSome (get row_cmp slots place)

-- there is a slot at each place where others have a page
abbrev pub HasRoomForPages : Slots → Slots → Type 0
HasRoomForPages slots others =
    (place : ℕ × ℕ) → IsSome (finite.get (kept others.entries) place)
    → IsSome (get row_cmp slots place)
