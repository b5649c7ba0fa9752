-- What a write does to the slots of its page, and what it leaves.
use Rattle.std.specs.Prelude.{ℕ, ◌≡◌, ◌<◌, ◌≤◌, ◌+◌, ◌^◌, List, length, IfSome}
use Rattle.std.specs.declared.option.Option.{Option}
use Rattle.clone_base.specs.declared.limits.TheConstants.{VALUE_LIMIT}
use Rattle.clone_page.specs.Header.{kind_of, space_of, number_of, next_of, IsAllowed}
use Rattle.clone_page.specs.Slots.{row_slot_count, slot_at}
use Rattle.clone_mtr.specs.Patches.{Patched}
use Rattle.clone_row.specs.Slots.{image}

-- the slot of a key is written where it stands: with the value, or as absent where there is none
pub record WritesSlot (j key : ℕ) (value : Option (List ℕ)) (patch : Patched) : Type 0 where
  pub within : j < row_slot_count
  pub offset : patch.offset ≡ slot_at j
  pub bytes : patch.bytes ≡ image key value
  pub key_fits : key < 2 ^ 64
  pub short : IfSome value (λ v. length v ≤ VALUE_LIMIT)

-- bytes before the first slot are written, as those of the neighbours are
pub record WritesHeader (patch : Patched) : Type 0 where
  pub allowed : IsAllowed patch.offset (length patch.bytes)
  pub before : patch.offset + length patch.bytes ≤ slot_at 0

-- a page that is still of its kind, in its place and with its next page
pub record SameHeader (before after : List ℕ) : Type 0 where
  pub kind : kind_of after ≡ kind_of before
  pub space : space_of after ≡ space_of before
  pub number : number_of after ≡ number_of before
  pub next : next_of after ≡ next_of before
