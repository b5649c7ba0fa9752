-- A copy that is under way, and how it is completed.
use Rattle.std.specs.Prelude.{◌≡◌, ◌⊎◌, [], Some, get_or, unwrap_or}
use Rattle.std.specs.declared.option.Option.{Option}
use Rattle.clone_outside.specs.Disk.{DiskImage, Steps}
use Rattle.clone_outside.specs.Mark.{mark_bytes}
use Rattle.clone_outside.specs.declared.mark.CloneEnd.{CloneEnd}
use Rattle.clone_outside.specs.declared.mark.Mark.TheVariants.{Ending, Complete}
use Rattle.clone_lay.specs.Marked.{marked}

-- the mark has the kind of a copy under way
abbrev pub IsUnderWay : DiskImage → Type 0
IsUnderWay m = get_or (unwrap_or m.mark []) 8 0 ≡ 1

-- a copy that is under way, or that was completed with this end
abbrev pub IsInCopy : CloneEnd → DiskImage → Type 0
IsInCopy end m = IsUnderWay m ⊎ (m.mark ≡ Some (mark_bytes (Complete end)))

-- the spaces are the same, and where the copy was under way or completed, it is
pub record StaysInCopy (end : CloneEnd) (old new : DiskImage) : Type 0 where
  pub spaces : new.spaces ≡ old.spaces
  pub mark : IsInCopy end old → IsInCopy end new

-- the mark is as it was, or has the numbers of the end, or is the complete one
pub data IsCompleting (end : CloneEnd) (old new : Option DiskImage) : Type 0 where
  before : new ≡ old → IsCompleting end old new
  numbered : Steps old new (marked (Ending end)) → IsCompleting end old new
  done : Steps old new (marked (Complete end)) → IsCompleting end old new
