-- A disk that has a mark.
use Rattle.clone_outside.specs.Disk.{DiskImage, with_mark}
use Rattle.clone_outside.specs.Mark.{mark_bytes}
use Rattle.clone_outside.specs.declared.mark.Mark.{Mark}

-- the mark of the disk is this one
abbrev pub marked : Mark → DiskImage → DiskImage
marked mark m = with_mark m (mark_bytes mark)
