use Rattle.std.proofs.Common.{◌≡◌, drop}
use Rattle.std.specs.Prelude.{fold}
use Rattle.clone_outside.specs.Disk.{blank}
use Rattle.clone_memdisk.specs.Recorded.{laid_all}
use Rattle.clone_memdisk.proofs.recording.ended_image.Given as goal

abbrev pub invariant-loop-stretch : goal.invariant-loop-stretch
invariant-loop-stretch l = fold laid_all l.image (drop l.stretch-index l.ended) ≡ fold laid_all blank l.ended
