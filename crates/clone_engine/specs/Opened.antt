-- When a donor opens over a disk.
use Rattle.std.specs.Prelude.{◌≡◌, ◌≢◌, ◌⊎◌, [], ◌∷◌, length, None}
use Rattle.std.specs.FinMap as finite
use Rattle.clone_outside.specs.Disk.{DiskImage}
use Rattle.clone_model.specs.declared.config.Config.{Config}
use Rattle.clone_image.specs.Replay.{first_lsn}
use Rattle.clone_contents.specs.Records.{opening_records}
use Rattle.clone_plain.specs.Donor.{no_donor}
use Rattle.clone_engine.specs.Engine.{Engine}

-- the disk holds a space or a mark
abbrev pub IsNotEmpty : DiskImage → Type 0
IsNotEmpty m = (m.spaces ≢ finite.empty) ⊎ (m.mark ≢ None)

-- Nothing was asked of the donor, and its log has the one mini-transaction that makes the system
-- space. The pool and the ring have the sizes that were asked for, and the log is kept from its
-- first LSN on.
pub record IsOpened (config : Config) (e : Engine) : Type 0 where
  pub donor : e.donor ≡ no_donor
  pub log : e.buffer.log ≡ opening_records ∷ []
  pub frames : length e.buffer.pool.frames ≡ config.pool
  pub ring : e.buffer.ring.size ≡ config.ring
  pub floor : e.buffer.ring.floor ≡ first_lsn
  pub checkpoint : e.flights.checkpoint ≡ first_lsn
