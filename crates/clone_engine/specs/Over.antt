-- An engine over a disk that something else holds, as a donor.
use Rattle.clone_outside.specs.DiskCalls.{DiskState}
use Rattle.clone_engine.specs.Donor.{Donor}
use Rattle.clone_engine.specs.declared.engine.Engine.{Engine}

abbrev pub over : Engine → DiskState → Donor
over e disk = record {
  engine = record {
    donor = e.transactions;
    buffer = e.buffer;
    flights = e.flusher;
    disk = disk;
  };
  cloning = e.cloning;
}
