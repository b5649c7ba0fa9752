-- What a run is given, and what comes back of it.
use Rattle.std.specs.Prelude.{ℕ, ◌≡◌, ◌≤◌, ◌<◌, ◌&&◌, is_some, Bool, List, length}
use Rattle.std.specs.declared.option.Option.{Option}
use Rattle.clone_outside.specs.Bytes.{prepended, IsSpent}
use Rattle.clone_outside.specs.Disk.{ForTold, blank}
use Rattle.clone_outside.specs.DiskCalls.{DiskState}
use Rattle.clone_model.specs.History.{Drops}
use Rattle.clone_model.specs.declared.config.Config.{Config}
use Rattle.clone_script.specs.declared.lines.Line.{Line}
use Rattle.clone_script.specs.declared.terms.Terms.{Terms}
use Rattle.clone_script.specs.Script.{IsScript}
use Rattle.clone_script.specs.declared.read.TheConstants.{LONGEST_SCRIPT}
use Rattle.clone_events.specs.World.{Stop}

-- what is told of a source or a sink, and how often it has failed
pub record End : Type 0 where
  pub told : Option (List ℕ)
  pub faults : ℕ

abbrev pub end_of : Option (List ℕ) → ℕ → End
end_of told faults = record { told = told; faults = faults }

-- the source and the sinks, before a run or after it
pub record Streams : Type 0 where
  pub source : End
  pub out : End
  pub binlog : End

abbrev pub streams : End → End → End → Streams
streams source out binlog = record { source = source; out = out; binlog = binlog }

-- the disks of a donor and of a recipient
pub record Disks : Type 0 where
  pub donor : DiskState
  pub recipient : DiskState

abbrev pub disks : DiskState → DiskState → Disks
disks donor recipient = record { donor = donor; recipient = recipient }

-- both tell what they hold
abbrev pub tell : Disks → Bool
tell d = is_some d.donor.told && is_some d.recipient.told

-- as far as they tell what they hold, they hold no space and no mark
pub record AreEmpty (d : Disks) : Type 0 where
  pub donor : ForTold d.donor.told (λ m. m ≡ blank)
  pub recipient : ForTold d.recipient.told (λ m. m ≡ blank)

-- WHAT COMES BACK: the status, the disks, the drops of tables, and the stop of the clone
pub record Ends : Type 0 where
  pub status : ℕ
  pub disks : Disks
  pub drops : Drops
  pub stop : Option Stop

abbrev pub ends : ℕ → Disks → Drops → Option Stop → Ends
ends status back drops stop =
    record { status = status; disks = back; drops = drops; stop = stop }

-- the net that makes connections, and how often the crew could not start a thread
pub record Means (N : Type 0) : Type 0 where
  pub net : N
  pub crew : ℕ

abbrev pub means : {N : Type 0} → N → ℕ → Means N
means net crew = record { net = net; crew = crew }

-- the source was read to its end without a failure, and gave no more than a script may have
pub record GaveAll (before after : End) (script : List ℕ) : Type 0 where
  pub given : before.told ≡ prepended script after.told
  pub steady : after.faults ≡ before.faults
  pub spent : IsSpent after.told
  pub short : length script ≤ LONGEST_SCRIPT

-- the source gave more than a script may have, and didn't fail
pub record GaveTooMuch (before after : End) (script : List ℕ) : Type 0 where
  pub given : before.told ≡ prepended script after.told
  pub steady : after.faults ≡ before.faults
  pub long : LONGEST_SCRIPT < length script

-- the source gave a script
pub record IsRead (before after : End) (config : Config) (terms : Terms) (lines : List Line)
    : Type 0 where
  pub script : List ℕ
  pub gave : GaveAll before after script
  pub read : IsScript script config terms lines
