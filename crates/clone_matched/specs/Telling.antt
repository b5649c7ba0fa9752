-- The bytes of the ends that are at the desk.
use Rattle.std.specs.Prelude.{IfSome}
use Rattle.clone_outside.specs.declared.link.Link.{Ghosts as Link}
use Rattle.clone_runs.specs.Ends.{EndBytes, TellsBytes}
use Rattle.clone_desk.specs.Settling.{donor_end}
use Rattle.clone_desk.specs.declared.record.Record.{Record}

module _ {L X : Type 0} (link : Link L X) where
  -- what an end sent and received
  abbrev pub bytes_at : L → EndBytes
  bytes_at end = record { sent = link.sent end; received = link.received end }

  -- an end tells what it sent and received
  abbrev pub Tells : L → Type 0
  Tells end = TellsBytes (bytes_at end)

  -- EACH END of the connection that is at the desk tells its bytes
  abbrev pub TellsEnds : Record L → Type 0
  TellsEnds r = IfSome (donor_end r.donor) Tells × IfSome r.requester Tells
