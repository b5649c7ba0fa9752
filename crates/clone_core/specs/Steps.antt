-- AN EVENT, in a donor, the disk of a recipient and the clone between them.
use Rattle.std.specs.Prelude.{◌≡◌}
use Rattle.clone_outside.specs.Disk.{ForTold}
use Rattle.clone_recover.specs.Restores.{IsIncomplete}
use Rattle.clone_engine.specs.Disks.{with_order}
use Rattle.clone_events.specs.Events.{to_donor, to_recipient, Event, made, cleaned, looked, archived, started, unbegun, occupied, acts, readied, sticks, again, showed, incomplete, hidden, damaged, ordered, opened_follower, sent, taken, lost, set_to_lose, repeated, replicated, unasked, replica_after}
use Rattle.clone_core.specs.Acting.{ActsStep}
use Rattle.clone_core.specs.Quiet.{NobodyMoves}
use Rattle.clone_core.specs.System.{System, ArchivesTo, CallStep, FailsRecipient, FailsToStart, FindsDamage, IsReady, OnDonor, ShowsRows, Starts, VisitsRecipient}

-- what follows the clone becomes another by the event, and all else stays
abbrev pub StepsReplica : System → Event → System → Type 0
StepsReplica s e t = t ≡ record s { replica = replica_after e s.replica }

-- What is told of a clone again asks nothing; where nothing can be done for it, nobody has anything
-- to do; rows recover the recipient's disk.
abbrev pub SystemStep : System → Event → System → Type 0
SystemStep s (made asked given) t = OnDonor (λ d e. CallStep d asked given e) s t
SystemStep s (cleaned landed) t = t ≡ s
SystemStep s (looked position) t = t ≡ record s { looked = position }
SystemStep s (archived limit reached) t = OnDonor (ArchivesTo limit reached) s t
SystemStep s (started alone) t = Starts alone s t
SystemStep s unbegun t = FailsToStart s t
SystemStep s occupied t = VisitsRecipient s t
SystemStep s (acts by changes answer) t = ActsStep by s t changes answer
SystemStep s (readied stage) t = (t ≡ s) × IsReady s.course stage
SystemStep s sticks t = (t ≡ s) × NobodyMoves s s.course
SystemStep s (again wish text) t = t ≡ s
SystemStep s (showed rows) t = ShowsRows s t
SystemStep s incomplete t = VisitsRecipient s t × ForTold s.recipient.told IsIncomplete
SystemStep s hidden t = FailsRecipient s t
SystemStep s (damaged space page why) t =
    VisitsRecipient s t × FindsDamage s.recipient space page why
SystemStep s (ordered to_donor order) t = t ≡ record s {
  donor = record s.donor {
    engine = record s.donor.engine { disk = with_order order s.donor.engine.disk };
  };
}
SystemStep s (ordered to_recipient order) t =
    t ≡ record s { recipient = with_order order s.recipient }
SystemStep s (opened_follower rows position) t =
    StepsReplica s (opened_follower rows position) t
SystemStep s (sent want frame) t = StepsReplica s (sent want frame) t
SystemStep s (taken frame result) t = StepsReplica s (taken frame result) t
SystemStep s (lost position) t = StepsReplica s (lost position) t
SystemStep s set_to_lose t = StepsReplica s set_to_lose t
SystemStep s (repeated number frame result) t =
    StepsReplica s (repeated number frame result) t
SystemStep s (replicated rows) t = t ≡ s
SystemStep s (unasked by) t = t ≡ s
