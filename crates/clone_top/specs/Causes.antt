-- THE CAUSES: why each status comes, over the disks and over the engine of the donor.
use Rattle.std.specs.Prelude.{ℕ, ◌≡◌, ◌⊎◌, ◌≤◌, ◌++◌, List, [], None, codes}
use Rattle.std.specs.Fmt.{decimal}
use Rattle.std.specs.List.{filter_map}
use Rattle.clone_outside.specs.Causes.{Rose}
use Rattle.clone_outside.specs.Disk.{ForTold}
use Rattle.clone_outside.specs.DiskCalls.{DiskState}
use Rattle.clone_model.specs.Texts.{ended}
use Rattle.clone_model.specs.declared.config.Config.{Config}
use Rattle.clone_script.specs.declared.lines.Line.{Line}
use Rattle.clone_script.specs.declared.terms.Terms.{Terms}
use Rattle.clone_script.specs.Script.{IsFirstBad}
use Rattle.clone_plain.specs.Answers.{Text}
use Rattle.clone_events.specs.Events.{recipient_fault}
use Rattle.clone_events.specs.Headline.{donor_order, recipient_order}
use Rattle.clone_engine.specs.Disks.{Visits}
use Rattle.clone_engine.specs.Opened.{IsNotEmpty}
use Rattle.clone_core.specs.Lines.{State, IsNew, Runs, plain_of}
use Rattle.clone_core.specs.Copied.{KeepsClone}
use Rattle.clone_core.specs.Ending.{ending_of}
use Rattle.clone_core.specs.declared.world.Ending.TheVariants as ending
use Rattle.clone_top.specs.Ends.{Streams, Disks, Ends, GaveAll, GaveTooMuch, IsRead, AreEmpty, tell}
use Rattle.clone_top.specs.Headline.{Run, carried}
use Rattle.clone_top.specs.Carrying.{Leaves}
use Rattle.clone_top.specs.Saying.{Says}
use Rattle.clone_top.specs.declared.status.Status.{Status}
use Rattle.clone_top.specs.declared.status.Status.TheVariants.{Done, Memory, BadLine, SourceFault, SinkFault, DonorFault, RecipientFault, RestartsSpent, Garbled, Refused, NotEmpty, TooLong}

-- a disk was asked and wasn't written: it tells what it told, and got no order
pub record Looks (before after : DiskState) : Type 0 where
  pub told : after.told ≡ before.told
  pub later : before.failures ≤ after.failures
  pub orders : after.orders ≡ before.orders

-- the script of the source
abbrev pub HasScript : Streams → Streams → Type 0
HasScript old new =
    (config : Config) × (terms : Terms) × (lines : List Line)
    × IsRead old.source new.source config terms lines

-- The donor's disk failed at its first look, before any at the recipient's; or in opening, after
-- looks at both, by which both were empty.
pub data FailsDonor (given back : Disks) : Type 0 where
  at_look : Looks given.donor back.donor → back.recipient ≡ given.recipient
      → Rose given.donor.failures back.donor.failures → FailsDonor given back
  at_opening : AreEmpty given → Visits given.donor back.donor
      → Looks given.recipient back.recipient → Rose given.donor.failures back.donor.failures
      → FailsDonor given back

-- both disks were looked at
pub record LooksAtBoth (given back : Disks) : Type 0 where
  pub donor : Looks given.donor back.donor
  pub recipient : Looks given.recipient back.recipient

-- the recipient's disk was looked at, at most, and the donor's may have been opened
pub record OpensAtMost (given back : Disks) : Type 0 where
  pub donor : Visits given.donor back.donor
  pub recipient : Looks given.recipient back.recipient

-- one of the disks held a space or a mark
abbrev pub WereNotEmpty : Disks → Type 0
WereNotEmpty given =
    ForTold given.donor.told IsNotEmpty ⊎ ForTold given.recipient.told IsNotEmpty

-- why no line of a script is begun, by the status that is for it, and the text that says so
abbrev pub Hinders : Status → Streams → Streams → Disks → Disks → Text → Type 0
Hinders SourceFault old new given back text =
    Rose old.source.faults new.source.faults × (back ≡ given) × (text ≡ codes "source fault")
Hinders TooLong old new given back text =
    (script : List ℕ) × GaveTooMuch old.source new.source script × (back ≡ given)
    × (text ≡ codes "script too long")
Hinders BadLine old new given back text =
    (script : List ℕ) × (number : ℕ) × GaveAll old.source new.source script
    × IsFirstBad script number × (back ≡ given) × (text ≡ codes "bad line " ++ decimal number)
Hinders DonorFault old new given back text =
    HasScript old new × FailsDonor given back × (text ≡ codes "donor disk fault")
Hinders RecipientFault old new given back text =
    HasScript old new × LooksAtBoth given back
    × Rose given.recipient.failures back.recipient.failures × (text ≡ recipient_fault)
Hinders NotEmpty old new given back text =
    HasScript old new × LooksAtBoth given back × WereNotEmpty given × (text ≡ codes "not empty")
Hinders status old new given back text = ⊥

-- No line was begun: why is said, alone, or as far as memory and the sink allowed; or memory ran
-- out before anything was said. No donor tells of drops or of a stop then.
pub data HasNotBegun (status : Status) (old new : Streams) (given : Disks) (ends : Ends)
    : Type 0 where
  said : (due : Status) (text : Text) → Hinders due old new given ends.disks text
      → Says due status old.out new.out (ended text) → HasNotBegun status old new given ends
  silent : status ≡ Memory → new.out.told ≡ old.out.told → OpensAtMost given ends.disks
      → HasNotBegun status old new given ends

-- no donor was opened
pub record IsAlone (old new : Streams) (ends : Ends) : Type 0 where
  pub binlog : new.binlog.told ≡ old.binlog.told
  pub drops : ends.drops ≡ []
  pub stop : ends.stop ≡ None

-- how the clone ended whose lines were all carried out; or a sink's count rose
abbrev pub EndsBy : Status → Run → Streams → Streams → Type 0
EndsBy Done run old new = ending_of run.final.clone ≡ ending.Well
EndsBy RecipientFault run old new = ending_of run.final.clone ≡ ending.RecipientFault
EndsBy RestartsSpent run old new = ending_of run.final.clone ≡ ending.RestartsSpent
EndsBy Garbled run old new = ending_of run.final.clone ≡ ending.Garbled
EndsBy Refused run old new = ending_of run.final.clone ≡ ending.Refused
EndsBy Memory run old new = Unit {0}
EndsBy SinkFault run old new =
    Rose old.out.faults new.out.faults ⊎ Rose old.binlog.faults new.binlog.faults
EndsBy status run old new = ⊥

-- THE LINES OVER THE ENGINE, which opened with the sizes of the script, and over a recipient that
-- clones it on the script's terms: each event is a step of the donor with its pages, its log and
-- its disk, of the recipient with its disk, and of the connections between them; the plain donor
-- and the clone of the run are theirs, and the disks that come back. Each disk got the orders of
-- the lines that are for it, and a fault of the recipient's disk by which the clone ended is in
-- that disk's count. What the recipient's disk holds is kept however the clone stands: where that
-- is known, it is never found damaged, or incomplete where the clone is complete.
pub record RunsOver (status : Status) (run : Run) (old new : Streams) (given : Disks) (ends : Ends)
    : Type 0 where
  pub first : State
  pub final : State
  pub left : State
  pub opened : IsNew run.config run.terms first
  pub donor : Visits given.donor first.donor.donor.engine.disk
  pub recipient : Visits given.recipient first.donor.recipient
  pub happened : Runs first (carried run) run.events final
  pub leaves : Leaves run.lines run.count final left
  pub plain : run.final ≡ plain_of final
  pub plain_left : run.left ≡ plain_of left
  pub keeps : KeepsClone run.left.donor (tell given) run.left.clone ends.disks.recipient.told
  pub donor_back : ends.disks.donor ≡ left.donor.donor.engine.disk
  pub recipient_back : ends.disks.recipient ≡ left.donor.recipient
  pub donor_orders : final.donor.donor.engine.disk.orders
      ≡ given.donor.orders ++ filter_map donor_order (carried run)
  pub recipient_orders : final.donor.recipient.orders
      ≡ given.recipient.orders ++ filter_map recipient_order (carried run)
  pub recipient_fault : ending_of run.final.clone ≡ ending.RecipientFault
      → Rose given.recipient.failures final.donor.recipient.failures
  pub ended : EndsBy status run old new
