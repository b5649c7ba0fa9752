-- The calls of a clone, made on a donor.
use Rattle.std.specs.Prelude.{ℕ, ◌≡◌, ◌≢◌, ◌==◌, Bool, List, length, map, None, Some, if◌then◌else◌}
use Rattle.std.specs.declared.option.Option.{Option}
use Rattle.std.specs.List.{AllByRecursion}
use Rattle.std.specs.Option.{option_map_or}
use Rattle.clone_outside.specs.Causes.{Rose}
use Rattle.clone_ring.specs.Window.{end_of}
use Rattle.clone_pool.specs.Pool.{AreOpenPages}
use Rattle.clone_archive.specs.Archived.{kept_from}
use Rattle.clone_snapshot.specs.declared.block.RedoBlock.{RedoBlock}
use Rattle.clone_snapshot.specs.StageLists as lists
use Rattle.clone_snapshot.specs.StageLists.{StageList}
use Rattle.clone_flush.specs.Calls.{nearest_in, settled}
use Rattle.clone_plain.specs.declared.refusal.Cause.TheVariants.{DiskFault}
use Rattle.clone_plain.specs.declared.refusal.EngineRefusal.TheVariants as engine
use Rattle.clone_session.specs.declared.caller.Caller.{Caller}
use Rattle.clone_session.specs.declared.caller.Hello.{Hello}
use Rattle.clone_session.specs.declared.copying.BlockWork.{BlockWork}
use Rattle.clone_session.specs.declared.copying.BlockWork.TheVariants as work
use Rattle.clone_session.specs.declared.ending.Moment.{Moment}
use Rattle.clone_session.specs.declared.info.StageInfo.{StageInfo}
use Rattle.clone_session.specs.declared.refusal.CloneRefusal.TheVariants as refusal
use Rattle.clone_session.specs.Cloning.{Session}
use Rattle.clone_session.specs.CloneCauses.{block_cause, donor_stage, session_of}
use Rattle.clone_session.specs.CloneCalls.{Acknowledges, Answers, IsBlockOf, redo_in}
use Rattle.clone_session.specs.Effects.{Becomes, Tells, opened, reopened}
use Rattle.clone_engine.specs.Engine.{Engine}
use Rattle.clone_engine.specs.Reading.{OnlyVisits, ReadsFile, ReadsPage}
use Rattle.clone_calls.specs.declared.block.Block.{Block}
use Rattle.clone_calls.specs.declared.block.Block.TheVariants.{Pages, Redo}
use Rattle.clone_page.specs.declared.pages.PageAt.{PageAt}
use Rattle.clone_calls.specs.declared.block.BlockRefusal.{BlockRefusal}
use Rattle.clone_calls.specs.declared.block.BlockRefusal.TheVariants as refused
use Rattle.clone_engine.specs.Donor.{Donor, known_files}
use Rattle.clone_engine.specs.Copies.{files_over, first_copies, pages_over, with_pages}
use Rattle.clone_engine.specs.Taken.{Taken}

-- a moment of an engine
abbrev pub moment_of : Engine → Moment
moment_of e = record {
  checkpoint = nearest_in e.buffer.ring e.flights.checkpoint;
  end = end_of e.buffer.ring;
  position = length e.donor.binlog;
  drops = length e.donor.drops;
}

-- nothing of the engine has changed but the floor of its log, which is settled
abbrev pub Settles : Donor → Donor → Type 0
Settles d t = t.engine ≡ record d.engine {
  buffer = settled d.engine.flights.checkpoint (kept_from t.cloning.archive) d.engine.buffer;
}

-- A SESSION BEGINS, over the donor's files, with the pages whose write is open; or it begins again.
abbrev pub BeginsAs : Hello → Donor → Donor → Option Session → Type 0
BeginsAs hello d t None =
    (in_flight : List (ℕ × ℕ)) × AreOpenPages d.engine.buffer.pool.frames in_flight
    × Becomes t.cloning (opened hello (known_files d.engine) in_flight d.cloning)
BeginsAs hello d t (Some s) = Becomes t.cloning (reopened hello s d.cloning)

pub record Begins (hello : Hello) (d t : Donor) (info : StageInfo) : Type 0 where
  pub engine : t.engine ≡ d.engine
  pub begins : BeginsAs hello d t d.cloning.session
  pub tells : Tells t.cloning info

-- what is taken then: nothing of any page that its file has, or what was
abbrev pub taken_at : Donor → Donor → Option Session → Taken → Taken
taken_at d t None taken = record {
  copies = first_copies t.cloning.tracking.pages d.engine.flights.files;
  stop = None;
}
taken_at d t (Some s) taken = taken

-- the places of pages
abbrev pub places_of : List PageAt → List (ℕ × ℕ)
places_of pages = map (λ p. (p.space, p.number)) pages

-- a page of a block was read so: in the copy of files from the disk, in that of pages as it is
abbrev pub ReadsPageOf : StageList → Engine → PageAt → Type 0
ReadsPageOf (lists.Files spaces) e p = ReadsFile e p.space p.number p.page
ReadsPageOf list e p = ReadsPage e p.space p.number p.page

-- so it was by the stage's number, of which 1 is the copy of files
abbrev pub ReadsIn : ℕ → Engine → PageAt → Type 0
ReadsIn stage e p =
    (stage ≡ 1 → ReadsFile e p.space p.number p.page)
    × (stage ≢ 1 → ReadsPage e p.space p.number p.page)

-- the block has these bytes of the archive
abbrev pub IsRedo : Donor → RedoBlock → Block → Type 0
IsRedo d redo (Pages read) = ⊥
IsRedo d redo (Redo from bytes) =
    (from ≡ redo.from) × (bytes ≡ redo_in d.cloning.archive redo)

-- a block is what it is made of, in the stage that copies this list
abbrev pub IsBlock : StageList → Donor → BlockWork → Block → Type 0
IsBlock list d (work.Pages pages) (Pages read) =
    (places_of read ≡ pages) × AllByRecursion (ReadsPageOf list d.engine) read
IsBlock list d (work.Pages pages) (Redo from bytes) = ⊥
IsBlock list d (work.Redo redo) block = IsRedo d redo block

-- A BLOCK, and whether it was its chunk's last
pub record Gives (caller : Caller) (chunk number : ℕ) (d t : Donor) (block : Block)
    (last : Bool) : Type 0 where
  pub session : Session
  pub stands : session_of d.cloning caller.session ≡ Some session
  pub work : BlockWork
  pub made_of : IsBlockOf d.cloning caller.session chunk number work
  pub read : IsBlock session.snap.list d work block
  pub visits : OnlyVisits d.engine t.engine
  pub answers : Answers caller chunk number d.cloning t.cloning last

-- a block as it was answered
abbrev pub taken_from : Block → Taken → Taken
taken_from (Pages read) taken = record taken {
  copies = with_pages (map (λ p. ((p.space, p.number), p.page)) read) taken.copies;
}
taken_from (Redo from bytes) taken = taken

-- pages aren't read, since memory ran out, or after a fault of the disk
abbrev pub FailsReading : Engine → Engine → BlockRefusal → Type 0
FailsReading e f (refused.Clone why) = why ≡ refusal.NoMemory
FailsReading e f (refused.Engine why) =
    (why ≡ engine.Because DiskFault) × Rose e.disk.failures f.disk.failures

-- No block is answered: for the clone's cause, or after a fault of the disk, or since memory ran out.
-- Nothing but the disk's count of faults has changed.
abbrev pub RefusesBlock : Caller → (stage chunk number : ℕ) → Donor → Donor → BlockRefusal → Type 0
RefusesBlock caller stage chunk number d t (refused.Clone (refusal.Because cause)) =
    (block_cause d.cloning caller stage chunk number ≡ Some cause) × (t ≡ d)
RefusesBlock caller stage chunk number d t (refused.Clone refusal.NoMemory) =
    OnlyVisits d.engine t.engine × (t.cloning ≡ d.cloning)
RefusesBlock caller stage chunk number d t (refused.Engine (engine.Because cause)) =
    (cause ≡ DiskFault) × Rose d.engine.disk.failures t.engine.disk.failures
    × OnlyVisits d.engine t.engine × (t.cloning ≡ d.cloning)
RefusesBlock caller stage chunk number d t (refused.Engine engine.NoMemory) = ⊥

-- AN ACKNOWLEDGEMENT, at this moment
pub record Acks (caller : Caller) (stage : ℕ) (d t : Donor) (info : StageInfo) : Type 0 where
  pub acknowledges : Acknowledges (moment_of d.engine) (known_files d.engine) caller.session stage
      d.cloning t.cloning info
  pub settles : Settles d t

-- a stage is over
abbrev pub taken_over : Engine → StageList → Taken → Taken
taken_over e (lists.Files spaces) taken =
    record taken { copies = files_over (moment_of e).checkpoint taken.copies }
taken_over e (lists.Pages pages) taken =
    record { copies = pages_over e.buffer.log taken.copies; stop = Some e }
taken_over e (lists.Redo start end) taken = taken
taken_over e lists.Nothing taken = taken

-- the donor's stage is over where it is the one that is acknowledged
abbrev pub taken_after : Donor → ℕ → Taken → Taken
taken_after d stage taken =
    option_map_or (λ s. if stage == donor_stage s then taken_over d.engine s.snap.list taken
    else taken) d.cloning.session taken
