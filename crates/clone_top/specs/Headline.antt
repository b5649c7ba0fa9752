-- THE HEADLINE: what a run over the lines of a script says, as a plain donor and the disk of a
-- recipient see it.
use Rattle.std.specs.Prelude.{ℕ, ◌≡◌, ◌<◌, ◌^◌, true, List, take, Some, MatchOption, slice_get}
use Rattle.clone_outside.specs.Bytes.{appended, TakesSome}
use Rattle.clone_outside.specs.Disk.{DiskImage, ForTold}
use Rattle.clone_model.specs.History.{Rows, fold}
use Rattle.clone_model.specs.Texts.{binlog_text}
use Rattle.clone_model.specs.declared.config.Config.{Config}
use Rattle.clone_script.specs.declared.lines.Line.{Line}
use Rattle.clone_script.specs.declared.terms.Terms.{Terms}
use Rattle.clone_plain.specs.Donor.{Donor, no_donor}
use Rattle.clone_events.specs.Events.{Event, PlainEvent}
use Rattle.clone_events.specs.Runs.{Runs, output}
use Rattle.clone_events.specs.BreaksOff.{BreaksOff}
use Rattle.clone_events.specs.World.{World, Clone, Stop, IsSure, complete, over, no_clone, opened, before_stop}
use Rattle.clone_events.specs.Headline.{AreCommits, AreDrops, AreSets, FollowsStop, ShowsFollowers, ShowsStop, all_events}
use Rattle.clone_recover.specs.Restores.{Answers, IsRecoveredDisk}
use Rattle.clone_recover.specs.declared.recovery.Recovered.{Recovered}
use Rattle.clone_staged.specs.Holds.{EndsAt, IsLeftBy}
use Rattle.clone_top.specs.Ends.{Streams, Disks, Ends, IsRead, AreEmpty, tell}
use Rattle.clone_top.specs.declared.status.Status.{Status}
use Rattle.clone_top.specs.declared.status.Status.TheVariants.{Done, Memory, SinkFault, RecipientFault, RestartsSpent, Garbled, Refused}

-- How far a run came: of the lines of a script so many were carried out, with these events. Then
-- the plain donor and its clone stood so; and so they are left.
pub record Run : Type 0 where
  pub config : Config
  pub terms : Terms
  pub lines : List Line
  pub count : ℕ
  pub events : List (List Event)
  pub final : World Donor
  pub left : World Donor

-- the lines that were carried out
abbrev pub carried : Run → List Line
carried run = take run.count run.lines

-- All lines were carried out, and nothing after them.
pub record IsWhole (run : Run) : Type 0 where
  pub all : carried run ≡ run.lines
  pub left : run.left ≡ run.final

-- Nothing happened after the lines that were carried out, or memory ran out in the next line.
pub data LeavesPlain (run : Run) : Type 0 where
  behind : run.left ≡ run.final → LeavesPlain run
  within : (line : Line) → slice_get run.lines run.count ≡ Some line
      → BreaksOff (λ d. d) PlainEvent run.final line run.left → LeavesPlain run

-- all answers were written, and then the whole binlog
pub record WritesAll (run : Run) (old new : Streams) : Type 0 where
  pub whole : IsWhole run
  pub out : new.out.told ≡ appended old.out.told (output run.events)
  pub binlog : new.binlog.told ≡ appended old.binlog.told (binlog_text run.final.donor.binlog)

-- a front of the answers was written and nothing of the binlog, or all answers and a front of the
-- binlog
pub data WritesSome (run : Run) (old new : Streams) : Type 0 where
  in_lines : LeavesPlain run → TakesSome old.out.told new.out.told (output run.events)
      → new.binlog.told ≡ old.binlog.told → WritesSome run old new
  in_binlog : IsWhole run → new.out.told ≡ appended old.out.told (output run.events)
      → TakesSome old.binlog.told new.binlog.told (binlog_text run.final.donor.binlog)
      → WritesSome run old new

-- what was written, by the status: all, but where memory ran out or a sink failed
abbrev pub Writes : Status → Run → Streams → Streams → Type 0
Writes Done run old new = WritesAll run old new
Writes RecipientFault run old new = WritesAll run old new
Writes RestartsSpent run old new = WritesAll run old new
Writes Garbled run old new = WritesAll run old new
Writes Refused run old new = WritesAll run old new
Writes Memory run old new = WritesSome run old new
Writes SinkFault run old new = WritesSome run old new
Writes status run old new = ⊥

-- The disk has a clone of these rows, after so many commits: its mark is that of an end, and
-- whenever it is recovered it has these rows. A position has 64 bits.
pub record HasClone (m : DiskImage) (rows : Rows) (position : ℕ) : Type 0 where
  pub marked : EndsAt m position
  pub recovers : (n : DiskImage) (numbers : Recovered) → numbers.position < 2 ^ 64
      → Answers m n numbers → IsLeftBy n numbers rows position

-- The stop is after so many commits, and the disk has a clone of the history before it.
pub record HasCloneAt (d : Donor) (m : DiskImage) (position : ℕ) (at : Stop) : Type 0 where
  pub after : at.position ≡ position
  pub has : HasClone m (fold (before_stop at d)) position

-- The stop of a clone that is complete is where it is complete, and the disk has the clone of that
-- stop, recovered where its rows were shown.
pub record HasCompleted (d : Donor) (clone : Clone) (m : DiskImage) : Type 0 where
  pub whole : (position : ℕ) → clone.progress ≡ over (complete position)
      → MatchOption clone.stop ⊥ (HasCloneAt d m position)
  pub shown : (position : ℕ) → clone.progress ≡ over (complete position)
      → clone.shown ≡ true → IsRecoveredDisk m

-- The source gave a script, and both disks were empty. Its lines, as far as they were carried out,
-- are a run of the plain donor, and what was written is their answers, and the commits of that run:
-- one for each position that was answered, in order, that of a `set` with its one change. The drops
-- are those that were answered, each after the commits before it, and maybe those in which the disk
-- failed. Where a clone is complete at position n, that is at least what was looked up before its
-- first acknowledgement of the copy of pages; the rows shown after it are, in ascending order,
-- exactly those that the first n commits leave, with the tables dropped before it, and nothing of a
-- transaction that was open then; and the recipient's disk that comes back holds a complete clone
-- at n, which recovers to these rows whenever it is recovered. A follower that was opened with
-- these rows has them with the commits n+1 to m applied in order, each once, where m is its
-- position; so are the rows that are shown of it.
--
-- Where bytes came to a task that the donor didn't send, a stranger acted in the session, or it was
-- abandoned before the clone's end, nothing is claimed of n, of rows, of the disk and of a
-- follower, and all else stands.
pub record Headline (status : Status) (run : Run) (old new : Streams) (given : Disks) (ends : Ends)
    : Type 0 where
  pub read : IsRead old.source new.source run.config run.terms run.lines
  pub empty : AreEmpty given
  pub happened : Runs (λ d. d) PlainEvent (opened no_donor run.terms.tasks (tell given))
      (carried run) run.events run.final
  pub writes : Writes status run old new
  pub commits : AreCommits (all_events run.events) run.final.donor.binlog
  pub sets : AreSets (carried run) run.events run.final.donor.binlog
  pub dropped : AreDrops 0 (all_events run.events) run.final.donor.drops
  pub shows : ShowsStop run.final.donor (tell given) no_clone (all_events run.events)
  pub followers : ShowsFollowers run.final.donor (tell given) no_clone (all_events run.events)
  pub follows : FollowsStop run.final.donor (tell given) run.final.clone
  pub drops : ends.drops ≡ run.left.donor.drops
  pub stop : ends.stop ≡ run.left.clone.stop
  pub disk : IsSure (tell given) run.left.clone
      → ForTold ends.disks.recipient.told (HasCompleted run.left.donor run.left.clone)
