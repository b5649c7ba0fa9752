-- What a run of the program is: by the command, then by the status.
use Rattle.std.specs.Prelude.{◌≡◌, List, Bool, true, false, codes, MatchOption}
use Rattle.std.specs.declared.option.Option.{Option}
use Rattle.clone_outside.specs.DiskCalls.{DiskState}
use Rattle.clone_outside.specs.declared.link.Link.{Ghosts as Link}
use Rattle.clone_outside.specs.declared.link.Net.{Ghosts as Net}
use Rattle.clone_model.specs.Texts.{ended}
use Rattle.clone_plain.specs.Answers.{Text}
use Rattle.clone_dump.specs.Shown.{SaysRecovered, SaysRows}
use Rattle.clone_engine.specs.Disks.{Visits}
use Rattle.clone_words.specs.Commands.{IsAskedBy, IsCommandLine}
use Rattle.clone_words.specs.declared.command.Command.{Command}
use Rattle.clone_words.specs.declared.command.Command.TheVariants as command
use Rattle.clone_words.specs.declared.command.Run.{Run as Options}
use Rattle.clone_top.specs.Ends.{Streams, Disks, Ends, Means}
use Rattle.clone_top.specs.Headline.{Run, Headline}
use Rattle.clone_top.specs.Causes.{HasNotBegun, IsAlone, RunsOver}
use Rattle.clone_top.specs.Completeness.{EndsWell, IsFavoured}
use Rattle.clone_top.specs.Recovering.{Comes, Showing}
use Rattle.clone_top.specs.Saying.{Says}
use Rattle.clone_top.specs.Status.{number_of}
use Rattle.clone_top.specs.UnderLoad.{LoadOutcome}
use Rattle.clone_top.specs.declared.status.Status.{Status}
use Rattle.clone_top.specs.declared.status.Status.TheVariants.{CompressionRefused, Memory, Usage}

-- why a status came: no line was begun, or a run of the lines came so far
abbrev pub Causes : Status → Option Run → Streams → Streams → Disks → Ends → Type 0
Causes status run old new given ends = MatchOption run
    (HasNotBegun status old new given ends × IsAlone old new ends)
    (λ (r : Run). RunsOver status r old new given ends)

-- A RUN OF `steps`: the lines of a script are carried out. What is said of them as a plain donor
-- sees it, and why the run ended so.
pub record StepsOutcome (status : Status) (old new : Streams) (given : Disks) (ends : Ends)
    : Type 0 where
  -- how far the lines came, if they were begun
  pub run : Option Run
  pub headline : MatchOption run (Unit {0}) (λ (r : Run). Headline status r old new given ends)
  pub causes : Causes status run old new given ends
  -- the promise that it ends well
  pub well : IsFavoured run old new given ends → EndsWell status

-- The words alone were read: neither the source nor a disk was touched.
pub record IsUntouched (old new : Streams) (given : Disks) (ends : Ends) : Type 0 where
  pub source : new.source ≡ old.source
  pub disks : ends.disks ≡ given
  pub alone : IsAlone old new ends

-- Nothing was done, and why is said: by the status that is due, and its text
pub record Refuses (due : Status) (text : Text) (status : Status) (old new : Streams)
    (given : Disks) (ends : Ends) : Type 0 where
  pub untouched : IsUntouched old new given ends
  pub says : Says due status old.out new.out (ended text)

-- A RUN OVER THE RECIPIENT'S DISK: it is recovered, which a text shows, and nothing else is touched.
pub record DiskOutcome (Shows : Showing) (status : Status) (old new : Streams) (given : Disks)
    (ends : Ends) : Type 0 where
  pub source : new.source ≡ old.source
  pub donor : ends.disks.donor ≡ given.donor
  pub recipient : Visits given.recipient ends.disks.recipient
  pub comes : Comes Shows status given.recipient ends.disks.recipient old.out new.out
  pub alone : IsAlone old new ends

module _ {N L X R : Type 0} (net : Net N L X) (link : Link L X) (state : R → DiskState) where
  -- A RUN OF `run`: with `--compress` it is refused; without it a donor is cloned under load.
  abbrev pub RunOutcome : Options → Bool → Status → Streams → Streams → Disks → Ends
      → (means left : Means N) → Type 0
  RunOutcome run true status old new given ends means left =
      Refuses CompressionRefused (codes "compression refused") status old new given ends
      × (left ≡ means)
  RunOutcome run false status old new given ends means left = (new.source ≡ old.source)
      × LoadOutcome net link state run status old new given ends means left

  -- what comes of a command; only `run` uses the net and the crew
  abbrev pub OutcomeOf : Command → Status → Streams → Streams → Disks → Ends
      → (means left : Means N) → Type 0
  OutcomeOf command.Steps status old new given ends means left =
      StepsOutcome status old new given ends × (left ≡ means)
  OutcomeOf (command.Run run) status old new given ends means left =
      RunOutcome run run.compress status old new given ends means left
  OutcomeOf (command.Recover recover) status old new given ends means left =
      DiskOutcome SaysRecovered status old new given ends × (left ≡ means)
  OutcomeOf (command.Dump dump) status old new given ends means left =
      DiskOutcome SaysRows status old new given ends × (left ≡ means)

  -- WHAT COMES OF A RUN, by its command and then by its status. The words are no command line, or
  -- there was no memory to read them, or they ask for a command.
  pub data Outcome (words : List Text) (old new : Streams) (given : Disks) (ends : Ends)
      (means left : Means N) : Type 0 where
    no_command : (IsCommandLine words → ⊥)
        → (status : Status) → ends.status ≡ number_of status
        → Refuses Usage (codes "usage") status old new given ends → left ≡ means
        → Outcome words old new given ends means left
    no_memory : ends.status ≡ number_of Memory → IsUntouched old new given ends
        → new.out.told ≡ old.out.told → left ≡ means
        → Outcome words old new given ends means left
    commanded : IsCommandLine words → (command : Command) → IsAskedBy words command
        → (status : Status) → ends.status ≡ number_of status
        → OutcomeOf command status old new given ends means left
        → Outcome words old new given ends means left
