-- Five machines of a page that are wrong, each by one rule.
use Rattle.std.specs.Prelude.{ℕ, ◌≡◌, List, [], ◌∷◌, None, if◌then◌else◌}
use Rattle.clone_mtr.specs.declared.record.Record.{Record}
use Rattle.clone_image.specs.Redone.{Standing, redone}
use Rattle.clone_law.specs.Machine.{Untracked, Stopped, PageWorld, Event, Begun, Landed, Checkpointed, Started, FilesEnded, outside, landed, files_ended, happens, Allowed, nothing}
use Rattle.clone_law.specs.Since.{ends, IsAt}
use Rattle.clone_law.specs.Starts.{Gives, IsStart}

pub data Mistake : Type 0 where
  -- a page in flight is left out at the start
  LeavesFlightOut : Mistake
  -- a flush that begins isn't noted
  BeginsUnnoted : Mistake
  -- the archive starts at the log's end
  ArchivesLate : Mistake
  -- landing makes a page clean that was changed since its flush began
  LandsClean : Mistake
  -- a checkpoint may pass a dirty page
  ChecksPast : Mistake

abbrev pub left_out : ℕ → ℕ → PageWorld → Event → PageWorld
left_out space number w (Started listed) =
    record {
      engine = w.engine;
      copy = Untracked (if listed then []
          else (outside (redone space number w.engine.log) w.engine.disk ∷ []));
    }
left_out space number w e = happens space number w e

abbrev pub unnoted : ℕ → ℕ → PageWorld → Event → PageWorld
unnoted space number w (Begun bytes) =
    record { engine = (happens space number w (Begun bytes)).engine; copy = w.copy }
unnoted space number w e = happens space number w e

abbrev pub archived_late : ℕ → ℕ → PageWorld → Event → PageWorld
archived_late space number w FilesEnded =
    record { engine = w.engine; copy = files_ended (ends w.engine.log) w.copy }
archived_late space number w e = happens space number w e

abbrev pub landed_clean : ℕ → ℕ → PageWorld → Event → PageWorld
landed_clean space number w Landed =
    record { engine = record (landed w.engine w.engine.flight) { oldest = None }; copy = w.copy }
landed_clean space number w e = happens space number w e

abbrev pub mistaken : Mistake → ℕ → ℕ → PageWorld → Event → PageWorld
mistaken LeavesFlightOut = left_out
mistaken BeginsUnnoted = unnoted
mistaken ArchivesLate = archived_late
mistaken LandsClean = landed_clean
mistaken ChecksPast = happens

abbrev pub AllowedPast : ℕ → ℕ → PageWorld → Event → Type 0
AllowedPast space number w (Checkpointed at) = IsAt at w.engine.log
AllowedPast space number w e = Allowed space number w e

abbrev pub AllowedBy : Mistake → ℕ → ℕ → PageWorld → Event → Type 0
AllowedBy LeavesFlightOut = Allowed
AllowedBy BeginsUnnoted = Allowed
AllowedBy ArchivesLate = Allowed
AllowedBy LandsClean = Allowed
AllowedBy ChecksPast = AllowedPast

-- these events, one after the other, in the wrong machine
abbrev pub Misruns : Mistake → ℕ → ℕ → PageWorld → List Event → PageWorld → Type 0
Misruns mistake space number w [] v = w ≡ v
Misruns mistake space number w (e ∷ es) v =
    AllowedBy mistake space number w e
    × Misruns mistake space number (mistaken mistake space number w e) es v

-- The wrong machine allows these events from the beginning on, and redo doesn't make one of its
-- starting values the page as it is at the stop.
pub record Misleads (mistake : Mistake) (space number : ℕ) (events : List Event)
    (start : Standing) : Type 0 where
  pub world : PageWorld
  pub run : Misruns mistake space number nothing events world
  pub base : ℕ
  pub log : List (List Record)
  pub starts : List Standing
  pub stopped : world.copy ≡ Stopped base log starts
  pub is_start : IsStart starts start
  pub wrong : ¬ Gives space number base log start
