-- What the calls of a clone do to it. How much room there is for pages and chunks is left open.
use Rattle.std.specs.Prelude.{ℕ, ◌≡◌, ◌==◌, not, Bool, List, [], None, Some}
use Rattle.std.specs.Prelude.{replicate, length, filter, slice_set, option_map, if◌then◌else◌}
use Rattle.std.specs.declared.option.Option.{Option}
use Rattle.std.specs.List.{list_any}
use Rattle.std.specs.Option.{option_map_or}
use Rattle.std.specs.FinMap as finite
use Rattle.clone_chunk.specs.declared.chunk.Chunk.TheVariants.{Free, Claimed, Finished}
use Rattle.clone_chunk.specs.Plans.{sizes_of}
use Rattle.clone_chunk.specs.declared.plan.StagePlan.{StagePlan}
use Rattle.clone_chunk.specs.declared.plan.StagePlan.TheVariants.{FileCopy, PageCopy}
use Rattle.clone_chunk.specs.declared.plan.StagePlan.TheVariants.{RedoCopy, Done}
use Rattle.clone_track.specs.TrackedPages.{all_noted, listed, noted}
use Rattle.clone_archive.specs.Archived.{Archived}
use Rattle.clone_snapshot.specs.StageLists.{StageList, Files, Pages, Redo, Nothing, chunk_count}
use Rattle.clone_snapshot.specs.Snaps.{Snap}
use Rattle.clone_session.specs.declared.caller.Hello.{Hello}
use Rattle.clone_session.specs.declared.ending.Moment.{Moment}
use Rattle.clone_session.specs.declared.info.Stop.{Stop}
use Rattle.clone_session.specs.declared.info.StageInfo.{StageInfo}
use Rattle.clone_session.specs.Cloning.{Cloning, Session}
use Rattle.clone_session.specs.CloneCauses.{donor_stage}

-- a clone, without how much room there is, and how much of it is taken
abbrev pub aside : Cloning → Cloning
aside c = record c {
  tracking = record c.tracking { kept = 0; room = 0 };
  session = option_map (λ (s : Session). record s { snap = record s.snap { room = 0 } }) c.session;
}

-- the clone has become this one
abbrev pub Becomes : Cloning → Cloning → Type 0
Becomes new expected = aside new ≡ aside expected

-- what a stage copies, with no chunk claimed or finished
abbrev pub begun : StageList → Snap
begun list = record {
  list = list;
  chunks = replicate (chunk_count list) Free;
  kept = replicate (chunk_count list) 0;
  room = 0;
}

-- the session has come to this stage
abbrev pub in_stage : StageList → Session → Cloning → Cloning
in_stage list s c = record c { session = Some (record s { snap = begun list }) }

-- no page is tracked
abbrev pub untracked : Cloning → Cloning
untracked c = record c { tracking = record c.tracking { pages = None } }

-- A SESSION BEGINS with the copy of the files of these spaces. The pages whose write is open are
-- tracked from the start.
abbrev pub opened : Hello → List (ℕ × ℕ) → List (ℕ × ℕ) → Cloning → Cloning
opened hello spaces in_flight c = record c {
  session = Some (record {
    number = hello.session;
    incarnation = hello.incarnation;
    tasks = hello.tasks;
    version = hello.version;
    snap = begun (Files spaces);
    created = [];
  });
  tracking = record c.tracking { pages = Some (all_noted in_flight finite.empty) };
  archive = None;
}

-- A later incarnation begins it again, with no chunk finished. The number of tasks and the version
-- stay.
abbrev pub reopened : Hello → Session → Cloning → Cloning
reopened hello s c = record c {
  session = Some (record s { incarnation = hello.incarnation; snap = begun s.snap.list });
}

-- a later incarnation joins it, with the chunks that it has
abbrev pub rejoined : ℕ → Snap → Session → Cloning → Cloning
rejoined incarnation snap s c = record c {
  session = Some (record s { incarnation = incarnation; snap = snap });
}

-- the page's write counts as open, where pages are tracked
abbrev pub with_noted : ℕ × ℕ → Cloning → Cloning
with_noted page c = record c {
  tracking = record c.tracking { pages = noted page c.tracking.pages };
}

-- a chunk is the task's
abbrev pub claimed : ℕ → ℕ → Session → Cloning → Cloning
claimed task chunk s c = record c {
  session = Some (record s {
    snap = record s.snap { chunks = slice_set s.snap.chunks chunk (Claimed task) };
  });
}

-- a chunk is finished
abbrev pub finished : ℕ → Session → Cloning → Cloning
finished chunk s c = record c {
  session = Some (record s {
    snap = record s.snap { chunks = slice_set s.snap.chunks chunk Finished };
  });
}

-- a space is one of these
abbrev pub is_listed : ℕ → List (ℕ × ℕ) → Bool
is_listed space spaces = list_any (λ (s : ℕ × ℕ). s.0 == space) spaces

-- the files of spaces that weren't there when these were listed
abbrev pub created_since : List (ℕ × ℕ) → List (ℕ × ℕ) → List (ℕ × ℕ)
created_since spaces files = filter (λ (file : ℕ × ℕ). not (is_listed file.0 spaces)) files

-- THE COPY OF FILES ENDS, when these spaces have been created. The pages that were tracked are
-- copied next, and from the last checkpoint on the redo is archived.
abbrev pub files_ended : Moment → List (ℕ × ℕ) → Session → Cloning → Cloning
files_ended now created s c =
    record (untracked (in_stage (Pages (listed c.tracking.pages))
    (record s { created = created }) c)) {
      archive = Some (record { start = now.checkpoint; bytes = []; stop = None });
    }

-- THE STOP. Archiving ends at the log's end, and the redo up to there is copied next.
abbrev pub stopped_at : Moment → Session → Archived → Cloning → Cloning
stopped_at now s a c = record (in_stage (Redo a.start now.end) s c) {
  archive = Some (record a { stop = Some now.end });
  stop = Some (record { session = s.number; position = now.position; drops = now.drops });
}

abbrev pub pages_ended : Moment → Session → Cloning → Cloning
pages_ended now s c = option_map_or (λ a. stopped_at now s a c) c.archive c

-- the donor's stage is over, which has these files
abbrev pub advanced : Moment → List (ℕ × ℕ) → Session → StageList → Cloning → Cloning
advanced now files s (Files spaces) c = files_ended now (created_since spaces files) s c
advanced now files s (Pages pages) c = pages_ended now s c
advanced now files s (Redo start end) c = in_stage Nothing s c
advanced now files s Nothing c = c

-- An acknowledgement of the donor's stage ends it. One of the stage before it changes nothing.
abbrev pub acknowledged : Moment → List (ℕ × ℕ) → ℕ → Session → Cloning → Cloning
acknowledged now files stage s c =
    if stage == donor_stage s then advanced now files s s.snap.list c else c

-- THE SESSION IS GONE, with all that was kept for it but the last stop.
abbrev pub left : Cloning → Cloning
left c = record (untracked c) { session = None; archive = None }

-- where the redo that is copied begins and ends, from the stop on
abbrev pub range_to : ℕ → Option ℕ → ℕ × ℕ
range_to start None = (0, 0)
range_to start (Some end) = (start, end)

abbrev pub range_of : Option Archived → ℕ × ℕ
range_of None = (0, 0)
range_of (Some a) = range_to a.start a.stop

-- how many commits there were at the last stop
abbrev pub position_of : Option Stop → ℕ
position_of None = 0
position_of (Some last) = last.position

-- the spaces that a stage lists: in the copy of files those that are copied, and in the copy of
-- pages those that were created since
abbrev pub spaces_in : Session → StageList → List (ℕ × ℕ)
spaces_in s (Files spaces) = spaces
spaces_in s (Pages pages) = s.created
spaces_in s (Redo start end) = []
spaces_in s Nothing = []

-- what is copied in a stage, with its spaces: in the copy of pages how many pages there are, and
-- from the stop on the redo and the position
abbrev pub plan_of : Cloning → Session → StageList → StagePlan
plan_of c s (Files spaces) = FileCopy (chunk_count (Files spaces)) (sizes_of spaces)
plan_of c s (Pages pages) =
    PageCopy (chunk_count (Pages pages)) (length pages) (sizes_of s.created)
plan_of c s (Redo start end) =
    RedoCopy (chunk_count (Redo start end)) start end (position_of c.stop)
plan_of c s Nothing = Done (range_of c.archive).0 (range_of c.archive).1 (position_of c.stop)

-- WHAT A DONOR TELLS OF A STAGE
abbrev pub told_of : Cloning → Session → StageList → StageInfo
told_of c s list = record {
  session = s.number;
  incarnation = s.incarnation;
  plan = plan_of c s list;
}

-- the answer tells the stage that the session has come to
abbrev pub Tells : Cloning → StageInfo → Type 0
Tells c info = (s : Session) × (c.session ≡ Some s) × (info ≡ told_of c s s.snap.list)
