-- HOW THE RUNS OF A CLONE ARE READ: commands and answers are the bytes of frames.
use Rattle.std.specs.Prelude.{ℕ, ◌≡◌, ◌==◌, Bool, false, List, [], ◌∷◌, map, slice_get}
use Rattle.std.specs.List.{AllByRecursion}
use Rattle.std.specs.Option.{option_map_or}
use Rattle.clone_runs.specs.Clones.{Reading}
use Rattle.clone_runs.specs.Marks.{NoneIn, either}
use Rattle.clone_wire.specs.Spelling.{spelling}
use Rattle.clone_wire.specs.declared.frame.Frame.{Frame}
use Rattle.clone_wire.specs.declared.frame.Side.{Side}
use Rattle.clone_stream.specs.Streams.{IsFrameOf}
use Rattle.clone_serve.specs.Telling.{frame_for, frames_of}
use Rattle.clone_engine.specs.Acts.{Calls}
use Rattle.clone_sides.specs.Answered.{ends, opens}
use Rattle.clone_machine.specs.Running.{JobEntry}
use Rattle.clone_machine.specs.declared.calls.JobAnswer.{JobAnswer}
use Rattle.clone_machine.specs.declared.calls.JobAnswer.TheVariants as answer
use Rattle.clone_machine.specs.declared.calls.JobCall.{JobCall}
use Rattle.clone_machine.specs.declared.calls.JobCall.TheVariants as call
use Rattle.clone_desk.specs.Steps.{DeskEntry, act_of}
use Rattle.clone_copying.specs.Calls.{RecipientEntry, put_by, taken_by}

-- a frame as bytes
abbrev pub Bytes : Type 0
Bytes = List ℕ

abbrev pub as_they_are : Bytes → Bytes
as_they_are bytes = bytes

-- each is the spelling of a frame of this side
abbrev pub AreSpelled : Side → List Bytes → Type 0
AreSpelled side frames =
    AllByRecursion (λ bytes. (frame : Frame) × IsFrameOf side frame × (bytes ≡ spelling frame)) frames

-- ---- a donor's entries

-- the frame that tells the answer, if one does
abbrev pub told_by : JobCall → JobAnswer → List Bytes
told_by (call.Donor asked) (answer.Donor given) = map spelling (frames_of (frame_for asked given))
told_by asked given = []

-- the session of this number is opened, or begins again while it is open
abbrev pub is_opening : ℕ → JobCall → JobAnswer → Bool
is_opening number (call.Donor asked) (answer.Donor given) = opens number (Calls asked given)
is_opening number asked given = false

-- the session that is open ends
abbrev pub is_ending : JobCall → JobAnswer → Bool
is_ending (call.Donor asked) (answer.Donor given) = ends (Calls asked given)
is_ending asked given = false

abbrev pub told_in : JobEntry → List Bytes
told_in e = told_by e.call e.answer

abbrev pub opens_in : ℕ → JobEntry → Bool
opens_in number e = is_opening number e.call e.answer

abbrev pub leaves_in : JobEntry → Bool
leaves_in e = is_ending e.call e.answer

-- no session of this number is opened, and none is ended
abbrev pub IsQuiet : ℕ → List JobEntry → Type 0
IsQuiet number made = NoneIn (either (opens_in number) leaves_in) made

-- ---- a recipient's entries: each takes one frame at most, and puts out one at most

-- bytes, if there are any
abbrev pub if_any : Bytes → List Bytes
if_any [] = []
if_any (byte ∷ bytes) = (byte ∷ bytes) ∷ []

abbrev pub puts_in : {R : Type 0} → RecipientEntry R → List Bytes
puts_in e = if_any (put_by e.call e.answer)

abbrev pub takes_in : {R : Type 0} → RecipientEntry R → List Bytes
takes_in e = if_any (taken_by e.call e.answer)

-- ---- commands

-- the frame has this code
abbrev pub has_code : ℕ → Bytes → Bool
has_code code bytes = option_map_or (λ first. first == code) (slice_get bytes 0) false

abbrev pub is_init : Bytes → Bool
is_init bytes = has_code 1 bytes

abbrev pub is_exit : Bytes → Bool
is_exit bytes = has_code 6 bytes

-- THE READING of the runs of a clone of the session of this number
abbrev pub reading : {N L R : Type 0} → ℕ
    → Reading JobEntry (RecipientEntry R) (DeskEntry N L) Bytes Bytes
reading number = record {
  told = told_in;
  opens = opens_in number;
  leaves = leaves_in;
  puts = puts_in;
  takes = takes_in;
  act = act_of;
  inits = is_init;
  exits = is_exit;
}
