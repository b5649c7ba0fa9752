-- What carrying out the lines of a script does: to its end, or up to a stop.
use Rattle.std.specs.Prelude.{ℕ, ◌≡◌, List, Some, slice_get, take}
use Rattle.std.specs.declared.option.Option.{Option}
use Rattle.clone_outside.specs.Bytes.{appended, TakesSome}
use Rattle.clone_model.specs.Texts.{ended, binlog_text}
use Rattle.clone_script.specs.declared.lines.Line.{Line}
use Rattle.clone_plain.specs.Answers.{Text}
use Rattle.clone_events.specs.Events.{Event}
use Rattle.clone_events.specs.Runs.{output}
use Rattle.clone_core.specs.System.{donor_of}
use Rattle.clone_core.specs.Lines.{State, Answers, BreaksOff, Runs}

-- the line was carried out, and its whole answer was written
pub record Answered (line : Line) (before after : State) (old new : Option (List ℕ)) : Type 0 where
  pub answer : Text
  pub step : Answers before line answer after
  pub out : new ≡ appended old (ended answer)

-- Memory ran out in the line, and nothing was written. Or the line was carried out, and a front of
-- its answer was written.
pub data StoppedAtLine (line : Line) (before after : State)
    (old new : Option (List ℕ)) : Type 0 where
  in_it : BreaksOff before line after → new ≡ old → StoppedAtLine line before after old new
  behind_it : (answer : Text) → Answers before line answer after → TakesSome old new (ended answer)
      → StoppedAtLine line before after old new

-- all lines were carried out, and all of their answers were written
pub record AnsweredAll (lines : List Line) (first final : State)
    (old new : Option (List ℕ)) : Type 0 where
  pub events : List (List Event)
  pub run : Runs first lines events final
  pub out : new ≡ appended old (output events)

-- nothing happened after the first lines, or memory ran out in the next one
pub data Leaves (lines : List Line) (count : ℕ) (final left : State) : Type 0 where
  behind : left ≡ final → Leaves lines count final left
  within : (line : Line) → slice_get lines count ≡ Some line → BreaksOff final line left
      → Leaves lines count final left

-- some of the lines were carried out, and a front of their answers was written
pub record AnsweredSome (lines : List Line) (first left : State)
    (old new : Option (List ℕ)) : Type 0 where
  pub events : List (List Event)
  pub final : State
  pub count : ℕ
  pub run : Runs first (take count lines) events final
  pub leaves : Leaves lines count final left
  pub out : TakesSome old new (output events)

-- all lines were carried out, and their answers and then the binlog were written
pub record Finished (lines : List Line) (first final : State)
    (out_old out_new binlog_old binlog_new : Option (List ℕ)) : Type 0 where
  pub answered : AnsweredAll lines first final out_old out_new
  pub binlog : binlog_new ≡ appended binlog_old (binlog_text (donor_of final.donor).binlog)

-- it stopped in the lines, or after them in the binlog
pub data Stopped (lines : List Line) (first left : State)
    (out_old out_new binlog_old binlog_new : Option (List ℕ)) : Type 0 where
  in_lines : AnsweredSome lines first left out_old out_new → binlog_new ≡ binlog_old
      → Stopped lines first left out_old out_new binlog_old binlog_new
  in_binlog : AnsweredAll lines first left out_old out_new
      → TakesSome binlog_old binlog_new (binlog_text (donor_of left.donor).binlog)
      → Stopped lines first left out_old out_new binlog_old binlog_new
