-- What contracts see of streams of the system: their bytes where std says them. Of the program's
-- own streams it says nothing.
use Rattle.std.specs.Prelude.{ℕ, List}
use Rattle.std.specs.declared.option.Option.{Option}
use Rattle.std.specs.Io.KnownBytes.{append_known}

-- the bytes that are left of a source, and how often it failed
pub record SourceModel : Type 0 where
  pub left : Option (List ℕ)
  pub faults : ℕ

-- the bytes that went out, those that wait in the buffer, and how often a write failed
pub record SinkModel : Type 0 where
  pub out : Option (List ℕ)
  pub waiting : List ℕ
  pub faults : ℕ

-- all bytes that a sink took
abbrev pub taken_by : SinkModel → Option (List ℕ)
taken_by s = append_known s.out s.waiting
