-- The records whose spellings stand one behind the other.
use Rattle.std.specs.Prelude.{ℕ, zero, suc, ◌≡◌, ◌<◌, List, [], ◌∷◌, length, None, Some, Ok, Err, Result}
use Rattle.std.specs.declared.option.Option.{Option}
use Rattle.std.specs.List.{flat_map, AllByRecursion}
use Rattle.clone_mtr.specs.Records.{IsRecord}
use Rattle.clone_mtr.specs.Spelling.{record_spelling, longest}
use Rattle.clone_mtr.specs.Reading.{item_at}
use Rattle.clone_mtr.specs.declared.record.Record.{Record}
use Rattle.clone_mtr.specs.declared.refusal.DecodeRefusal.{DecodeRefusal}

-- the record that was read, and those of the bytes behind it
abbrev pub and_behind : (List ℕ → List Record) → Result (Option Record × List ℕ) DecodeRefusal
    → List Record
and_behind more (Ok (Some r, rest)) = r ∷ more rest
and_behind more (Ok (None, rest)) = []
and_behind more (Err e) = []

-- the records at the front, so many at most
abbrev pub first_records : ℕ → List ℕ → List Record
first_records zero bytes = []
first_records (suc n) bytes = and_behind (first_records n) (item_at 0 bytes)

-- all records at the front
abbrev pub records_of : List ℕ → List Record
records_of bytes = first_records (length bytes) bytes

-- the bytes are the spellings of their records, which leave room for an end mark
pub record AreRecords (bytes : List ℕ) : Type 0 where
  pub each : AllByRecursion IsRecord (records_of bytes)
  pub text : bytes ≡ flat_map record_spelling (records_of bytes)
  pub short : length bytes < longest
