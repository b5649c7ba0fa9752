-- The records of opening, and of a commit.
use Rattle.std.specs.Prelude.{ℕ, List, [], ◌∷◌, ◌++◌}
use Rattle.byteorder.specs.Endian.{big_bytes}
use Rattle.clone_contents.specs.declared.TheConstants.{SYSTEM_PAGES}
use Rattle.clone_page.specs.Dictionary.{position_at}
use Rattle.clone_page.specs.declared.kind.PageKind.TheVariants.{System}
use Rattle.clone_mtr.specs.declared.record.Record.{Record}
use Rattle.clone_mtr.specs.declared.record.Record.TheVariants.{Init, Write, Create}
use Rattle.clone_undo.specs.Changes.{records_of_end}

-- the pages of the system space: the system page, and four for each undo slot
abbrev pub system_size : ℕ
system_size = SYSTEM_PAGES

-- opening makes the system space and its first page
abbrev pub opening_records : List Record
opening_records = Create 0 system_size ∷ Init 0 0 System ∷ []

-- the number of commits is written
abbrev pub position_record : ℕ → Record
position_record position = Write 0 0 record { offset = position_at; bytes = big_bytes 8 position }

-- a transaction commits: its undo slot is free, and the number of commits is this
abbrev pub commit_records : ℕ → ℕ → List Record
commit_records s position = records_of_end s ++ position_record position ∷ []
