-- The one spelling of each record, and of each mini-transaction. Numbers are big-endian.
use Rattle.std.specs.Prelude.{ℕ, ◌≡◌, ◌≤◌, List, [], ◌∷◌, ◌++◌, length}
use Rattle.std.specs.List.{flat_map}
use Rattle.byteorder.specs.Endian.{big_bytes}
use Rattle.clone_page.specs.Kinds.{kind_number}
use Rattle.clone_mtr.specs.Records.{IsMtr}
use Rattle.clone_mtr.specs.declared.record.Record.{Record}
use Rattle.clone_mtr.specs.declared.record.Record.TheVariants.{Init, Write, Extend, Create, Drop}
use Rattle.clone_mtr.specs.declared.writing.TheConstants.{LONGEST_MTR}

abbrev pub record_spelling : Record → List ℕ
record_spelling (Init space page kind) =
    1 ∷ (big_bytes 4 space ++ (big_bytes 4 page ++ big_bytes 2 (kind_number kind)))
record_spelling (Write space page patch) =
    2 ∷ (big_bytes 4 space ++ (big_bytes 4 page
    ++ (big_bytes 2 patch.offset ++ (big_bytes 2 (length patch.bytes) ++ patch.bytes))))
record_spelling (Extend space pages) = 3 ∷ (big_bytes 4 space ++ big_bytes 4 pages)
record_spelling (Create space pages) = 4 ∷ (big_bytes 4 space ++ big_bytes 4 pages)
record_spelling (Drop space) = 5 ∷ big_bytes 4 space

-- the records in their order, and then an end mark
abbrev pub spelling : List Record → List ℕ
spelling [] = 6 ∷ []
spelling (r ∷ rs) = record_spelling r ++ spelling rs

abbrev pub longest : ℕ
longest = LONGEST_MTR

-- The grammar: these bytes are the spelling of this mini-transaction.
pub record Spells (bytes : List ℕ) (records : List Record) : Type 0 where
  pub mtr : IsMtr records
  pub text : bytes ≡ spelling records
  pub short : length bytes ≤ longest

-- the spellings of mini-transactions, one after the other
abbrev pub log_of : List (List Record) → List ℕ
log_of mtrs = flat_map spelling mtrs
