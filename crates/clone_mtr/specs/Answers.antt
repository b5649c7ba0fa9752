-- What the encoder and the decoder answer.
use Rattle.std.specs.Prelude.{ℕ, ◌∷◌, ◌⊎◌, ◌≡◌, ◌<◌, ◌≤◌, ◌+◌, ◌++◌, List, [], take, drop, length, min, ◌-◌, ◌^◌, Result, Ok, Err, None, Some, Vec, ⊤}
use Rattle.std.specs.declared.alloc.Global.{Global}
use Rattle.clone_mtr.specs.declared.record.Record.{Record}
use Rattle.clone_mtr.specs.declared.reference.RecordRef.{RecordRef}
use Rattle.clone_mtr.specs.declared.refusal.EncodeRefusal.{EncodeRefusal}
use Rattle.clone_mtr.specs.declared.refusal.EncodeRefusal.TheVariants as encode
use Rattle.clone_mtr.specs.declared.refusal.TooLong.{TooLong}
use Rattle.clone_mtr.specs.declared.refusal.DecodeRefusal.{DecodeRefusal}
use Rattle.clone_mtr.specs.declared.refusal.DecodeRefusal.TheVariants as decode
use Rattle.std.specs.declared.option.Option.{Option}
use Rattle.std.specs.List.{flat_map, AllByRecursion}
use Rattle.clone_mtr.specs.Records.{IsRecord}
use Rattle.clone_mtr.specs.References.{record_of}
use Rattle.clone_mtr.specs.Spelling.{record_spelling, Spells, longest}
use Rattle.clone_mtr.specs.Reading.{item_at}

-- the text, unless it is too long or memory runs out
abbrev pub Encodes : List ℕ → Result (Vec ℕ Global) EncodeRefusal → Type 0
Encodes text (Ok v) = (v.items ≡ text) × (length text ≤ longest)
Encodes text (Err (encode.TooLong n)) = (n ≡ length text) × (longest < n)
Encodes text (Err encode.NoMemory) = ⊤

-- the text at the front of the bytes, unless it is too long. All other bytes are as they were.
abbrev pub EncodesInto : List ℕ → List ℕ → List ℕ → Result ℕ TooLong → Type 0
EncodesInto text old new (Ok n) = (n ≡ length text) × (n ≤ longest) × (new ≡ text ++ drop n old)
EncodesInto text old new (Err refusal) =
    (refusal.length ≡ min (length text) (2 ^ 64 - 1)) × (longest < length text) × (new ≡ old)

-- no front of the bytes is the spelling of a mini-transaction
abbrev pub BeginsNone : List ℕ → Type 0
BeginsNone bytes =
    (front rest : List ℕ) (records : List Record) → bytes ≡ front ++ rest → Spells front records → ⊥

-- further bytes, at least one, make the spelling of a mini-transaction of these
abbrev pub IsFront : List ℕ → Type 0
IsFront bytes =
    (more : List ℕ)
    × ((records : List Record) × ((1 ≤ length more) × Spells (bytes ++ more) records))

-- whatever follows the bytes, no front of all that is the spelling of a mini-transaction
abbrev pub IsLost : List ℕ → Type 0
IsLost bytes = (more : List ℕ) → BeginsNone (bytes ++ more)

-- Whole records stand at the front, and what stands behind them, read from left to right, is
-- refused first for this cause. It is refused with the byte at an offset: the bytes before that
-- offset are the front of some spelling, and with the byte they are of none.
pub record Stops (bytes : List ℕ) (cause : DecodeRefusal) : Type 0 where
  pub records : List Record
  pub rest : List ℕ
  pub each : AllByRecursion IsRecord records
  pub parts : bytes ≡ flat_map record_spelling records ++ rest
  pub below : length (flat_map record_spelling records) < longest
  pub refused : item_at (length (flat_map record_spelling records)) rest ≡ Err cause
  pub offset : ℕ
  pub within : offset < length bytes
  pub before : IsFront (take offset bytes)
  pub with_it : IsLost (take (offset + 1) bytes)

-- The mini-transaction whose spelling is at the front, and the length of that front. A refusal
-- comes only where no front is one: `Short` exactly where further bytes would make one, and the
-- others exactly where none could, with the first cause.
abbrev pub Decodes : List ℕ → Result (List Record × ℕ) DecodeRefusal → Type 0
Decodes bytes (Ok found) = Spells (take found.1 bytes) found.0 × (found.1 ≤ length bytes)
Decodes bytes (Err decode.Short) = BeginsNone bytes × IsFront bytes
Decodes bytes (Err (decode.BadKind at)) =
    BeginsNone bytes × IsLost bytes
    × (Stops bytes (decode.BadKind at) ⊎ ((at ≡ 0) × (bytes ≡ 6 ∷ drop 1 bytes)))
Decodes bytes (Err (decode.OutOfPage at)) =
    BeginsNone bytes × IsLost bytes × Stops bytes (decode.OutOfPage at)
Decodes bytes (Err decode.TooLong) = BeginsNone bytes × IsLost bytes × Stops bytes decode.TooLong

-- the first of the records and those behind it, or none where none is left
abbrev pub IsNext : List Record → List Record → Option RecordRef → Type 0
IsNext old new None = (old ≡ []) × (new ≡ [])
IsNext old new (Some entry) = old ≡ record_of entry ∷ new
