-- A frame is taken from the bytes that have come.
use Rattle.std.specs.Prelude.{ℕ, ◌≡◌, ◌+◌, List, ◌++◌, length, min, take, None, Some}
use Rattle.std.specs.Prelude.{Result, Ok, Err}
use Rattle.std.specs.declared.option.Option.{Option}
use Rattle.clone_wire.specs.declared.frame.Side.{Side}
use Rattle.clone_wire.specs.declared.frame.Frame.{Frame}
use Rattle.clone_wire.specs.declared.fault.HeadRefusal.{HeadRefusal}
use Rattle.clone_wire.specs.declared.limits.TheConstants.{HEAD_BYTES}
use Rattle.clone_wire.specs.Answers.{BeginsNone, IsFront, IsLost, ReadsHead}
use Rattle.clone_wire.specs.Spelling.{spelling}
use Rattle.clone_stream.specs.declared.taking.TheConstants.{MOST_KEPT}
use Rattle.clone_stream.specs.declared.taking.StreamRefusal.{StreamRefusal}
use Rattle.clone_stream.specs.declared.taking.StreamRefusal.TheVariants.{Garbled, NoMemory}
use Rattle.clone_stream.specs.Streams.{IsFrameOf}

-- A frame ends by its length where its code and length are those of one. Else it ends nowhere.
abbrev pub end_by : Result (ℕ × ℕ) HeadRefusal → ℕ → ℕ
end_by (Ok head) all = min (HEAD_BYTES + head.1) all
end_by (Err refusal) all = all

-- the frame at the front of the bytes ends there, or they do
abbrev pub EndsAt : Side → List ℕ → ℕ → Type 0
EndsAt side bytes end =
    (head : Result (ℕ × ℕ) HeadRefusal) × ReadsHead side bytes head
    × (end ≡ end_by head (length bytes))

-- what is kept of bytes that are garbled: the first of them, up to 16, within the frame
abbrev pub IsKept : Side → List ℕ → List ℕ → Type 0
IsKept side bytes kept =
    (end : ℕ) × EndsAt side bytes end × (kept ≡ take (min MOST_KEPT end) bytes)

-- the bytes begin a frame of which more is to come
abbrev pub IsPartial : Side → List ℕ → Type 0
IsPartial side bytes = BeginsNone side bytes × ((long : ℕ) × IsFront side bytes long)

-- A frame is taken from the front, or none is there yet. Nothing is taken after a refusal; garbled
-- are bytes that no further ones would make a frame.
abbrev pub Takes : Side → List ℕ → List ℕ → Result (Option Frame) StreamRefusal → Type 0
Takes side old new (Ok (Some frame)) = IsFrameOf side frame × (old ≡ spelling frame ++ new)
Takes side old new (Ok None) = IsPartial side old × (new ≡ old)
Takes side old new (Err Garbled) = IsLost side old × (new ≡ old)
Takes side old new (Err NoMemory) = new ≡ old
