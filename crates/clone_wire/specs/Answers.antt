-- What the decoder answers.
use Rattle.std.specs.Prelude.{ℕ, ◌≡◌, ◌⊎◌, ◌<◌, ◌≤◌, List, [], ◌++◌, length, take, drop, Result, Ok}
use Rattle.std.specs.Prelude.{Err, ⊤}
use Rattle.clone_bytes.specs.Fields.{IsBytes}
use Rattle.clone_wire.specs.declared.frame.Side.{Side}
use Rattle.clone_wire.specs.declared.frame.Frame.{Frame}
use Rattle.clone_wire.specs.declared.fault.Fault.{Fault}
use Rattle.clone_wire.specs.declared.fault.Fault.TheVariants as fault
use Rattle.clone_wire.specs.declared.fault.WireRefusal.{WireRefusal}
use Rattle.clone_wire.specs.declared.fault.WireRefusal.TheVariants.{NotYet, Garbled, NoMemory}
use Rattle.clone_wire.specs.declared.fault.HeadRefusal.{HeadRefusal}
use Rattle.clone_wire.specs.declared.fault.HeadRefusal.TheVariants as head
use Rattle.clone_wire.specs.Reading.{head_at, frame_at}

-- The grammar: these bytes are the spelling of this frame of this side.
pub record Spells (side : Side) (bytes : List ℕ) (frame : Frame) : Type 0 where
  pub bytes_fit : IsBytes bytes
  pub fields : frame_at side bytes ≡ Ok (frame, [])

-- no front of the bytes is the spelling of a frame
abbrev pub BeginsNone : Side → List ℕ → Type 0
BeginsNone side bytes =
    (front rest : List ℕ) (frame : Frame) → bytes ≡ front ++ rest → Spells side front frame → ⊥

-- further bytes, one or more, make the spelling of a frame, which has so many bytes
pub record IsFront (side : Side) (bytes : List ℕ) (long : ℕ) : Type 0 where
  pub more : List ℕ
  pub frame : Frame
  pub some : 1 ≤ length more
  pub spelled : Spells side (bytes ++ more) frame
  pub whole : length (bytes ++ more) ≡ long

-- whatever follows the bytes, no front of all that is the spelling of a frame
abbrev pub IsLost : Side → List ℕ → Type 0
IsLost side bytes = (more : List ℕ) → IsBytes more → BeginsNone side (bytes ++ more)

-- How many bytes are needed is the length of the frame, or 5 where that isn't known yet, since
-- fewer than 5 are there.
abbrev pub Needs : Side → List ℕ → ℕ → Type 0
Needs side bytes need =
    ((5 ≤ length bytes) × IsFront side bytes need)
    ⊎ ((length bytes < 5) × (need ≡ 5) × ((long : ℕ) × IsFront side bytes long))

-- The fields up to this offset are whole and those of a frame, and the bytes of the next field
-- begin nothing that a frame has there.
pub record StopsAt (side : Side) (bytes : List ℕ) (at : ℕ) : Type 0 where
  pub within : at < length bytes
  pub before : (long : ℕ) × IsFront side (take at bytes) long
  pub stops : frame_at side bytes ≡ Err (fault.Garbled at)

-- The frame whose spelling is at the front, and the length of that front. A refusal other than
-- `NoMemory` comes only where no front is one: `NotYet` exactly where further bytes would make one,
-- and `Garbled` exactly where none could.
abbrev pub Decodes : Side → List ℕ → Result (Frame × ℕ) WireRefusal → Type 0
Decodes side bytes (Ok found) = Spells side (take found.1 bytes) found.0 × (found.1 ≤ length bytes)
Decodes side bytes (Err (NotYet need)) = BeginsNone side bytes × Needs side bytes need
Decodes side bytes (Err (Garbled at)) = IsLost side bytes × StopsAt side bytes at
Decodes side bytes (Err NoMemory) = ⊤

-- the refusal of a fault where the frame has so many bytes
abbrev pub refusal_of : Fault → ℕ → WireRefusal
refusal_of fault.Short need = NotYet need
refusal_of (fault.Garbled at) need = Garbled at
refusal_of fault.NoMemory need = NoMemory

-- A code and a length, as reading gives them. Five bytes are needed for them.
abbrev pub ReadsHead : Side → List ℕ → Result (ℕ × ℕ) HeadRefusal → Type 0
ReadsHead side bytes (Ok found) = head_at side bytes ≡ Ok (found, drop 5 bytes)
ReadsHead side bytes (Err (head.NotYet need)) = (need ≡ 5) × (head_at side bytes ≡ Err fault.Short)
ReadsHead side bytes (Err (head.Garbled at)) = head_at side bytes ≡ Err (fault.Garbled at)
