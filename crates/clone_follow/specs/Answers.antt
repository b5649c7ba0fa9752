-- What the decoder answers.
use Rattle.std.specs.Prelude.{ℕ, ◌≡◌, ◌⊎◌, ◌<◌, ◌≤◌, List, [], ◌++◌, length, take, Result, Ok}
use Rattle.std.specs.Prelude.{Err, ⊤}
use Rattle.clone_bytes.specs.Fields.{IsBytes}
use Rattle.clone_follow.specs.declared.frame.FollowFrame.{FollowFrame}
use Rattle.clone_follow.specs.declared.fault.Fault.{Fault}
use Rattle.clone_follow.specs.declared.fault.Fault.TheVariants as fault
use Rattle.clone_follow.specs.declared.fault.FrameRefusal.{FrameRefusal}
use Rattle.clone_follow.specs.declared.fault.FrameRefusal.TheVariants.{NotYet, Garbled, NoMemory}
use Rattle.clone_follow.specs.Reading.{frame_at}

-- The grammar: these bytes are the spelling of this frame.
pub record Spells (bytes : List ℕ) (frame : FollowFrame) : Type 0 where
  pub bytes_fit : IsBytes bytes
  pub fields : frame_at bytes ≡ Ok (frame, [])

-- no front of the bytes is the spelling of a frame
abbrev pub BeginsNone : List ℕ → Type 0
BeginsNone bytes =
    (front rest : List ℕ) (frame : FollowFrame) → bytes ≡ front ++ rest → Spells front frame → ⊥

-- further bytes, one or more, make the spelling of a frame, which has so many bytes
pub record IsFront (bytes : List ℕ) (long : ℕ) : Type 0 where
  pub more : List ℕ
  pub frame : FollowFrame
  pub some : 1 ≤ length more
  pub spelled : Spells (bytes ++ more) frame
  pub whole : length (bytes ++ more) ≡ long

-- whatever follows the bytes, no front of all that is the spelling of a frame
abbrev pub IsLost : List ℕ → Type 0
IsLost bytes = (more : List ℕ) → IsBytes more → BeginsNone (bytes ++ more)

-- How many bytes are needed is the length of the frame, or 5 where that isn't known yet, since
-- fewer than 5 are there.
abbrev pub Needs : List ℕ → ℕ → Type 0
Needs bytes need =
    ((5 ≤ length bytes) × IsFront bytes need)
    ⊎ ((length bytes < 5) × (need ≡ 5) × ((long : ℕ) × IsFront bytes long))

-- The fields up to this offset are whole and those of a frame, and the bytes of the next field
-- begin nothing that a frame has there.
pub record StopsAt (bytes : List ℕ) (at : ℕ) : Type 0 where
  pub within : at < length bytes
  pub before : (long : ℕ) × IsFront (take at bytes) long
  pub stops : frame_at bytes ≡ Err (fault.Garbled at)

-- The frame whose spelling is at the front, and the length of that front. A refusal other than
-- `NoMemory` comes only where no front is one: `NotYet` exactly where further bytes would make one,
-- and `Garbled` exactly where none could.
abbrev pub Decodes : List ℕ → Result (FollowFrame × ℕ) FrameRefusal → Type 0
Decodes bytes (Ok found) = Spells (take found.1 bytes) found.0 × (found.1 ≤ length bytes)
Decodes bytes (Err (NotYet need)) = BeginsNone bytes × Needs bytes need
Decodes bytes (Err (Garbled at)) = IsLost bytes × StopsAt bytes at
Decodes bytes (Err NoMemory) = ⊤

-- the refusal of a fault where the frame has so many bytes
abbrev pub refusal_of : Fault → ℕ → FrameRefusal
refusal_of fault.Short need = NotYet need
refusal_of (fault.Garbled at) need = Garbled at
refusal_of fault.NoMemory need = NoMemory
