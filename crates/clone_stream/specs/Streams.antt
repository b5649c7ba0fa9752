-- Frames one after the other, as bytes, and what was taken of them.
use Rattle.std.specs.Prelude.{ℕ, ◌≡◌, ◌≤◌, List, [], ◌∷◌, ◌++◌, length, take, drop, ⊤}
use Rattle.std.specs.Prelude.{Result, Ok, Err}
use mathlib.Core.List.{IsPrefix}
use Rattle.clone_wire.specs.declared.frame.Side.{Side}
use Rattle.clone_wire.specs.declared.frame.Frame.{Frame}
use Rattle.clone_wire.specs.declared.fault.WireRefusal.{WireRefusal}
use Rattle.clone_wire.specs.declared.fault.WireRefusal.TheVariants.{NotYet, Garbled, NoMemory}
use Rattle.clone_wire.specs.Ranges.{IsFrame}
use Rattle.clone_wire.specs.Spelling.{side_of, spelling}

-- the spellings of frames, one after the other
abbrev pub spellings : List Frame → List ℕ
spellings [] = []
spellings (frame ∷ frames) = spelling frame ++ spellings frames

-- a frame that this side may send
pub record IsFrameOf (side : Side) (frame : Frame) : Type 0 where
  pub is : IsFrame frame
  pub sender : side_of frame ≡ side

abbrev pub AreFramesOf : Side → List Frame → Type 0
AreFramesOf side [] = ⊤
AreFramesOf side (frame ∷ frames) = IsFrameOf side frame × AreFramesOf side frames

-- the bytes are a front of these frames' spellings, one after the other
abbrev pub AreFrontOf : List ℕ → List Frame → Type 0
AreFrontOf bytes frames = IsPrefix bytes (spellings frames)

-- What was taken begins what was sent, and what is left of the bytes begins what comes next.
pub record IsTakenOf (sent taken : List Frame) (left : List ℕ) : Type 0 where
  pub next : List Frame
  pub order : sent ≡ taken ++ next
  pub front : AreFrontOf left next

-- less than the next frame
abbrev pub IsPartOf : List ℕ → List Frame → Type 0
IsPartOf bytes [] = bytes ≡ []
IsPartOf bytes (frame ∷ frames) =
    (more : List ℕ) × (1 ≤ length more) × (bytes ++ more ≡ spelling frame)

-- what reading answers of a front of these frames: the next one, or that more is needed
abbrev pub ReadsNext : List Frame → List ℕ → Result (Frame × ℕ) WireRefusal → Type 0
ReadsNext [] bytes (Ok found) = ⊥
ReadsNext (frame ∷ frames) bytes (Ok found) =
    (found.0 ≡ frame) × (take found.1 bytes ≡ spelling frame)
    × AreFrontOf (drop found.1 bytes) frames
ReadsNext frames bytes (Err (NotYet need)) = IsPartOf bytes frames
ReadsNext frames bytes (Err (Garbled at)) = ⊥
ReadsNext frames bytes (Err NoMemory) = ⊤
