-- The codes of frames, and bytes that are those of one frame or none.
use Rattle.std.proofs.Common.{ℕ, ◌≡◌, ◌⊎◌, ◌∙◌, ◌<◌, ◌^◌, ◌==◌, Bool, true, false, [], ◌∷◌, ◌++◌, inl, inr, refl, sym, ap, subst}
use Rattle.clone_chunk.specs.declared.copy_stage.CopyStage.{CopyStage}
use Rattle.clone_chunk.specs.declared.copy_stage.CopyStage.TheVariants.{PageCopy}
use Rattle.clone_wire.specs.Spelling.{code_of, spelling}
use Rattle.clone_wire.specs.declared.frame.Frame.{Frame}
use Rattle.clone_wire.specs.declared.frame.Frame.TheVariants.{Init, Attach, Reinit, Reinit2, Execute, Ack, Exit, Stage, Pages, Redo, End, Refused}
use Rattle.clone_wire.specs.declared.frame.Side.{Side}
use Rattle.clone_wire.specs.declared.frame.Side.TheVariants.{Command}
use Rattle.clone_stream.specs.Streams.{IsFrameOf}
use Rattle.clone_stream.proofs.Orders.{same_front}
use Rattle.clone_tasks.specs.Sending.{IsFirst, Opens, Reattaches}
use Rattle.clone_tasks.specs.Tables.{Table}
use Rattle.clone_tasks.specs.declared.standing.Phase.{Phase}
use Rattle.clone_tasks.specs.declared.standing.Phase.TheVariants.{Opening, Copying, Done}
use Rattle.clone_reading.specs.Reading.{AreSpelled, Bytes, has_code, if_any}

-- ---- codes

pub code_is : (code : ℕ) (next : Frame) → has_code code (spelling next) ≡ (code_of next == code)
unfolding spelling
code_is code (Init attempt version size compressed tasks) = refl
code_is code (Attach attempt task) = refl
code_is code (Reinit attempt stage finished) = refl
code_is code (Reinit2 attempt stage taken) = refl
code_is code (Execute stage) = refl
code_is code (Ack stage floor) = refl
code_is code Exit = refl
code_is code (Stage attempt plan) = refl
code_is code (Pages attempt stage chunk block pages) = refl
code_is code (Redo attempt chunk block from bytes) = refl
code_is code (End attempt stage) = refl
code_is code (Refused cause) = refl

-- of bytes that were put out
pub code_in : (code : ℕ) (bytes : Bytes) (next : Frame) → bytes ≡ spelling next → has_code code bytes ≡ (code_of next == code)
code_in code bytes next is = ap (has_code code) is ∙ code_is code next

-- the frame is neither an acknowledgement nor EXIT
abbrev pub IsNeitherAckNorExit : Frame → Type 0
IsNeitherAckNorExit next = ((code_of next == 5) ≡ false) × ((code_of next == 6) ≡ false)

-- the first command of a task is neither
pub first_is_neither : (first : Bool) (t : Table) (task : ℕ) (next : Frame) → IsFirst first t task next → IsNeitherAckNorExit next
first_is_neither true t task next is = at t.phase is
  where
    comes_back : (old : Bool) (stage : CopyStage) → Reattaches old stage t next → IsNeitherAckNorExit next
    comes_back true stage is = subst IsNeitherAckNorExit (sym is.1) (refl, refl)
    comes_back false stage is = subst IsNeitherAckNorExit (sym is.1) (refl, refl)

    at : (phase : Phase) → Opens phase t next → IsNeitherAckNorExit next
    at Opening is = subst IsNeitherAckNorExit (sym is) (refl, refl)
    at (Copying stage) is = comes_back (t.version == 1) stage is
    at Done is = subst IsNeitherAckNorExit (sym is) (refl, refl)
first_is_neither false t task next is = subst IsNeitherAckNorExit (sym is) (refl, refl)

-- ---- one frame or none

-- no bytes, or those of a frame of this side
abbrev pub IsOne : Side → Bytes → Type 0
IsOne side bytes = (bytes ≡ []) ⊎ ((next : Frame) × IsFrameOf side next × (bytes ≡ spelling next))

pub any_spelled : (side : Side) (bytes : Bytes) → IsOne side bytes → AreSpelled side (if_any bytes)
any_spelled side [] one = tt
any_spelled side (byte ∷ bytes) (inl none) = absurd cc
any_spelled side (byte ∷ bytes) (inr one) = (one, tt)

-- an acknowledgement of the copy of pages is told by its bytes
pub same_ack : (floor : ℕ) (next : Frame) → floor < 2 ^ 64 → IsFrameOf Command next → spelling next ≡ spelling (Ack PageCopy floor) → next ≡ Ack PageCopy floor
same_ack floor next low of is =
    (same_front Command next (Ack PageCopy floor) [] [] of (record { is = low; sender = refl }) (ap (λ (bytes : Bytes). bytes ++ []) is)).0
