-- A disk that holds a clone, recovered or not.
use Rattle.std.specs.Prelude.{ℕ, ◌≡◌, ◌⊎◌, ◌^◌, ◌<◌}
use Rattle.clone_model.specs.History.{Rows}
use Rattle.clone_outside.specs.Disk.{DiskImage}
use Rattle.clone_outside.specs.Mark.{IsEnd}
use Rattle.clone_outside.specs.declared.mark.CloneEnd.{CloneEnd}
use Rattle.clone_outside.specs.declared.mark.Mark.TheVariants as mark
use Rattle.clone_image.specs.Image.{page_of}
use Rattle.clone_image.specs.Rows.{HasRows}
use Rattle.clone_overlay.specs.Images.{image_of, IsQuiet}
use Rattle.clone_recover.specs.Restores.{Answers, HasMark, IsCause, numbers_of}
use Rattle.clone_recover.specs.declared.recovery.Recovered.{Recovered}
use Rattle.clone_recover.specs.declared.refusal.Why.{Why}
use Rattle.clone_recover.specs.declared.refusal.RecoverRefusal.TheVariants.{Incomplete, Damaged}

-- the mark of a clone that is complete, or of one that was recovered
abbrev pub IsEndMark : DiskImage → CloneEnd → Type 0
IsEndMark m end = HasMark m (mark.Complete end) ⊎ HasMark m (mark.Recovered end)

-- the end of the clone on a disk, after so many commits
pub record EndsAt (m : DiskImage) (position : ℕ) : Type 0 where
  pub end : CloneEnd
  pub ranges : IsEnd end
  pub after : end.position ≡ position
  pub mark : IsEndMark m end

-- A disk that recovery left: no page is being written, its rows are these, and its recovered mark
-- has the numbers that recovery gave.
pub record IsLeftBy (n : DiskImage) (numbers : Recovered) (rows : Rows)
    (position : ℕ) : Type 0 where
  pub quiet : IsQuiet n
  pub has : HasRows (page_of (image_of n)) rows
  pub after : numbers.position ≡ position
  pub end : CloneEnd
  pub ranges : IsEnd end
  pub mark : HasMark n (mark.Recovered end)
  pub told : numbers ≡ numbers_of end

-- The disk holds a clone of these rows, after so many commits: whenever it is recovered, it has
-- these rows, and it is never found damaged or incomplete. A position has 64 bits.
pub record HoldsCopy (m : DiskImage) (rows : Rows) (position : ℕ) : Type 0 where
  pub marked : EndsAt m position
  pub recovers : (n : DiskImage) (numbers : Recovered) → numbers.position < 2 ^ 64
      → Answers m n numbers → IsLeftBy n numbers rows position
  pub sound : (space page : ℕ) (why : Why) → IsCause m (Damaged space page why) → ⊥
  pub complete : IsCause m Incomplete → ⊥
