-- The page that a call asked of the disk in vain.
use Rattle.std.specs.Prelude.{ℕ, ◌≡◌, ◌≢◌, ◌⊎◌, List, None, Some, Err, IsSome}
use Rattle.std.specs.declared.option.Option.{Option}
use Rattle.clone_pool.specs.declared.frame.PageName.{PageName}
use Rattle.clone_pool.specs.Frames.{holder, loader}
use Rattle.clone_pool.specs.Pool.{Frames, HasVictim}
use Rattle.clone_buffer.specs.Buffered.{Buffered}
use Rattle.clone_plain.specs.declared.refusal.Cause.TheVariants.{DiskFault}
use Rattle.clone_plain.specs.declared.refusal.EngineRefusal.TheVariants.{Because}
use Rattle.clone_trx.specs.Ways.{Way, reads, walks, stops, writes, freshens, lengthens, makes, drops, ends, Goes}

-- The page was missed last. No frame holds it, and there is one that is set aside for it, or one
-- that may go.
pub record IsMissed (page : PageName) (v : Frames) : Type 0 where
  pub missed : v.missed ≡ Some page
  pub absent : holder v.frames page ≡ None
  pub room : IsSome (loader v.frames page) ⊎ HasVictim v.frames

-- a page was
abbrev pub HasMissed : Frames → Type 0
HasMissed v = (page : PageName) × IsMissed page v

-- the disk is asked for pages alone on the way, which makes no space and drops none
abbrev pub AsksForPages : Way → Type 0
AsksForPages (reads page rest) = (bytes : List ℕ) → AsksForPages (rest bytes)
AsksForPages (walks course rest) =
    (page : ℕ) (slot : Option ℕ) (bytes : List ℕ) → AsksForPages (rest page slot bytes)
AsksForPages (stops cause) = cause ≢ DiskFault
AsksForPages (writes records) = Unit {0}
AsksForPages (freshens page rest) = AsksForPages rest
AsksForPages (lengthens records rest) = AsksForPages rest
AsksForPages (makes records) = ⊥
AsksForPages (drops space pages records) = ⊥
AsksForPages ends = Unit {0}

-- a call on such a way that ends with a fault of the disk has missed a page
abbrev pub MissedLeft : Type 0
MissedLeft =
    (way : Way) (old new : Buffered) → AsksForPages way
    → Goes {X = Unit {0}} way old new (Err (Because DiskFault)) → HasMissed new.pool
