-- A walk along a chain, between one page and the next.
use Rattle.std.specs.Prelude.{ℕ, ◌<◌, ◌-◌, List, None, Some, IsTrue, IfSome, Result, Ok}
use Rattle.std.specs.declared.option.Option.{Option}
use Rattle.clone_contents.specs.Contents.{contents_of}
use Rattle.clone_pool.specs.declared.frame.Frame.{Frame}
use Rattle.clone_buffer.specs.Buffered.{Buffered, image_of}
use Rattle.clone_plain.specs.declared.refusal.EngineRefusal.{EngineRefusal}
use Rattle.clone_trx.specs.declared.walk.Course.{Course}
use Rattle.clone_trx.specs.declared.walk.Spot.{Spot}
use Rattle.clone_trx.specs.declared.walk.Step.{Step}
use Rattle.clone_trx.specs.declared.walk.Step.TheVariants.{Ends, GoesOn}
use Rattle.clone_trx.specs.Kept.{Has}
use Rattle.clone_trx.specs.Sound.{HasChain}
use Rattle.clone_trx.specs.Ways.{PinsAtMost, Walks, chain_page}

-- the page that was kept, if one was, is held
abbrev pub IsKeptHeld : Course → Option Spot → List Frame → Type 0
IsKeptHeld course kept frames =
    IfSome kept (λ spot. Has (chain_page course spot.page) spot.at frames)

-- how many pins a walk has between two pages
abbrev pub pins_of : Option Spot → ℕ
pins_of None = 0
pins_of (Some spot) = 1

-- A walk may go on at a page: only the page that was kept is pinned, and where all that was read is
-- right, a chain begins at the page.
pub record MayGoOn (course : Course) (page : ℕ) (kept : Option Spot) (b : Buffered) : Type 0 where
  pub pins : PinsAtMost (pins_of kept) b.pool.frames
  pub held : IsKeptHeld course kept b.pool.frames
  pub chain : IsTrue b.right → HasChain (contents_of (image_of b)) course.table page

-- What comes behind a page of a walk: the end of the walk, or another page, from where the walk
-- comes to what it comes to from here.
abbrev pub Follows : Course → ℕ → ℕ → Option Spot → Buffered → Buffered → Step → Type 0
Follows course left page kept old new (Ends spot) =
    Walks course left page kept old new (Ok spot)
    × Has (chain_page course spot.page) spot.at new.pool.frames
Follows course left page kept old new (GoesOn next spot) =
    (0 < left) × MayGoOn course next spot new
    × ((last : Buffered) (result : Result Spot EngineRefusal)
    → Walks course (left - 1) next spot new last result
    → Walks course left page kept old last result)
