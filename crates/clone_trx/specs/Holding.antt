-- The pages that a call holds, and how far it has come on its way.
use Rattle.std.specs.Prelude.{ℕ, ◌≡◌, ◌+◌, ◌==◌, List, [], ◌∷◌, IsTrue, Ok, Err, if◌then◌else◌}
use Rattle.std.specs.declared.option.Option.{Option}
use Rattle.clone_mtr.specs.declared.record.Record.{Record}
use Rattle.clone_pool.specs.declared.frame.Frame.{Frame}
use Rattle.clone_pool.specs.declared.frame.PageName.{PageName}
use Rattle.clone_pool.specs.Frames.{frame_at}
use Rattle.clone_buffer.specs.Buffered.{Buffered, image_of}
use Rattle.clone_buffer.specs.Writing.{written}
use Rattle.clone_plain.specs.Donor.{Donor}
use Rattle.clone_plain.specs.declared.refusal.Cause.{Cause}
use Rattle.clone_plain.specs.declared.refusal.EngineRefusal.{EngineRefusal}
use Rattle.clone_plain.specs.declared.refusal.EngineRefusal.TheVariants.{Because}
use Rattle.clone_trx.specs.declared.walk.Course.{Course}
use Rattle.clone_trx.specs.declared.walk.Spot.{Spot}
use Rattle.clone_trx.specs.Kept.{Has, Keeps, KeptBetween}
use Rattle.clone_trx.specs.Sound.{IsKept}
use Rattle.clone_trx.specs.Ways.{Way, reads, walks, freshens, lengthens, Goes, HasRoom, Holds, Takes, WalksAll, let_go, page_in}

-- a pin that one frame has, by the number of another
abbrev pub pin_at : ℕ → ℕ → ℕ
pin_at at other = if at == other then 1 else 0

-- how often a frame is held, where these are
abbrev pub times : List ℕ → ℕ → ℕ
times [] other = 0
times (at ∷ held) other = times held other + pin_at at other

-- each frame is pinned as often as it is held
abbrev pub ArePinned : List ℕ → List Frame → Type 0
ArePinned held frames = (other : ℕ) → (frame_at frames other).pins ≡ times held other

-- the frames that were held are let go, from the first of the list on
abbrev pub released : List ℕ → Buffered → Buffered
released [] b = b
released (at ∷ held) b = released held (let_go at b)

-- A call comes from the first buffer to another one on its way: it holds these frames, the last one
-- first, and this is left of the way.
pub data Comes (first : Buffered) (way : Way) : List ℕ → Way → Buffered → Type 0 where
  -- it starts
  starts : Comes first way [] way first
  -- it has held a page more
  reads_on : (held : List ℕ) (page : PageName) (rest : List ℕ → Way) (at : ℕ) (old new : Buffered)
      → Comes first way held (reads page rest) old → Holds page at old new
      → Comes first way (at ∷ held) (rest (page_in at new)) new
  -- it has walked to a spot, whose page it holds
  walks_on : (course : Course) (rest : ℕ → Option ℕ → List ℕ → Way) (spot : Spot)
      (old new : Buffered)
      → Comes first way [] (walks course rest) old → WalksAll course old new (Ok spot)
      → Comes first way (spot.at ∷ []) (rest spot.page spot.slot (page_in spot.at new)) new
  -- it holds a new page
  freshens_on : (held : List ℕ) (page : PageName) (rest : Way) (at : ℕ) (old new : Buffered)
      → Comes first way held (freshens page rest) old → Takes page at old new
      → Comes first way (at ∷ held) rest new
  -- it has written the mini-transaction that makes a space longer
  lengthens_on : (held : List ℕ) (records : List Record) (rest : Way) (old : Buffered)
      → Comes first way held (lengthens records rest) old → HasRoom records old
      → Comes first way held rest (written records old)

-- a call: what the donor is before it, the way that it goes, and the buffer that it is given
pub record Call : Type 0 where
  pub donor : Donor
  pub way : Way
  pub first : Buffered

-- A CALL HAS COME SO FAR. Nothing but what it holds is pinned, and where each page that was read
-- was right, the image keeps what the donor is, as it did between the mini-transactions.
pub record HasCome (call : Call) (held : List ℕ) (left : Way) (b : Buffered) : Type 0 where
  pub comes : Comes call.first call.way held left b
  pub pins : ArePinned held b.pool.frames
  pub kept : IsTrue b.right → IsKept call.donor (image_of b)
  pub between : KeptBetween call.donor call.first b

-- A call was refused on its way. It holds no page any more, and the donor is as before.
pub record IsRefused (call : Call) (new : Buffered) (refusal : EngineRefusal) : Type 0 where
  pub cause : Cause
  pub because : refusal ≡ Because cause
  pub goes : Goes {X = Unit {0}} call.way call.first new (Err (Because cause))
  pub keeps : Keeps call.donor new
  pub between : KeptBetween call.donor call.first new

-- A page more is held. The log stays, and each page that was held is held still.
pub record HoldsMore (page : PageName) (at : ℕ) (old new : Buffered) : Type 0 where
  pub has : Has page at new.pool.frames
  pub log : new.log ≡ old.log
  pub before : IsTrue new.right → IsTrue old.right
  pub still : (other : PageName) (b : ℕ) → Has other b old.pool.frames
      → Has other b new.pool.frames
