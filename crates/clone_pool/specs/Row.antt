-- Frames in the order of their ranks.
use Rattle.std.specs.Prelude.{ℕ, ◌≡◌, ◌≢◌, ◌<◌, ◌≤◌, ◌^◌, false, true, List, length, get_or}
use Rattle.clone_pool.specs.declared.frame.Frame.{Frame}
use Rattle.clone_pool.specs.declared.tournament.Rank.{Rank}
use Rattle.clone_pool.specs.declared.tournament.TheConstants.{NO_NUMBER}
use Rattle.clone_pool.specs.Frames.{frame_at, is_waiting}
use Rattle.clone_pool.specs.Tournament.{rank_at, is_before}

-- the frame takes part
abbrev pub TakesPart : List Rank → ℕ → Type 0
TakesPart ranks at = (rank_at ranks at).number < NO_NUMBER

-- the frame at a place of the row
abbrev pub frame_in : List ℕ → ℕ → ℕ
frame_in row place = get_or row place 0

-- its rank
abbrev pub rank_in : List Rank → List ℕ → ℕ → Rank
rank_in ranks row place = rank_at ranks (frame_in row place)

-- each frame that takes part is there once, and none behind one that it goes before
pub record IsRow (ranks : List Rank) (row : List ℕ) : Type 0 where
  pub part : (i : ℕ) → i < length row → TakesPart ranks (frame_in row i)
  pub there : (at : ℕ) → at < length ranks → TakesPart ranks at
      → (i : ℕ) × (i < length row) × (frame_in row i ≡ at)
  pub once : (i j : ℕ) → i < j → j < length row → frame_in row i ≢ frame_in row j
  pub sorted : (i j : ℕ) → i < j → j < length row
      → is_before (rank_in ranks row j) (rank_in ranks row i) ≡ false

-- a rank has its place here: behind those that it doesn't go before, and before the others
pub record IsBetween (ranks : List Rank) (row : List ℕ) (rank : Rank) (place : ℕ) : Type 0 where
  pub within : place ≤ length row
  pub behind : (i : ℕ) → i < place → is_before rank (rank_in ranks row i) ≡ false
  pub before : (i : ℕ) → place ≤ i → i < length row
      → is_before (rank_in ranks row i) rank ≡ false

-- there are fewer than 2 ^ 32 frames, and room for each
pub record HasRoom (ranks : List Rank) (capacity : ℕ) : Type 0 where
  pub few : length ranks < 2 ^ 32
  pub room : length ranks ≤ capacity

-- the frame takes part and waits for its flush, and no other such frame goes before it
pub record IsFirstWaiting (ranks : List Rank) (frames : List Frame) (at : ℕ) : Type 0 where
  pub part : TakesPart ranks at
  pub waits : is_waiting (frame_at frames at) ≡ true
  pub first : (other : ℕ) → TakesPart ranks other → is_waiting (frame_at frames other) ≡ true
      → is_before (rank_at ranks other) (rank_at ranks at) ≡ false
