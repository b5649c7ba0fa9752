-- Ranks by their frame numbers, the first of which is wanted.
use Rattle.std.specs.Prelude.{ℕ, ◌≡◌, ◌≢◌, ◌<◌, ◌≤◌, ◌+◌, ◌*◌, ◌==◌, Bool, false, nat_lt, if◌then◌else◌, List, length, get_or}
use Rattle.clone_pool.specs.declared.frame.PageName.{PageName}
use Rattle.clone_pool.specs.declared.tournament.Rank.{Rank}
use Rattle.clone_pool.specs.declared.tournament.TheConstants.{NO_NUMBER}

abbrev pub name_is_before : PageName → PageName → Bool
name_is_before a b = if a.space == b.space then nat_lt a.number b.number else nat_lt a.space b.space

-- the lesser number goes first, and of two with one number the lesser space, and then the lesser
-- page
abbrev pub is_before : Rank → Rank → Bool
is_before a b =
    if a.number == b.number then name_is_before a.name b.name else nat_lt a.number b.number

-- the rank of a frame that takes no part
abbrev pub no_rank : Rank
no_rank = record { number = NO_NUMBER; name = record { space = 0; number = 0 } }

abbrev pub rank_at : List Rank → ℕ → Rank
rank_at ranks at = get_or ranks at no_rank

-- the winner of a match
abbrev pub first_of : Rank → Rank → Rank
first_of a b = if is_before b a then b else a

-- the frame takes part, and no other goes before it
pub record IsFirst (ranks : List Rank) (frame_number : ℕ) : Type 0 where
  pub within : frame_number < length ranks
  pub part : (rank_at ranks frame_number).number < NO_NUMBER
  pub first : (other : ℕ) → other < length ranks
      → is_before (rank_at ranks other) (rank_at ranks frame_number) ≡ false

-- no frame takes part
abbrev pub HasNoRank : List Rank → Type 0
HasNoRank ranks =
    (frame_number : ℕ) → frame_number < length ranks
    → NO_NUMBER ≤ (rank_at ranks frame_number).number

-- each node between but one has the winner of the two below it
abbrev pub AreMatchedBut : ℕ → ℕ → List Rank → Type 0
AreMatchedBut but count nodes =
    (node : ℕ) → 0 < node → node < count → node ≢ but
    → rank_at nodes node ≡ first_of (rank_at nodes (2 * node)) (rank_at nodes (2 * node + 1))

pub record IsTournament (count : ℕ) (nodes : List Rank) : Type 0 where
  pub long : length nodes ≡ 2 * count
  pub matched : AreMatchedBut 0 count nodes
