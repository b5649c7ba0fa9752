-- What is kept of the frames beside them: their pages, and two orders.
use Rattle.std.specs.Prelude.{ℕ, ◌≡◌, List, length, map, if◌then◌else◌, unwrap_or, slice_set}
use Rattle.clone_pool.specs.declared.frame.Frame.{Frame}
use Rattle.clone_pool.specs.declared.frame.PageName.{PageName}
use Rattle.clone_pool.specs.declared.orders.Orders.{Orders}
use Rattle.clone_pool.specs.declared.tournament.Rank.{Rank}
use Rattle.clone_pool.specs.declared.tournament.TheConstants.{NO_NUMBER}
use Rattle.clone_pool.specs.Frames.{name_of, claim_of, may_go}
use Rattle.clone_pool.specs.Tournament.{no_rank}

abbrev pub no_name : PageName
no_name = record { space = 0; number = 0 }

-- the frames that may go, by their last use
abbrev pub use_rank : Frame → Rank
use_rank f = if may_go f then record { number = f.last_use; name = no_name } else no_rank

-- the dirty frames, by the oldest change and then by the page
abbrev pub age_rank : Frame → Rank
age_rank f = record { number = unwrap_or f.oldest NO_NUMBER; name = unwrap_or (name_of f) no_name }

abbrev pub orders_of : List Frame → Orders
orders_of frames = record {
  names = map claim_of frames;
  going = map use_rank frames;
  dirty = map age_rank frames;
}

-- the frame of this number is now this one
abbrev pub refreshed : ℕ → Frame → Orders → Orders
refreshed at f orders = record {
  names = slice_set orders.names at (claim_of f);
  going = slice_set orders.going at (use_rank f);
  dirty = slice_set orders.dirty at (age_rank f);
}

-- the frame of this number has another last use or other pins now
abbrev pub used_again : ℕ → Frame → Orders → Orders
used_again at f orders = record orders { going = slice_set orders.going at (use_rank f) }

-- each is of so many frames
pub record AreLong (count : ℕ) (orders : Orders) : Type 0 where
  pub names : length orders.names ≡ count
  pub going : length orders.going ≡ count
  pub dirty : length orders.dirty ≡ count
