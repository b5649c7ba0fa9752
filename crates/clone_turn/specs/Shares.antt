-- The shares of the seats of one cell.
use Rattle.std.specs.Prelude.{ℕ, ◌≡◌, ◌*◌, ◌-◌, ◌^◌, ◌≤◌, List}
use Rattle.std.specs.List.{AllByRecursion}
use Rattle.clone_turn.specs.Rule.{total}
use Rattle.clone_turn.specs.Seats.{SeatModel}

module _ {S C A : Type 0} where
  -- a share, in units of 1 / 2 ^ k
  abbrev pub share : ℕ → SeatModel S C A → ℕ
  share k v = v.part * 2 ^ (k - v.halvings)

  -- THE SEATS HAVE THE WHOLE SHARE between them: no share was halved more often than k times, and
  -- in units of 1 / 2 ^ k they add up to one.
  abbrev pub ShareAll : List (SeatModel S C A) → Type 0
  ShareAll vs =
      (k : ℕ) × AllByRecursion (λ (v : SeatModel S C A). v.halvings ≤ k) vs
      × (total (share k) vs ≡ 2 ^ k)
