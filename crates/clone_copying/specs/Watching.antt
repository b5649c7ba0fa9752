-- What a watch asked, and what it was answered.
use Rattle.std.specs.Prelude.{ℕ, ◌≡◌, ◌⊎◌, Bool, true, List, [], ◌∷◌, Some}
use Rattle.std.specs.List.{AllByRecursion}
use Rattle.std.specs.declared.option.Option.{Option}
use Rattle.clone_turn.specs.declared.view.Entry.{Entry}
use Rattle.clone_turn.specs.Runs.{calls}
use Rattle.clone_turn.specs.Seats.{SeatModel}

module _ {S C A : Type 0} where
  -- some call is so
  abbrev pub IsAmong : (C → A → Type 0) → List (Entry S C A) → Type 0
  IsAmong P [] = ⊥
  IsAmong P (e ∷ es) = P e.call e.answer ⊎ IsAmong P es

  -- it asks nothing but whether the run was halted, and for the position
  abbrev pub AreLooks : C → C → List (Entry S C A) → Type 0
  AreLooks halted look made =
      AllByRecursion (λ (e : Entry S C A). (e.call ≡ halted) ⊎ (e.call ≡ look)) made

  -- the seat was answered this position
  abbrev pub HasLooked : C → (A → Option ℕ) → SeatModel S C A → ℕ → Type 0
  HasLooked look position_of v n =
      IsAmong (λ c a. (c ≡ look) × (position_of a ≡ Some n)) (calls v.seen)

  -- the seat was answered that the run was halted
  abbrev pub WasHalted : C → (A → Bool) → SeatModel S C A → Type 0
  WasHalted halted is_halted v =
      IsAmong (λ c a. (c ≡ halted) × (is_halted a ≡ true)) (calls v.seen)
