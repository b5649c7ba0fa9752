-- What a seat did between two moments.
use Rattle.std.specs.Prelude.{◌≡◌, Bool, List, [], ◌∷◌, ◌++◌, ⊤}
use Rattle.clone_turn.specs.declared.view.Entry.{Entry}
use Rattle.clone_turn.specs.Runs.{calls}
use Rattle.clone_turn.specs.Seats.{SeatModel}

module _ {S C A : Type 0} where
  -- the same seat, which has seen more, and made these calls meanwhile
  abbrev pub Makes : SeatModel S C A → List (Entry S C A) → SeatModel S C A → Type 0
  Makes v made w =
      (more : List (Entry S C A × Bool)) × (w ≡ record v { seen = v.seen ++ more })
      × (calls more ≡ made)

  -- THE SEAT WORKED: the calls that it made meanwhile are as P says.
  abbrev pub Worked : (List (Entry S C A) → Type 0) → SeatModel S C A → SeatModel S C A → Type 0
  Worked P v w = (made : List (Entry S C A)) × Makes v made w × P made

  -- each seat has made some calls, or none
  abbrev pub HaveWorked : List (SeatModel S C A) → List (SeatModel S C A) → Type 0
  HaveWorked [] [] = ⊤
  HaveWorked [] (w ∷ ws) = ⊥
  HaveWorked (v ∷ vs) [] = ⊥
  HaveWorked (v ∷ vs) (w ∷ ws) = Worked (λ made. ⊤) v w × HaveWorked vs ws
