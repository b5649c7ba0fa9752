-- What the seats of a clone under load did at the desk.
use Rattle.std.specs.Prelude.{ℕ, ◌≡◌, List, [], ◌∷◌, ⊤}
use Rattle.std.specs.List.{AllByRecursion}
use Rattle.clone_outside.specs.declared.link.Side.{Side}
use Rattle.clone_desk.specs.Steps.{DeskEntry}
use Rattle.clone_reading.specs.Lending.{Lent, Uses}

-- what one seat did at the desk, for one side of one task
pub record DeskPart (N L : Type 0) : Type 0 where
  pub side : Side
  pub task : ℕ
  pub lent : List (Lent L)
  pub asked : List (DeskEntry N L)

module _ {N L : Type 0} where
  abbrev pub asked_of : DeskPart N L → List (DeskEntry N L)
  asked_of p = p.asked

  -- the seat's calls are those by which its ends were lent and given back
  abbrev pub UsesDesk : DeskPart N L → Type 0
  UsesDesk p = Uses p.side p.task p.lent p.asked

  -- two seats for another side, or for another task
  abbrev pub IsApart : DeskPart N L → DeskPart N L → Type 0
  IsApart p q = p.side ≡ q.side → p.task ≡ q.task → ⊥

  -- no two seats are there for one side of one task
  abbrev pub AreApart : List (DeskPart N L) → Type 0
  AreApart [] = ⊤
  AreApart (p ∷ parts) = AllByRecursion (IsApart p) parts × AreApart parts
