-- What a line has done where memory ran out in it.
use Rattle.std.specs.Prelude.{ℕ, ◌≡◌, ◌⊎◌, Bool, List, [], ◌∷◌, ◌++◌, Ok}
use Rattle.std.specs.List.{AllByRecursion}
use Rattle.clone_script.specs.declared.lines.Line.{Line}
use Rattle.clone_plain.specs.Donor.{Donor}
use Rattle.clone_plain.specs.declared.call.EngineAnswer.{EngineAnswer}
use Rattle.clone_plain.specs.declared.call.EngineCall.{EngineCall}
use Rattle.clone_events.specs.World.{World, Clone, index_in}
use Rattle.clone_events.specs.Events.{Event, made, Clones, Events, clone_after}
use Rattle.clone_events.specs.Runs.{Makes}

-- a call was carried out, against which there was no cause
abbrev pub IsDone : Event → Type 0
IsDone event = (asked : EngineCall) × (given : EngineAnswer) × (event ≡ made asked (Ok given))

-- a clone of this donor became another by these events
abbrev pub Becomes : Donor → Bool → Clone → List Event → Clone → Type 0
Becomes d tells old [] new = new ≡ old
Becomes d tells old (e ∷ es) new =
    Clones d tells old e (clone_after e old) × Becomes d tells (clone_after e old) es new

-- the clone is as it was, or became another by a front of the line's events, which weren't told
abbrev pub BecomesUntold : ℕ → (ℕ → ℕ) → Line → Donor → Bool → Clone → Clone → Type 0
BecomesUntold tasks next line d tells old new = (new ≡ old) ⊎ ((front rest : List Event)
    × Makes tasks next line (front ++ rest) × Becomes d tells old front new)

module _ {D : Type 0} (plain : D → Donor) (Step : D → Event → D → Type 0) where
  -- A front of the line's calls was carried out, and against none of these was there a cause. What
  -- the next one did of which memory ran out is no matter of the plain donor.
  pub record BreaksOff (s : World D) (line : Line) (t : World D) : Type 0 where
    pub front : List Event
    pub next : Event
    pub rest : List Event
    pub makes : Makes s.tasks (index_in s.begun) line (front ++ next ∷ rest)
    pub carried : AllByRecursion IsDone front
    pub then : World D
    pub happened : Events plain Step s front then
    pub donor : plain t.donor ≡ plain then.donor
    pub begun : t.begun ≡ then.begun
    pub tells : t.tells ≡ then.tells
    pub tasks : t.tasks ≡ then.tasks
    pub clone : BecomesUntold s.tasks (index_in s.begun) line (plain then.donor) then.tells
        then.clone t.clone
