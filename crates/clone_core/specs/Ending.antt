-- How a clone ended, as far as a run tells by its status.
use Rattle.std.specs.Prelude.{ℕ, Bool, true, false, None, Some}
use Rattle.std.specs.declared.option.Option.{Option}
use Rattle.clone_events.specs.World.{Clone, Progress, absent, copying, over, complete, broken, spent, garbled, refused}
use Rattle.clone_core.specs.declared.world.Ending.{Ending}
use Rattle.clone_core.specs.declared.world.Ending.TheVariants as ending

-- a fault of the recipient's disk came in the way of the rows, or none did
abbrev pub rows_ending : Bool → Ending
rows_ending true = ending.RecipientFault
rows_ending false = ending.Well

abbrev pub ending_by : Progress → Bool → Ending
ending_by absent doubted = rows_ending doubted
ending_by copying doubted = rows_ending doubted
ending_by (over (complete position)) doubted = rows_ending doubted
ending_by (over broken) doubted = ending.RecipientFault
ending_by (over (spent losses)) doubted = ending.RestartsSpent
ending_by (over (garbled bytes)) doubted = ending.Garbled
ending_by (over (refused words)) doubted = ending.Refused

abbrev pub ending_of : Clone → Ending
ending_of clone = ending_by clone.progress clone.doubted

-- the position at which it is complete, if it is
abbrev pub complete_in : Progress → Option ℕ
complete_in (over (complete position)) = Some position
complete_in other = None

-- it goes on
abbrev pub is_copying : Progress → Bool
is_copying copying = true
is_copying other = false

abbrev pub is_over : Progress → Bool
is_over (over how) = true
is_over other = false
