-- WHAT A DONOR KEEPS while it serves a clone: what it has stored, and what its disk holds.
use Rattle.std.specs.Prelude.{ℕ, ◌≡◌, None, Some, ⊤}
use Rattle.clone_calls.specs.declared.call.DonorCall.{DonorCall}
use Rattle.clone_calls.specs.declared.call.DonorCall.TheVariants as call
use Rattle.clone_session.specs.declared.info.Stop.{Stop}
use Rattle.clone_engine.specs.Disks.{Visits}
use Rattle.clone_engine.specs.Donor.{Donor}
use Rattle.clone_sides.specs.Moment.{IsStopOf, own_stop}

-- what a clone's calls leave of a donor: the plain donor and what its disk holds
pub record Lends (d t : Donor) : Type 0 where
  pub donor : t.engine.donor ≡ d.engine.donor
  pub told : t.engine.disk.told ≡ d.engine.disk.told
  pub disk : Visits d.engine.disk t.engine.disk

-- a call of a clone, and none of the engine
abbrev pub IsOfClone : DonorCall → Type 0
IsOfClone (call.Engine asked) = ⊥
IsOfClone other = ⊤

-- Where the session comes to a stop, it has as many commits and drops as the donor had before.
abbrev pub StopsNow : ℕ → Donor → Donor → Type 0
StopsNow number d t = (stop : Stop) → own_stop number d.cloning.stop ≡ None
    → own_stop number t.cloning.stop ≡ Some stop → IsStopOf number d.engine stop
