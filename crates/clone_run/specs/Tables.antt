-- The tables of a workload are made before anything is written.
use Rattle.std.specs.Prelude.{◌≡◌, Bool, true, false, List}
use Rattle.std.specs.List.{AllByRecursion}
use Rattle.clone_calls.specs.declared.answer.DonorAnswer.TheVariants as given
use Rattle.clone_calls.specs.declared.call.DonorCall.TheVariants as asked
use Rattle.clone_engine.specs.Acts.{Act, Calls}
use Rattle.clone_engine.specs.Donor.{Donor}
use Rattle.clone_plain.specs.declared.call.EngineCall.{EngineCall}
use Rattle.clone_plain.specs.declared.call.EngineCall.TheVariants as call
use Rattle.clone_sides.specs.Trace.{Entry, Runs, end_of}

-- a call that makes a table, or room for one
abbrev pub sets_up : EngineCall → Bool
sets_up (call.Create table buckets) = true
sets_up (call.FlushBegin space page) = true
sets_up (call.FlushHalf space page) = true
sets_up (call.FlushLand space page) = true
sets_up call.Checkpoint = true
sets_up other = false

abbrev pub IsSetup : Act → Type 0
IsSetup (Calls (asked.Engine c) (given.Engine result)) = sets_up c ≡ true
IsSetup other = ⊥

-- THE DONOR IS SET UP by such calls alone, one after the other.
pub record SetsUp (d t : Donor) : Type 0 where
  pub run : List Entry
  pub legal : Runs d run
  pub end : end_of d run ≡ t
  pub alone : AllByRecursion (λ (e : Entry). IsSetup e.act) run
