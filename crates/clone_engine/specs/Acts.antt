-- Runs of a donor: the calls that are made on it, one after the other, and what a clone has taken.
use Rattle.std.specs.Prelude.{◌≡◌, List, [], ◌∷◌, Result}
use Rattle.clone_outside.specs.DiskCalls.{DiskState}
use Rattle.clone_calls.specs.declared.answer.DonorAnswer.{DonorAnswer}
use Rattle.clone_calls.specs.declared.answer.DonorAnswer.TheVariants as answer
use Rattle.clone_calls.specs.declared.call.DonorCall.{DonorCall}
use Rattle.clone_calls.specs.declared.call.DonorCall.TheVariants as call
use Rattle.clone_plain.specs.declared.call.EngineAnswer.{EngineAnswer}
use Rattle.clone_plain.specs.declared.call.EngineCall.{EngineCall}
use Rattle.clone_plain.specs.declared.refusal.EngineRefusal.{EngineRefusal}
use Rattle.clone_engine.specs.Answering.{Answered, taken_on}
use Rattle.clone_engine.specs.Donor.{Donor, IsDonor}
use Rattle.clone_engine.specs.Taken.{IsTaken, Taken}

pub data Act : Type 0 where
  -- a call, with its answer
  Calls : DonorCall → DonorAnswer → Act
  -- an order to the disk
  Orders : Act

-- the orders of the disk alone have changed
pub record OnlyOrders (d t : Donor) : Type 0 where
  pub disk : DiskState
  pub told : disk.told ≡ d.engine.disk.told
  pub same : t ≡ record d { engine = record d.engine { disk = disk } }

-- what an act does
abbrev pub Does : Act → Donor → Donor → Type 0
Does (Calls asked given) d t = Answered asked given d t
Does Orders d t = OnlyOrders d t

-- what is taken then
abbrev pub after_act : Act → Donor → Donor → Taken → Taken
after_act (Calls asked given) d t taken = taken_on asked given d t taken
after_act Orders d t taken = taken

-- AN ACT: what holds of every donor holds still, and what is taken goes on beside the pages.
pub record Acts (act : Act) (d t : Donor) : Type 0 where
  pub does : Does act d t
  pub donor : IsDonor t
  pub taken : (taken : Taken) → IsTaken d taken → IsTaken t (after_act act d t taken)

-- a call of the engine
abbrev pub EngineActs : EngineCall → Result EngineAnswer EngineRefusal → Donor → Donor → Type 0
EngineActs asked given = Acts (Calls (call.Engine asked) (answer.Engine given))

-- and one of a clone
abbrev pub CloneActs : DonorCall → DonorAnswer → Donor → Donor → Type 0
CloneActs asked given = Acts (Calls asked given)

-- A RUN: these acts, one after the other, take a donor to that one, and what was taken becomes
-- this.
abbrev pub Runs : Donor → Taken → List Act → Donor → Taken → Type 0
Runs d before [] t taken = (d ≡ t) × (before ≡ taken)
Runs d before (act ∷ acts) t taken =
    (u : Donor) × Acts act d u × Runs u (after_act act d u before) acts t taken
