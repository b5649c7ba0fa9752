-- A legal run of the machine, as a run of the donor.
use Rattle.std.specs.Prelude.{List, [], ◌∷◌, flat_map}
use Rattle.clone_turn.specs.declared.view.Entry as turn
use Rattle.clone_engine.specs.Acts.{Calls}
use Rattle.clone_engine.specs.Donor.{Donor}
use Rattle.clone_sides.specs.Trace.{Entry}
use Rattle.clone_machine.specs.Sharing.{SharedDonor}
use Rattle.clone_machine.specs.declared.calls.JobAnswer.{JobAnswer}
use Rattle.clone_machine.specs.declared.calls.JobAnswer.TheVariants as answer
use Rattle.clone_machine.specs.declared.calls.JobCall.{JobCall}
use Rattle.clone_machine.specs.declared.calls.JobCall.TheVariants as call

-- a call of a job, with its answer and what it left
abbrev pub JobEntry : Type 0
JobEntry = turn.Entry SharedDonor JobCall JobAnswer

-- what was done to the donor, if the call was one of the donor
abbrev pub act_by : JobCall → JobAnswer → Donor → List Entry
act_by (call.Donor asked) (answer.Donor given) after =
    record { act = Calls asked given; after = after } ∷ []
act_by asked given after = []

abbrev pub act_in : JobEntry → List Entry
act_in e = act_by e.call e.answer e.after.donor

-- THE DONOR'S RUN in a run of the machine
abbrev pub trace_of : List JobEntry → List Entry
trace_of run = flat_map act_in run
