-- A STRANGER'S CONNECTION: none of the recipient's tasks has it. Does anybody act in the session by
-- a step of it?
use Rattle.std.specs.Prelude.{ℕ, ◌==◌, ◌&&◌, ◌||◌, not, Bool, true, false, slice_get}
use Rattle.std.specs.Option.{option_map_or}
use Rattle.clone_serve.specs.declared.turn.ServeAnswer.TheVariants as served
use Rattle.clone_network.specs.Connections.{Connection, is_serving}
use Rattle.clone_network.specs.declared.donor_step.DonorStep.{DonorStep}
use Rattle.clone_network.specs.declared.donor_step.DonorStep.TheVariants as step
use Rattle.clone_engine.specs.Donor.{Donor}
use Rattle.clone_joined.specs.Runs.{stands}

-- the code of ATTACH
abbrev pub attach_code : ℕ
attach_code = 2

-- what the donor hasn't read yet begins with an ATTACH
abbrev pub attaches : Connection → Bool
attaches at = option_map_or (λ code. code == attach_code) (slice_get at.to_donor 0) false

-- The donor carried out a command that isn't ATTACH. Where memory ran out it may have, since there
-- may have been none for the frame that tells the answer.
abbrev pub carries_out : Connection → DonorStep → Bool
carries_out at (step.Served (served.Answered stage lsn position)) = not (attaches at)
carries_out at (step.Served served.Execute) = true
carries_out at (step.Served served.Exit) = true
carries_out at (step.Served served.NoMemory) = not (is_serving at.doing) && not (attaches at)
carries_out at says = false

-- SOMEBODY ACTS IN THE SESSION: a command is carried out before or after which it stands.
abbrev pub acts_in : ℕ → Donor → Donor → Connection → DonorStep → Bool
acts_in number d t at says = carries_out at says && (stands number d || stands number t)
