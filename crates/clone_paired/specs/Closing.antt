-- A STEP OF A DONOR'S END AFTER WHICH ITS CONNECTION IS OVER, and by which nothing reached the
-- task: the connection was found lost, there was no memory, or the disk failed.
use Rattle.std.specs.Prelude.{⊤}
use Rattle.clone_serve.specs.declared.turn.ServeAnswer.{ServeAnswer}
use Rattle.clone_serve.specs.declared.turn.ServeAnswer.TheVariants as says
use Rattle.clone_network.specs.declared.donor_step.DonorStep.{DonorStep}
use Rattle.clone_network.specs.declared.donor_step.DonorStep.TheVariants as step

abbrev pub IsFault : ServeAnswer → Type 0
IsFault says.NoMemory = ⊤
IsFault says.DiskFault = ⊤
IsFault other = ⊥

abbrev pub Closes : DonorStep → Type 0
Closes step.Lost = ⊤
Closes (step.Served spoke) = IsFault spoke
