-- The statuses that a run ends with, and their numbers.
use Rattle.std.specs.Prelude.{ℕ}
use Rattle.clone_outside.specs.declared.Refusal.{Refusal}
use Rattle.clone_outside.specs.declared.Refusal.TheVariants.{Fault, NoMemory}
use Rattle.clone_core.specs.declared.world.Ending.{Ending}
use Rattle.clone_core.specs.declared.world.Ending.TheVariants as ending
use Rattle.clone_top.specs.declared.status.Status.{Status}
use Rattle.clone_top.specs.declared.status.Status.TheVariants.{Done, Memory, Usage, BadLine, SourceFault, SinkFault, DonorFault, RecipientFault, RestartsSpent, Garbled, Refused, NotEmpty, CrewFault, Incomplete, Damaged, CompressionRefused, TooLong}

abbrev pub number_of : Status → ℕ
number_of Done = 0
number_of Memory = 1
number_of Usage = 2
number_of BadLine = 3
number_of SourceFault = 4
number_of SinkFault = 5
number_of DonorFault = 6
number_of RecipientFault = 7
number_of RestartsSpent = 8
number_of NotEmpty = 9
number_of Garbled = 10
number_of CrewFault = 11
number_of Incomplete = 12
number_of Damaged = 13
number_of CompressionRefused = 14
number_of TooLong = 15
number_of Refused = 16

-- the status of a run that a refusal of a sink or of memory ended
abbrev pub status_of : Refusal → Status
status_of Fault = SinkFault
status_of NoMemory = Memory

-- that of a run whose lines were all carried out
abbrev pub status_by : Ending → Status
status_by ending.Well = Done
status_by ending.RecipientFault = RecipientFault
status_by ending.RestartsSpent = RestartsSpent
status_by ending.Garbled = Garbled
status_by ending.Refused = Refused
