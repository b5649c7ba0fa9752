-- A STEP OF A DONOR'S END outside an EXECUTE that leaves the donor: there was nothing to do, the
-- connection was found lost, or an EXECUTE is served from now on.
use Rattle.std.specs.Prelude.{ℕ, ◌≡◌, false, true, slice_get, IfSome, ⊤}
use Rattle.clone_serve.specs.declared.turn.ServeAnswer.TheVariants as says
use Rattle.clone_network.specs.Connections.{is_serving}
use Rattle.clone_network.specs.Networks.{Network}
use Rattle.clone_network.specs.declared.donor_step.DonorStep.{DonorStep}
use Rattle.clone_network.specs.declared.donor_step.DonorStep.TheVariants as step

abbrev pub IsCalm : DonorStep → Type 0
IsCalm step.Lost = ⊤
IsCalm (step.Served says.Idle) = ⊤
IsCalm (step.Served says.Execute) = ⊤
IsCalm other = ⊥

-- an EXECUTE is in service on the connection with this number
abbrev pub IsInService : Network → ℕ → Type 0
IsInService n number = IfSome (slice_get n.connections number) (λ at. is_serving at.doing ≡ true)

-- no EXECUTE is in service on the connection with this number
abbrev pub IsFree : Network → ℕ → Type 0
IsFree n number = IfSome (slice_get n.connections number) (λ at. is_serving at.doing ≡ false)
