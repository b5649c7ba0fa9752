-- THE SESSION that a donor has of a clone, and which calls leave it.
use Rattle.std.specs.Prelude.{ℕ, ◌≢◌, ⊤}
use Rattle.std.specs.declared.option.Option.{Option}
use Rattle.clone_session.specs.Cloning.{Cloning, Session}
use Rattle.clone_session.specs.CloneCauses.{session_of}
use Rattle.clone_session.specs.Effects.{aside}
use Rattle.clone_calls.specs.declared.call.DonorCall.{DonorCall}
use Rattle.clone_calls.specs.declared.call.DonorCall.TheVariants as call
use Rattle.clone_engine.specs.Acts.{Act, Calls, Orders}

-- the session of this number, without how much room there is
abbrev pub own_session : ℕ → Cloning → Option Session
own_session number c = session_of (aside c) number

-- A CALL LEAVES IT: it is one of another session, or one that changes none.
abbrev pub LeavesIt : ℕ → DonorCall → Type 0
LeavesIt number (call.Init hello) = hello.session ≢ number
LeavesIt number (call.Reinit caller stage finished) = caller.session ≢ number
LeavesIt number (call.ReinitBlocks caller stage taken) = caller.session ≢ number
LeavesIt number (call.Claim caller stage) = caller.session ≢ number
LeavesIt number (call.ReadBlock caller stage chunk block) = caller.session ≢ number
LeavesIt number (call.Ack caller stage floor) = caller.session ≢ number
LeavesIt number (call.Exit caller) = caller.session ≢ number
LeavesIt number (call.Abandon session) = session ≢ number
LeavesIt number other = ⊤

-- so does an order to the disk
abbrev pub ActsAside : ℕ → Act → Type 0
ActsAside number (Calls asked given) = LeavesIt number asked
ActsAside number Orders = ⊤
