-- A STRANGER'S END that serves an EXECUTE serves one of another session.
use Rattle.std.specs.Prelude.{ℕ, ◌≢◌, ⊤}
use Rattle.clone_serve.specs.declared.doing.Doing.{Doing}
use Rattle.clone_serve.specs.declared.doing.Doing.TheVariants.{New, Ready, Serving}

abbrev pub ServesOther : ℕ → Doing → Type 0
ServesOther number (Serving run work) = run.caller.session ≢ number
ServesOther number other = ⊤

-- between two steps an end awaits a command or serves an EXECUTE, as long as its loop goes on
abbrev pub IsBetween : Doing → Type 0
IsBetween New = ⊤
IsBetween (Ready caller) = ⊤
IsBetween (Serving run work) = ⊤
IsBetween other = ⊥
