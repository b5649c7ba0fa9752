-- What passed over a connection, as its two ends have it.
use Rattle.std.specs.Prelude.{ℕ, ◌≡◌, List, IsSome, IfSome}
use Rattle.std.specs.declared.option.Option.{Option}
use mathlib.Core.List.{IsPrefix}
use Rattle.clone_outside.specs.Link.{ReceivedOf}
use Rattle.clone_runs.specs.Spellings.{AreToldFrom, spellings}

-- the bytes that an end of a connection sent and received, where they are told
pub record EndBytes : Type 0 where
  pub sent : Option (List ℕ)
  pub received : Option (List ℕ)

-- AN END TELLS ITS BYTES.
pub record TellsBytes (end : EndBytes) : Type 0 where
  pub sent : IsSome end.sent
  pub received : IsSome end.received

-- What passed at one end: the place of the connection at the desk, the commands, and the answers.
pub record Passed (C X : Type 0) : Type 0 where
  pub place : ℕ
  pub commands : List C
  pub answers : List X

module _ {C X : Type 0} where
  -- THE TWO ENDS OF ONE CONNECTION. The donor's end took the first of the commands that were put
  -- out at the task's, and the task's took the first of the answers that the donor gave.
  pub record AreEnds (donor task : Passed C X) : Type 0 where
    pub place : donor.place ≡ task.place
    pub commands : IsPrefix donor.commands task.commands
    pub answers : IsPrefix task.answers donor.answers

-- of these frames the first were sent, the last of them perhaps in part
abbrev pub WereSent : {X : Type 0} → (X → List ℕ) → Option (List ℕ) → List X → Type 0
WereSent spelled sent xs = IfSome sent (λ bytes. IsPrefix bytes (spellings spelled xs))

-- these frames were taken from the front of what was received
abbrev pub WereTaken : {X : Type 0} → (X → List ℕ) → Option (List ℕ) → List X → Type 0
WereTaken spelled received xs =
    IfSome received (λ bytes. IsPrefix (spellings spelled xs) bytes)

-- A CONNECTION WAS SETTLED, whose ends tell their bytes: what the one received begins what the
-- other sent.
pub record IsSettled {C X : Type 0} (command : C → List ℕ) (answer : X → List ℕ)
    (at_donor at_task : EndBytes) (donor task : Passed C X) : Type 0 where
  pub place : donor.place ≡ task.place
  pub told : TellsBytes at_donor × TellsBytes at_task
  pub to_donor : ReceivedOf at_donor.received at_task.sent
  pub to_task : ReceivedOf at_task.received at_donor.sent
  pub asked : WereSent command at_task.sent task.commands
  pub heard : WereTaken command at_donor.received donor.commands
  pub answered : WereSent answer at_donor.sent donor.answers
  pub taken : WereTaken answer at_task.received task.answers
  pub commands : AreToldFrom command donor.commands task.commands
  pub answers : AreToldFrom answer task.answers donor.answers
