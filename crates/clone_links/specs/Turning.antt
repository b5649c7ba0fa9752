-- The turns of the loop that serves a connection.
use Rattle.std.specs.Prelude.{ℕ, ◌≡◌, List, ◌++◌, Result, OnOk}
use Rattle.std.specs.declared.option.Option.{Option}
use Rattle.clone_outside.specs.Bytes.{TakesSome, appended}
use Rattle.clone_serve.specs.Runs.{Served}
use Rattle.clone_serve.specs.Telling.{Exchange}
use Rattle.clone_serve.specs.declared.doing.Doing.{Doing}
use Rattle.clone_machine.specs.Running.{JobEntry}
use Rattle.clone_links.specs.Calling.{AreCalls}
use Rattle.clone_links.specs.Ending.{IsCause}
use Rattle.clone_links.specs.Serving.{Carries}
use Rattle.clone_links.specs.declared.end.ServeEnd.{ServeEnd}

-- SOME TURNS, by these calls. What was served before goes on: these bytes came, and these were
-- sent.
pub record IsTurn (d t : Doing) (left rest : List ℕ)
    (received_old received_new sent_old sent_new : Option (List ℕ)) (made : List JobEntry)
    : Type 0 where
  pub exchanges : List Exchange
  pub came : List ℕ
  pub put : List ℕ
  pub calls : AreCalls exchanges made
  pub goes : (before : List Exchange) (received sent : List ℕ) → Served d before received left sent
      → Served t (before ++ exchanges) (received ++ came) rest (sent ++ put)
  pub received : received_new ≡ appended received_old came
  pub sent : sent_new ≡ appended sent_old put

-- THE LAST TURNS, up to this end. What was served before is carried out with these calls, and what
-- was sent is as much as went out.
pub record IsLast (end : ServeEnd) (d : Doing) (left : List ℕ)
    (received_old received_new sent_old sent_new : Option (List ℕ)) (made : List JobEntry)
    : Type 0 where
  pub exchanges : List Exchange
  pub came : List ℕ
  pub put : List ℕ
  pub calls : AreCalls exchanges made
  pub ends : (before : List Exchange) (received sent : List ℕ) → Served d before received left sent
      → Carries end (before ++ exchanges) (received ++ came) (sent ++ put)
  pub cause : IsCause end exchanges made
  pub received : received_new ≡ appended received_old came
  pub sent : TakesSome sent_old sent_new put

-- the bytes that were received stand after the others, unless there was no memory for them
abbrev pub TakesIn : {E : Type 0} → Option (List ℕ) → List ℕ → Result (Unit {0}) E
    → Option (List ℕ) → List ℕ → Type 0
TakesIn old left result new rest =
    (came : List ℕ) × (new ≡ appended old came) × OnOk result (rest ≡ left ++ came)
