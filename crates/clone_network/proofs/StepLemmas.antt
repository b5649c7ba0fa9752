-- A step of the donor's end, by whether what it sends reaches the task.
use Rattle.std.proofs.Common.{ℕ, ◌≡◌, List, [], true, false, refl}
use Rattle.clone_calls.specs.declared.answer.DonorAnswer.{DonorAnswer}
use Rattle.clone_calls.specs.declared.call.DonorCall.{DonorCall}
use Rattle.clone_serve.specs.Stepping.{Steps}
use Rattle.clone_serve.specs.declared.doing.Doing.{Doing}
use Rattle.clone_serve.specs.declared.turn.ServeAnswer.{ServeAnswer}
use Rattle.clone_network.specs.Connections.{Connection, Serves, reaches_task}

pub serves_on : {A : Type 0} (gives : A → DonorCall → DonorAnswer → A → Type 0) (a b : A) (at : Connection) (left sent : List ℕ) (doing : Doing) (says : ServeAnswer) → reaches_task at ≡ true → Steps gives a b at.doing at.to_donor left at.to_task sent doing says
    → Serves gives a b at (record at { to_donor = left; to_task = sent; doing = doing }) says
serves_on gives a b at left sent doing says reaches steps = record {
  left = left;
  sent = sent;
  doing = doing;
  steps = rw reaches steps;
  is = rw reaches refl;
}

pub serves_nobody : {A : Type 0} (gives : A → DonorCall → DonorAnswer → A → Type 0) (a b : A) (at : Connection) (left sent : List ℕ) (doing : Doing) (says : ServeAnswer) → reaches_task at ≡ false → Steps gives a b at.doing at.to_donor left [] sent doing says
    → Serves gives a b at (record at { to_donor = left; doing = doing }) says
serves_nobody gives a b at left sent doing says reaches steps = record {
  left = left;
  sent = sent;
  doing = doing;
  steps = rw reaches steps;
  is = rw reaches refl;
}
