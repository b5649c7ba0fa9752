-- A WHOLE STEP of the donor's side, over something that answers the calls of a donor.
use Rattle.std.specs.Prelude.{ℕ, ◌≡◌, ◌≤◌, ◌⊎◌, ◌++◌, List, [], ◌∷◌, length, ⊤}
use Rattle.clone_wire.specs.declared.frame.Frame.{Frame}
use Rattle.clone_wire.specs.declared.frame.Side.TheVariants.{Answer}
use Rattle.clone_stream.specs.Streams.{AreFramesOf, spellings}
use Rattle.clone_calls.specs.declared.answer.DonorAnswer.{DonorAnswer}
use Rattle.clone_calls.specs.declared.call.DonorCall.{DonorCall}
use Rattle.clone_serve.specs.Serving.{Begins, GoesOn}
use Rattle.clone_serve.specs.Telling.{Exchange}
use Rattle.clone_serve.specs.declared.doing.Doing.{Doing}
use Rattle.clone_serve.specs.declared.stepping.TheConstants.{MOST_ASKS}
use Rattle.clone_serve.specs.declared.turn.ServeAnswer.{ServeAnswer}
use Rattle.clone_serve.specs.declared.turn.ServeAnswer.TheVariants.{Garbled, NoMemory}
use Rattle.clone_serve.specs.declared.turn.ServeTurn.{ServeTurn}
use Rattle.clone_serve.specs.declared.turn.ServeTurn.TheVariants.{Ask, Done}

-- from a turn on to the step's answer, these calls were asked and answered
abbrev pub Goes : List Exchange → Doing → ServeTurn → List ℕ → List ℕ → Doing → ServeAnswer
    → Type 0
Goes [] d turn sent_old sent_new t says =
    (turn ≡ Done says) × (sent_new ≡ sent_old) × (t ≡ d)
Goes (exchange ∷ exchanges) d turn sent_old sent_new t says =
    (turn ≡ Ask exchange.0) × ((mid : Doing) × (sent : List ℕ) × (next : ServeTurn)
    × GoesOn d exchange.1 sent_old sent mid next
    × Goes exchanges mid next sent sent_new t says)

-- A STEP, by the calls that it asks and their answers
pub record IsStep (exchanges : List Exchange) (d : Doing) (received left sent_old sent_new : List ℕ)
    (t : Doing) (says : ServeAnswer) : Type 0 where
  pub begun : Doing
  pub turn : ServeTurn
  pub begins : Begins d received left begun turn
  pub goes : Goes exchanges begun turn sent_old sent_new t says
  pub few : length exchanges ≤ MOST_ASKS

-- these calls were answered so, one after the other
abbrev pub GivesAll : {A : Type 0} → (A → DonorCall → DonorAnswer → A → Type 0) → A
    → List Exchange → A → Type 0
GivesAll gives a [] b = b ≡ a
GivesAll {A = A} gives a (exchange ∷ exchanges) b =
    (mid : A) × gives a exchange.0 exchange.1 mid × GivesAll gives mid exchanges b

-- A STEP over something that answers
pub record Steps {A : Type 0} (gives : A → DonorCall → DonorAnswer → A → Type 0) (a b : A)
    (d : Doing) (received left sent_old sent_new : List ℕ) (t : Doing) (says : ServeAnswer)
    : Type 0 where
  pub exchanges : List Exchange
  pub is : IsStep exchanges d received left sent_old sent_new t says
  pub answers : GivesAll gives a exchanges b

-- these frames are sent, unless there is no memory for one
abbrev pub Sends : List Frame → List ℕ → List ℕ → ServeAnswer → Type 0
Sends frames sent_old sent_new says =
    (AreFramesOf Answer frames × (sent_new ≡ sent_old ++ spellings frames))
    ⊎ ((sent_new ≡ sent_old) × (says ≡ NoMemory))

-- the step wasn't ended by garbled bytes, nor by running out of memory
abbrev pub IsCarriedOut : ServeAnswer → Type 0
IsCarriedOut (Garbled kept) = ⊥
IsCarriedOut NoMemory = ⊥
IsCarriedOut other = ⊤
