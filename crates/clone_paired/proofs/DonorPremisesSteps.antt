-- Over each step of a donor's end what its session copies stays in order.
use Rattle.std.proofs.Common.{ℕ, ◌≡◌, ◌∙◌, List, [], ◌∷◌, Bool, true, false, Option, None, Some, IsSome, sym, subst}
use Rattle.std.specs.Prelude.{MatchOption, slice_get}
use Rattle.clone_serve.specs.Stepping.{GivesAll}
use Rattle.clone_serve.specs.Telling.{Exchange}
use Rattle.clone_serve.specs.declared.turn.ServeAnswer.TheVariants as says
use Rattle.clone_network.specs.Connections.{Connection, StepsBy, is_open}
use Rattle.clone_network.specs.Networks.{Network, StepsDonor, with_connection}
use Rattle.clone_network.specs.declared.donor_step.DonorStep.{DonorStep}
use Rattle.clone_network.specs.declared.donor_step.DonorStep.TheVariants.{Served}
use Rattle.clone_engine.specs.Acts.{Calls}
use Rattle.clone_engine.specs.Donor.{Donor, IsDonor}
use Rattle.clone_told.specs.Told.{gives}
use Rattle.clone_joined.proofs.LendingLemmas.{act_tells}
use Rattle.clone_paired.specs.Order.{CopiesInOrder}
use Rattle.clone_paired.proofs.DonorPremisesKept.{act_ordered}

abbrev Ordered : Donor → Type 0
Ordered d = CopiesInOrder d.cloning.session

same_ordered : (d t : Donor) → Ordered d → t ≡ d → Ordered t
same_ordered d t order same = subst Ordered (sym same) order

all_ordered : (exchanges : List Exchange) (d t : Donor) → IsDonor d → IsSome d.engine.disk.told → Ordered d → GivesAll gives d exchanges t → Ordered t
all_ordered [] d t is told order same = same_ordered d t order same
all_ordered (x ∷ xs) d t is told order (mid, acts, rest) =
    all_ordered xs mid t acts.donor (act_tells d mid (Calls x.0 x.1) acts ∙ told) (act_ordered d mid is told order (Calls x.0 x.1) acts) rest

module _ (d t : Donor) (is : IsDonor d) (told : IsSome d.engine.disk.told) (order : Ordered d) where
  end_ordered : (open_is : Bool) (at after : Connection) (answer : DonorStep) → StepsBy open_is gives d t at after answer → Ordered t
  end_ordered true at after answer e = all_ordered e.serves.steps.exchanges d t is told order e.serves.steps.answers
  end_ordered false at after answer rests = same_ordered d t order rests.donor

  pub step_ordered : (n m : Network) (number : ℕ) (answer : DonorStep) → StepsDonor gives d t number n m answer → Ordered t
  step_ordered n m number answer = by (slice_get n.connections number)
    where
      by : (o : Option Connection) → MatchOption o ((t ≡ d) × (m ≡ n) × (answer ≡ Served says.Idle)) (λ (at : Connection). (after : Connection) × StepsBy (is_open at) gives d t at after answer × (m ≡ with_connection number after n)) → Ordered t
      by None rests = same_ordered d t order rests.0
      by (Some at) (after, steps, rest) = end_ordered (is_open at) at after answer steps
