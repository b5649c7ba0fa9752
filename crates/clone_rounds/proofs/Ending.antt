-- A clone goes on until it ends, and it ends.
use Rattle.std.proofs.Common.{◌<◌, ◌≤◌, ℕ, inl, inr, ◌⊎◌}
use Rattle.std.proofs.lemmas.Bool.{cases_Bool, cases_lt}
use Rattle.clone_rounds.specs.World.{World}
use Rattle.clone_rounds.specs.Idle.{Loses, Gives}
use Rattle.clone_rounds.specs.Awaiting.{Rule}
use Rattle.clone_rounds.specs.Steps.{TaskStep, connects, acknowledges, executes, DonorStep, finds_loss, HasSteps}
use Rattle.clone_rounds.specs.Ending.{Step, Run, here, after, Ends, GoesOn}
use Rattle.clone_rounds.specs.Measure.{IsLess, left}
use Rattle.clone_rounds.proofs.Stuck.{applies}
use Rattle.clone_rounds.proofs.Stepping.{steps_there}
use Rattle.clone_rounds.proofs.Moving.{kept}
use Rattle.clone_rounds.proofs.Lessening.{each_lessens, all_end}

task_goes : (w : World) → ((u : World) × TaskStep w u) → Ends w ⊎ GoesOn w
task_goes w h = inr (h.0, inl h.1)

donor_goes : (w : World) → ((u : World) × DonorStep w u) → Ends w ⊎ GoesOn w
donor_goes w h = inr (h.0, inr h.1)

each_gives : (w : World) → Rule w → Gives (Ends w ⊎ GoesOn w) w
each_gives w r = record {
  connects = λ k c. inr (_, inl (connects k c));
  takes = λ k c. task_goes w (steps.takes k c);
  loses = λ k c. loss k c (cases_lt w.losses w.limit);
  completes = λ c. inl (inl c);
  acknowledges = λ c. inr (_, inl (acknowledges c));
  executes = λ k c. inr (_, inl (executes k c));
  serves = λ k c. donor_goes w ((steps.serves k c).0, (steps.serves k c).1);
  carries = λ k c. donor_goes w (steps.carries k c);
  finds = λ k c. inr (_, inr (finds_loss k c));
}
  where
    steps : HasSteps w
    steps = steps_there w r

    loss : (k : ℕ) → Loses w k → (w.losses < w.limit) ⊎ (w.limit ≤ w.losses) → Ends w ⊎ GoesOn w
    loss k c (inl few) = task_goes w (steps.loses k c few)
    loss k c (inr spent) = inl (inr (record { task = k; loses = c; limit = spent }))

pub goes_on : (w : World) → Rule w → Ends w ⊎ GoesOn w
goes_on w r = applies (Ends w ⊎ GoesOn w) w r (each_gives w r) (cases_Bool w.sides.met)

pub clone_ends : (w : World) → Rule w → (last : World) × Run last w × Ends last
clone_ends = all_end (λ w. Rule w → (last : World) × Run last w × Ends last) each
  where
    move : (w u : World) → Rule w → Step w u → Rule u
    move w u r (inl step) = kept w u r (inl step)
    move w u r (inr step) = kept w u r (inr (inl step))

    each : (w : World) → ((u : World) → IsLess (left u) (left w) → Rule u → (last : World) × Run last u × Ends last) → Rule w → (last : World) × Run last w × Ends last
    each w before r = at (goes_on w r)
      where
        at : Ends w ⊎ GoesOn w → (last : World) × Run last w × Ends last
        at (inl ends) = (w, here, ends)
        at (inr next) = let rest : (last : World) × Run last next.0 × Ends last = before next.0 (each_lessens w next.0 next.1) (move w next.0 r next.1) in (rest.0, after w next.0 next.1 rest.1, rest.2)
