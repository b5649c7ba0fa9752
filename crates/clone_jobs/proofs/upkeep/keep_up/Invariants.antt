use Rattle.clone_turn.specs.Seats.{IsOf}
use Rattle.clone_turn.specs.Worked.{Worked}
use Rattle.clone_jobs.specs.Said.{said_in}
use Rattle.clone_jobs.specs.Turns.{HasTurns}
use Rattle.clone_jobs.specs.Upkeep.{UpkeepTurn}
use Rattle.clone_jobs.proofs.upkeep.keep_up.Given as goal

abbrev pub invariant-loop : goal.invariant-loop
invariant-loop g l =
    (goal.iterator-loop g).can_next l.iterator' × (goal.iterator-loop g).is_finite l.iterator'
    × Worked (λ made. HasTurns (UpkeepTurn l.fn.upkeep) tt (said_in made) tt) l.fn.seat l.seat
    × IsOf l.fn.post.cell.now l.seat
