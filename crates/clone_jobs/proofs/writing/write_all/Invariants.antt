use Rattle.clone_turn.specs.Seats.{IsOf}
use Rattle.clone_turn.specs.Worked.{Worked}
use Rattle.clone_jobs.specs.Said.{said_in}
use Rattle.clone_jobs.specs.Turns.{HasTurns}
use Rattle.clone_jobs.specs.Writing.{WriterTurn}
use Rattle.clone_jobs.proofs.writing.write_all.Given as goal

abbrev pub invariant-loop : goal.invariant-loop
invariant-loop g l =
    (goal.iterator-loop g).can_next l.iterator' × (goal.iterator-loop g).is_finite l.iterator'
    × Worked (λ made. HasTurns WriterTurn l.fn.writer (said_in made) l.writer) l.fn.seat l.seat
    × IsOf l.fn.post.cell.now l.seat
