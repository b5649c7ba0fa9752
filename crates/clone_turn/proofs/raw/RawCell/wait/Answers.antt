use Rattle.std.proofs.Common.{subst, eq-eqb}
use Rattle.std.proofs.lemmas.Bool.Decides.{when_true}
use Rattle.clone_turn.specs.Rule.{Lifts}
use Rattle.clone_turn.proofs.raw.RawCell.wait.Goals as goal

pub returns-then-found-ticket-clause-lifts : goal.returns-then-found-ticket-clause-lifts
returns-then-found-ticket-clause-lifts g c =
    subst (λ m. Lifts g.M.Machine.steps m c.look-found.new.seat.seat.me) c.loop.invariant.3 (when_true _ _ (eq-eqb _ _ c.if-found-ticket.true) c.look-found.ensures.lifts)
