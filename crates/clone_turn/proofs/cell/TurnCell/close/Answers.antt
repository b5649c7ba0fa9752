use Rattle.std.proofs.Common.{ap}
use Rattle.clone_turn.proofs.CallLemmas.{closed_key}
use Rattle.clone_turn.proofs.cell.TurnCell.close.Goals as goal

pub returns-clause-key : goal.returns-clause-key
returns-clause-key g c = closed_key _ _ g.met.M.Machine.keeps_key _ _ c.into_raw.result.seat.me.0 _ (ap (λ x. x.first) c.self.view_is) c.close.ensures
