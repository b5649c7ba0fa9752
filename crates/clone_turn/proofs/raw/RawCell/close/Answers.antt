use Rattle.clone_turn.proofs.CallLemmas.{closed}
use Rattle.clone_turn.proofs.raw.RawCell.close.Goals as goal

pub returns : goal.returns
returns g c = closed _ c.args.self.now.table.shared.key.value c.args.seat.seat.me c.take_up-state.new.seat.seat.me _ _ c.requires.idle c.take_up-state.ensures.lifted
