use Rattle.std.proofs.Common.{arith, ◌<◌}
use Rattle.clone_turn.proofs.TurnLemmas.{may_look}
use Rattle.clone_turn.proofs.raw.RawCell.look.Goals as goal

pub load-requires : goal.load-requires
load-requires g c =
    let two : 1 < c.args.self.now.table.shared.table_id.words = omega (arith, c.args.self.now.words) in
    (c.requires.seat, two, may_look _ _ _ _ _ _ c.requires.ticket c.requires.down)
