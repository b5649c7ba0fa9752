use Rattle.std.proofs.Common.{arith, ◌<◌, refl}
use Rattle.clone_turn.proofs.TurnLemmas.{may_draw}
use Rattle.clone_turn.proofs.raw.RawCell.try_draw.Goals as goal

pub compare_exchange-found-requires : goal.compare_exchange-found-requires
compare_exchange-found-requires g c =
    let two : 0 < c.args.self.now.table.shared.table_id.words = omega (arith, c.args.self.now.words) in
    let below : c.peek-next.result < 18446744073709551616 = c.peek-next.type_inv in
    (c.requires.seat, two, may_draw _ _ _ _ _ _ _ refl (omega (arith, c.if-next.false, below)) c.requires.down)
