use Rattle.std.proofs.Common.{arith, ◌<◌}
use Rattle.clone_turn.proofs.SplitLemmas.{may_split}
use Rattle.clone_turn.proofs.raw.RawCell.split.Goals as goal

pub split_seat-other-requires : goal.split_seat-other-requires
split_seat-other-requires g c =
    let two : 0 < c.args.self.now.table.shared.table_id.words = omega (arith, c.args.self.now.words) in
    (c.requires.seat, two, may_split _ _ _ _)
