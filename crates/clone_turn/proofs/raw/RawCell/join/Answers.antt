use Rattle.std.proofs.Common.{arith, ◌<◌, ◌∙◌, ap, sym, subst}
use Rattle.clone_turn.specs.Rule.{Idle}
use Rattle.clone_turn.proofs.JoinLemmas.{may_join}
use Rattle.clone_turn.proofs.SettleLemmas.{may_settle}
use Rattle.clone_turn.proofs.raw.RawCell.join.Goals as goal

pub join_seat-requires : goal.join_seat-requires
join_seat-requires g c =
    let two : 0 < c.args.self.now.table.shared.table_id.words = omega (arith, c.args.self.now.words) in
    let is = c.into_inner.ensures in
    let mine = c.requires.idle in
    let its = subst (λ x. Idle c.args.self.now.table.shared.key.value x.me) (sym is) c.requires.other_idle in
    (c.requires.seat, ap (λ x. x.table_id) is ∙ c.requires.other_seat, its.empty, two, may_join _ _ _ _ _ _ mine.alone its.alone mine.calm mine.down its.down mine.share)

pub load-requires : goal.load-requires
load-requires g c =
    let two : 0 < c.args.self.now.table.shared.table_id.words = omega (arith, c.args.self.now.words) in
    (c.join_seat.ensures.0 ∙ c.requires.seat, two, may_settle _ _ _ _ _ (ap (λ m. m.0.lifted) c.join_seat.ensures.2 ∙ c.requires.idle.down))
