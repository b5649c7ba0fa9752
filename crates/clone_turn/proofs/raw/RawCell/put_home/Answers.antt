use Rattle.std.proofs.Common.{arith, ◌<◌, refl, ap, ◌∙◌, Some, ◌∷◌}
use Rattle.atomic_table.specs.Table.{rest}
use Rattle.clone_turn.proofs.ReleaseLemmas.{may_release}
use Rattle.clone_turn.proofs.raw.RawCell.put_home.Goals as goal

pub store-requires : goal.store-requires
store-requires g c =
    let two : 1 < c.args.self.now.table.shared.table_id.words = omega (arith, c.args.self.now.words) in
    let v = c.args.seat.now.seat.me.0 in
    let h = c.requires.holds in
    let me = c.exchange.ensures.3 ∙ ap (λ cs. (v, (0, Some (c.args.state, Some (c.args.call, c.args.answer))) ∷ rest cs)) h.0 in
    (c.exchange.ensures.0 ∙ c.requires.seat, two, rw me (may_release _ _ _ _ v record { call = c.args.call.value; answer = c.args.answer.value; after = c.args.state } c.args.call c.args.answer c.args.ticket _ refl refl c.requires.ticket h.1 c.requires.share refl c.requires.step))
