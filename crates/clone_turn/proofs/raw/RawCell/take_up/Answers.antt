use Rattle.std.proofs.Common.{ap, sym, ◌∙◌, Some, ◌∷◌}
use Rattle.atomic_table.specs.Table.{rest}
use Rattle.clone_turn.proofs.raw.RawCell.take_up.Goals as goal

pub exchange-requires : goal.exchange-requires
exchange-requires g c =
    let l = c.wait.ensures.lifts in
    let p = ap (λ m. m.1) l.2 in
    (c.wait.ensures.seat ∙ (c.draw-ticket.ensures.seat ∙ c.requires.seat), (Some l.1, p ∙ ap (λ cs. (0, Some l.1) ∷ rest cs) (sym p)))
