use Rattle.std.proofs.Common.{◌∙◌, ap}
use Rattle.clone_base.proofs.OrderedMaps.{removed}
use Rattle.clone_model.proofs.RowMaps.{row_cmp_total, row_cmp_exact}
use Rattle.clone_flush.specs.Flights.{Flights, Writes}
use Rattle.clone_flush.specs.Calls.{without_write}
use Rattle.clone_flush.proofs.flusher.Flusher.forget.Goals as goal

pub returns : goal.returns
returns c =
    ap (λ (w : Writes). record { writes = w; checkpoint = c.self.inside.checkpoint; files = c.self.inside.files }) (removed row_cmp_total row_cmp_exact c.self.inside.writes c.remove-ended.new.self (c.args.space, c.args.number) c.remove-ended.ensures.updates)
    ∙ ap (λ (f : Flights). without_write (record { space = c.args.space; number = c.args.number }) f) c.self.view_is
