use Rattle.std.proofs.Common.{◌∙◌, ap, sym}
use Rattle.clone_base.proofs.OrderedMaps.{get_listed}
use Rattle.clone_model.proofs.RowMaps.{row_cmp_total}
use Rattle.clone_flush.specs.Flights.{Flights, write_of}
use Rattle.clone_flush.proofs.flusher.Flusher.write_at.Goals as goal

pub returns : goal.returns
returns c =
    c.get.ensures.value ∙ sym (get_listed row_cmp_total c.self.inside.writes (c.args.space, c.args.number))
    ∙ ap (λ (f : Flights). write_of f (record { space = c.args.space; number = c.args.number })) c.self.view_is
