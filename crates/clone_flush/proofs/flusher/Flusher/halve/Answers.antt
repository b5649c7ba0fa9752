use Rattle.std.proofs.Common.{true, ◌∙◌, ap}
use Rattle.clone_flush.specs.Flights.{Flights, Writes, write_of}
use Rattle.clone_flush.specs.Calls.{with_write}
use Rattle.clone_pool.specs.declared.frame.PageName.{PageName}
use Rattle.clone_flush.proofs.flusher.Flusher.halve.Goals as goal

pub returns : goal.returns
returns c =
    let page : PageName = record { space = c.args.space; number = c.args.number } in
    λ w is. ap (λ (x : Writes). record { writes = x; checkpoint = c.self.inside.checkpoint; files = c.self.inside.files }) (c.halve_in.ensures w (ap (λ (f : Flights). write_of f page) c.self.view_is ∙ is))
    ∙ ap (λ (f : Flights). with_write page (record w { halved = true }) f) c.self.view_is
