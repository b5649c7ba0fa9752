use Rattle.std.proofs.Common.{◌↔◌, ◌∙◌, sym, subst, true, ◌≡◌}
use Rattle.clone_flush.specs.Flights.{Flights, HasWriteOf, writes_of}
use Rattle.clone_flush.proofs.SpaceLemmas.{among}
use Rattle.clone_flush.proofs.flusher.Flusher.write_under_way.Goals as goal

pub returns : goal.returns
returns c =
    let on = among _ (writes_of c.self.inside.writes.entries) c.args.space c.names_space.ensures.there in
    subst (λ (f : Flights). (c.names_space.result ≡ true) ↔ HasWriteOf c.args.space f) c.self.view_is
    (λ yes. on.0 (sym c.names_space.ensures.any ∙ yes), λ has. c.names_space.ensures.any ∙ on.1 has)
