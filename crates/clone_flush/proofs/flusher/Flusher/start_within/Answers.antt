use Rattle.std.proofs.Common.{◌≡◌, ℕ, ◌∙◌, min, max, ap, sym, subst}
use Rattle.clone_outside.specs.Disk.{ForTold}
use Rattle.clone_buffer.specs.Buffered.{Buffered}
use Rattle.clone_flush.specs.Calls.{nearest_in}
use Rattle.clone_flush.specs.Flights.{Flights}
use Rattle.clone_flush.proofs.FlightLemmas.{start_told}
use Rattle.clone_flush.proofs.flusher.Flusher.start_within.Goals as goal

pub returns-clause-checkpoint : goal.returns-clause-checkpoint
returns-clause-checkpoint c =
    let b : Buffered = c.args.buffer.now in
    let f : Flights = c.args.self.now in
    let start : c.max.result ≡ nearest_in b.ring f.checkpoint =
    c.max.ensures ∙ ap (λ (n : ℕ). max n c.floor.result) c.min.ensures ∙ (λ i. max (min (c.self.view_is i).checkpoint (c.end.ensures i)) (c.floor.ensures i)) in
    λ copies told st. subst (λ (lsn : ℕ). ForTold told (λ m. lsn ≡ f.checkpoint)) (sym start) (start_told b f copies told c.laws.ensures.buffer st)
