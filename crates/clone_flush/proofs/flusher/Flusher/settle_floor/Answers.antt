use Rattle.std.proofs.Common.{◌≡◌, ℕ, ◌∙◌, ap, sym, subst}
use Rattle.clone_outside.specs.Disk.{ForTold}
use Rattle.clone_buffer.specs.Buffered.{Buffered}
use Rattle.clone_flush.specs.Flights.{Flights, StandsFlown}
use Rattle.clone_flush.specs.Calls.{floored, needed_from, settled}
use Rattle.clone_flush.proofs.FlightLemmas.{stands_settled, floor_settled}
use Rattle.clone_flush.proofs.flusher.Flusher.settle_floor.Goals as goal

settled_is : (c : goal.After-let_go) → c.let_go.new.buffer ≡ settled c.args.self.now.checkpoint c.args.kept_from c.args.buffer.now
settled_is c =
    let b : Buffered = c.args.buffer.now in
    c.let_go.ensures ∙ ap (λ (lsn : ℕ). record b { ring = floored lsn b.ring }) (c.needed_from.ensures ∙ ap (λ (f : Flights). needed_from f.checkpoint c.args.kept_from) c.self.view_is)

pub returns-clause-settled : goal.returns-clause-settled
returns-clause-settled c = settled_is c

pub returns-clause-floor : goal.returns-clause-floor
returns-clause-floor c = λ copies told st kept.
    subst (λ (x : Buffered). ForTold told (λ m. x.ring.floor ≡ needed_from c.args.self.now.checkpoint c.args.kept_from)) (sym (settled_is c))
    (floor_settled c.args.buffer.now c.args.self.now copies told c.args.kept_from c.laws.ensures.buffer st kept)

pub returns-clause-stands : goal.returns-clause-stands
returns-clause-stands c = λ copies told st.
    subst (λ (x : Buffered). StandsFlown x c.args.self.now copies told) (sym (settled_is c))
    (stands_settled c.args.buffer.now c.args.self.now copies told c.args.kept_from st)
