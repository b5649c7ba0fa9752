use Rattle.std.proofs.Common.{ℕ, sym, subst}
use Rattle.clone_outside.specs.Disk.{with_page, opened}
use Rattle.clone_pool.specs.Frames.{failed}
use Rattle.clone_pool.specs.declared.frame.PageName.{PageName}
use Rattle.clone_buffer.specs.Buffered.{Buffered}
use Rattle.clone_buffer.specs.Flushing.{with_change}
use Rattle.clone_flush.specs.Flights.{Flights, IsFlown, StandsFlown, write_of}
use Rattle.clone_flush.specs.Calls.{without_write}
use Rattle.clone_flush.proofs.FlightLemmas.{changes_at, flown_failed, held_there, told_stepped}
use Rattle.clone_flush.proofs.flusher.Flusher.fail.Goals as goal

pub returns-clause-stands : goal.returns-clause-stands
returns-clause-stands c =
    let b : Buffered = c.args.buffer.now in
    let f : Flights = c.args.self.now in
    let at : ℕ = c.args.frame in
    let page : PageName = record { space = c.args.space; number = c.args.number } in
    let w = held_there (write_of f page) c.requires.write in
    let changes = changes_at b c.fail_flush.new.self page at failed c.laws.ensures.pool c.fail_flush.ensures c.laws-2.ensures.pool c.requires.holder.name in
    λ copies before after opens st.
    subst (λ (x : Buffered). StandsFlown x c.forget.new.self copies after) (sym c.fail_flush.ensures)
    (subst (λ (x : Flights). StandsFlown (with_change at failed b) x copies after) (sym c.forget.ensures)
    (told_stepped (IsFlown b f copies) (IsFlown (with_change at failed b) (without_write page f) copies) before after (λ m. with_page m page.space page.number (opened opens.0)) opens.1
    (λ m k. flown_failed b f copies m page at k w.0 w.1 c.laws.ensures.pool c.requires.holder.name c.requires.flight opens.0 changes) st))
