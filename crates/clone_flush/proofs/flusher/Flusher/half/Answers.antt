use Rattle.std.proofs.Common.{◌≡◌, ◌∙◌, ◌≤◌, ℕ, List, length, ap, sym, subst, arith, Some, Err, true}
use Rattle.clone_outside.specs.declared.disk.TheConstants.{HALF_PAGE}
use Rattle.clone_outside.specs.Disk.{Steps, with_page, half_written}
use Rattle.clone_outside.specs.declared.Refusal.{Refusal}
use Rattle.clone_pool.specs.declared.frame.PageName.{PageName}
use Rattle.clone_buffer.specs.Buffered.{Buffered}
use Rattle.clone_flush.specs.Flights.{Flights, IsFlown, StandsFlown, write_of}
use Rattle.clone_flush.specs.Calls.{with_write}
use Rattle.clone_flush.specs.declared.flusher.PageWrite.{PageWrite}
use Rattle.clone_flush.proofs.FlightLemmas.{flown_halved, told_stepped}
use Rattle.clone_flush.proofs.flusher.Flusher.half.Goals as goal

pub returns-in-Ok-clause-stands : goal.returns-in-Ok-clause-stands
returns-in-Ok-clause-stands g c =
    let b : Buffered = c.args.buffer.now in
    let f : Flights = c.args.self.now in
    let page : PageName = record { space = c.args.space; number = c.args.number } in
    let before = (g.D.PageDisk.state c.args.disk.now).told in
    let after = (g.D.PageDisk.state c.write_half.new.self).told in
    let w : PageWrite = c.in-Some.write.now in
    let is : write_of f page ≡ Some w = sym c.in-Some.ensures in
    let u = c.in_ok-at.ensures.ok.1 in
    let low : HALF_PAGE ≤ length w.image = omega (arith, ap length c.image.ensures, c.bytes.ensures.long) in
    λ copies st. subst (λ (x : Flights). StandsFlown b x copies after) (sym (c.halve.ensures w is))
    (told_stepped (IsFlown b f copies) (IsFlown b (with_write page (record w { halved = true }) f) copies) before after (λ m. with_page m page.space page.number (half_written w.image))
    (subst (λ (image : List ℕ). Steps before after (λ m. with_page m page.space page.number (half_written image))) (c.bytes.ensures.value ∙ c.image.ensures) c.in-Ok.ensures.writes.done)
    (λ m k. flown_halved b f copies m page c.in_ok-at.at k w is c.laws.ensures.pool u.holder.name u.flight low) st)

pub returns-in-Err-Fault-clause-stands : goal.returns-in-Err-Fault-clause-stands
returns-in-Err-Fault-clause-stands g c = λ copies st. c.fail.ensures.stands copies (g.D.PageDisk.state c.args.disk.now).told (g.D.PageDisk.state c.write_half.new.self).told (c.in-Err-Fault.ensures.writes.failed (ap (λ (r : Refusal). Err r) c.in-Err-Fault.field-0-is)) st
