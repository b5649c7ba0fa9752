use Rattle.std.proofs.Common.{◌≡◌, ℕ, ◌∙◌, List, false, ap, sym, subst, Err}
use Rattle.clone_outside.specs.Disk.{ForTold, IsBeforeOrAfter}
use Rattle.clone_outside.specs.declared.Refusal.{Refusal}
use Rattle.clone_pool.specs.Frames.{begun, failed}
use Rattle.clone_pool.specs.declared.frame.PageName.{PageName}
use Rattle.clone_buffer.specs.Buffered.{Buffered}
use Rattle.clone_buffer.specs.Flushing.{with_change, with_noted}
use Rattle.clone_buffer.specs.OnePage.{Copies}
use Rattle.clone_flush.specs.Flights.{Flights, HasFiles, StandsFlown}
use Rattle.clone_flush.specs.Calls.{ends_short, new_write, reaching, with_write}
use Rattle.clone_flush.proofs.BeginLemmas.{begun_name, files_failed, files_kept, is_waiting_there, stands_begun, stands_fault, stands_noted}
use Rattle.clone_flush.proofs.FlightLemmas.{changes_at}
use Rattle.clone_flush.proofs.flusher.Flusher.start.Goals as goal

pub returns-in-Ok-clause-files : goal.returns-in-Ok-clause-files
returns-in-Ok-clause-files g c =
    let f : Flights = c.args.self.now in
    let page : PageName = record { space = c.args.space; number = c.args.number } in
    let after = (g.D.PageDisk.state c.prepare.new.disk).told in
    λ had. subst (λ (x : Flights). ForTold after (HasFiles x.files)) (sym c.in-Ok.ensures.ok) (files_kept f page (ends_short page f) (g.D.PageDisk.state c.args.disk.now).told after c.in-Ok.ensures.disk had)

pub returns-in-Ok-clause-stands : goal.returns-in-Ok-clause-stands
returns-in-Ok-clause-stands g c =
    let b : Buffered = c.args.buffer.now in
    let f : Flights = c.args.self.now in
    let page : PageName = record { space = c.args.space; number = c.args.number } in
    let at : ℕ = c.in_ok-at.at in
    let before = (g.D.PageDisk.state c.args.disk.now).told in
    let after = (g.D.PageDisk.state c.prepare.new.disk).told in
    let waits = c.in_ok-at.ensures.ok in
    let changes = changes_at b c.begin_flush.new.self page at begun c.laws.ensures.pool c.begin_flush.ensures c.laws-in-Ok.ensures.pool waits.dirty.holder.name in
    let image = c.frame.ensures.bytes in
    let flights : c.prepare.new.self ≡ with_write page (new_write at b) f = c.in-Ok.ensures.ok ∙ ap (λ (bytes : List ℕ). with_write page (record { image = bytes; halved = false }) f) image in
    λ copies st files known low.
    subst (λ (x : Buffered). StandsFlown x c.prepare.new.self (with_noted page copies) after) (sym c.begin_flush.ensures)
    (subst (λ (x : Flights). StandsFlown (with_change at begun b) x (with_noted page copies) after) (sym flights)
    (stands_begun b f copies page at changes (is_waiting_there page b at waits) known low before after c.in-Ok.ensures.disk st files))

-- the disk failed
fault : (g : _) (c : goal.After-laws-in-Err-Fault-2 g) → IsBeforeOrAfter (g.D.PageDisk.state c.args.disk.now).told (g.D.PageDisk.state c.prepare.new.disk).told (reaching (record { space = c.args.space; number = c.args.number }))
fault g c = c.in-Err-Fault.ensures.fault (ap (λ (r : Refusal). Err r) c.in-Err-Fault.field-0-is)

stood : (g : _) (c : goal.After-laws-in-Err-Fault-2 g) (copies : Copies) → StandsFlown c.args.buffer.now c.args.self.now copies (g.D.PageDisk.state c.args.disk.now).told → StandsFlown c.fail_flush.new.self c.prepare.new.self copies (g.D.PageDisk.state c.prepare.new.disk).told
stood g c copies st =
    let b : Buffered = c.args.buffer.now in
    let f : Flights = c.args.self.now in
    let page : PageName = record { space = c.args.space; number = c.args.number } in
    let at : ℕ = c.in_ok-at.at in
    let before = (g.D.PageDisk.state c.args.disk.now).told in
    let after = (g.D.PageDisk.state c.prepare.new.disk).told in
    let waits = c.in_ok-at.ensures.ok in
    let changes = changes_at b c.begin_flush-in-Err-Fault.new.self page at begun c.laws.ensures.pool c.begin_flush-in-Err-Fault.ensures c.laws-in-Err-Fault.ensures.pool waits.dirty.holder.name in
    let path : c.fail_flush.new.self ≡ with_change at failed (with_change at begun b) = c.fail_flush.ensures ∙ ap (with_change at failed) c.begin_flush-in-Err-Fault.ensures in
    let again = changes_at (with_change at begun b) c.fail_flush.new.self page at failed changes.new path c.laws-in-Err-Fault-2.ensures.pool (begun_name page b at waits) in
    subst (λ (x : Buffered). StandsFlown x c.prepare.new.self copies after) (sym path)
    (subst (λ (x : Flights). StandsFlown (with_change at failed (with_change at begun b)) x copies after) (sym c.in-Err-Fault.ensures.err)
    (stands_fault b f copies page at changes again (is_waiting_there page b at waits) before after (fault g c) st))

pub returns-in-Err-Fault-clause-files : goal.returns-in-Err-Fault-clause-files
returns-in-Err-Fault-clause-files g c =
    let f : Flights = c.args.self.now in
    let page : PageName = record { space = c.args.space; number = c.args.number } in
    let after = (g.D.PageDisk.state c.prepare.new.disk).told in
    λ had. subst (λ (x : Flights). ForTold after (HasFiles x.files)) (sym c.in-Err-Fault.ensures.err) (files_failed f page (g.D.PageDisk.state c.args.disk.now).told after (fault g c) had)

pub returns-in-Err-Fault-clause-stands : goal.returns-in-Err-Fault-clause-stands
returns-in-Err-Fault-clause-stands g c =
    λ copies st files known low. stands_noted c.fail_flush.new.self c.prepare.new.self copies (record { space = c.args.space; number = c.args.number }) (g.D.PageDisk.state c.prepare.new.disk).told (stood g c copies st)

pub returns-in-Err-Fault-clause-unwritten : goal.returns-in-Err-Fault-clause-unwritten
returns-in-Err-Fault-clause-unwritten g c = λ _ copies st. stood g c copies st
