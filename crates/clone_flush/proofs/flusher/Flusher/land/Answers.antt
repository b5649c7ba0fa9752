use Rattle.std.proofs.Common.{◌≡◌, ℕ, ◌∙◌, List, ap, sym, subst, Some, Err, false}
use Rattle.clone_outside.specs.Disk.{Steps, page_of, with_page, rest_written}
use Rattle.clone_outside.specs.declared.Refusal.{Refusal}
use Rattle.clone_pool.specs.Frames.{landed}
use Rattle.clone_pool.specs.declared.frame.PageName.{PageName}
use Rattle.clone_buffer.specs.Buffered.{Buffered}
use Rattle.clone_buffer.specs.Flushing.{with_change}
use Rattle.clone_flush.specs.Flights.{Flights, IsFlown, StandsFlown, write_of}
use Rattle.clone_flush.specs.Calls.{without_write}
use Rattle.clone_flush.specs.declared.flusher.PageWrite.{PageWrite}
use Rattle.clone_flush.proofs.FlightLemmas.{changes_at, flown_landed, landed_there, same_write, told_stepped}
use Rattle.clone_flush.proofs.flusher.Flusher.land.Goals as goal

pub returns-in-Ok-clause-image : goal.returns-in-Ok-clause-image
returns-in-Ok-clause-image g c =
    let b : Buffered = c.args.buffer.now in
    let f : Flights = c.args.self.now in
    let page : PageName = record { space = c.args.space; number = c.args.number } in
    let before = (g.D.PageDisk.state c.args.disk.now).told in
    let after = (g.D.PageDisk.state c.write_rest.new.self).told in
    let w : PageWrite = c.in_ok-at.ensures.ok.0 in
    let u = c.in_ok-at.ensures.ok.1 in
    let same : c.bytes.result.now ≡ w.image = c.bytes.ensures.value ∙ c.image.ensures ∙ ap (λ (x : PageWrite). x.image) (same_write (write_of f page) c.in-Some.write.now w c.in-Some.ensures u.write) in
    λ copies. told_stepped (IsFlown b f copies) (λ m. (v : PageWrite) → write_of f page ≡ Some v → page_of m page.space page.number ≡ Some (record { bytes = v.image; writing = false })) before after (λ m. with_page m page.space page.number (rest_written w.image))
    (subst (λ (image : List ℕ). Steps before after (λ m. with_page m page.space page.number (rest_written image))) same c.in-Ok.ensures.writes.done)
    (λ m k v is. landed_there b f copies m page c.in_ok-at.at k w u.write c.laws.ensures.pool u.holder.name u.flight u.halved_is
    ∙ ap (λ (x : PageWrite). Some (record { bytes = x.image; writing = false })) (same_write (write_of f page) w v (sym u.write) is))

pub returns-in-Ok-clause-stands : goal.returns-in-Ok-clause-stands
returns-in-Ok-clause-stands g c =
    let b : Buffered = c.args.buffer.now in
    let f : Flights = c.args.self.now in
    let page : PageName = record { space = c.args.space; number = c.args.number } in
    let at : ℕ = c.in_ok-at.at in
    let before = (g.D.PageDisk.state c.args.disk.now).told in
    let after = (g.D.PageDisk.state c.write_rest.new.self).told in
    let w : PageWrite = c.in_ok-at.ensures.ok.0 in
    let u = c.in_ok-at.ensures.ok.1 in
    let same : c.bytes.result.now ≡ w.image = c.bytes.ensures.value ∙ c.image.ensures ∙ ap (λ (x : PageWrite). x.image) (same_write (write_of f page) c.in-Some.write.now w c.in-Some.ensures u.write) in
    let changes = changes_at b c.land_flush.new.self page at landed c.laws.ensures.pool c.land_flush.ensures c.laws-in-Ok.ensures.pool u.holder.name in
    λ copies st. subst (λ (x : Buffered). StandsFlown x c.forget.new.self copies after) (sym c.land_flush.ensures)
    (subst (λ (x : Flights). StandsFlown (with_change at landed b) x copies after) (sym c.forget.ensures)
    (told_stepped (IsFlown b f copies) (IsFlown (with_change at landed b) (without_write page f) copies) before after (λ m. with_page m page.space page.number (rest_written w.image))
    (subst (λ (image : List ℕ). Steps before after (λ m. with_page m page.space page.number (rest_written image))) same c.in-Ok.ensures.writes.done)
    (λ m k. flown_landed b f copies m page at k w u.write c.laws.ensures.pool u.holder.name u.flight u.halved_is changes) st))

pub returns-in-Err-Fault-clause-stands : goal.returns-in-Err-Fault-clause-stands
returns-in-Err-Fault-clause-stands g c = λ copies st. c.fail.ensures.stands copies (g.D.PageDisk.state c.args.disk.now).told (g.D.PageDisk.state c.write_rest.new.self).told (c.in-Err-Fault.ensures.writes.failed (ap (λ (r : Refusal). Err r) c.in-Err-Fault.field-0-is)) st
