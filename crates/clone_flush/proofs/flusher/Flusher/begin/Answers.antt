use Rattle.std.proofs.Common.{◌≡◌, ◌∙◌, ℕ, ap, sym, subst}
use Rattle.clone_outside.specs.Disk.{ForTold}
use Rattle.clone_pool.specs.declared.frame.PageName.{PageName}
use Rattle.clone_buffer.specs.Flushing.{with_noted}
use Rattle.clone_flush.specs.Flights.{Flights, HasFiles}
use Rattle.clone_flush.specs.Calls.{State, ends_short, lengthened, new_write, with_write}
use Rattle.clone_flush.proofs.BeginLemmas.{reached_write}
use Rattle.clone_flush.proofs.FileLemmas.{files_lengthened}
use Rattle.clone_flush.proofs.flusher.Flusher.begin.Goals as goal

-- the writes, with the file known to be long enough
reached : (g : _) (c : goal.After-reach g) (at : ℕ) → c.start.new.self ≡ with_write (record { space = c.args.space; number = c.args.number }) (new_write at c.args.buffer.now) c.args.self.now
    → c.reach.new.self ≡ with_write (record { space = c.args.space; number = c.args.number }) (new_write at c.args.buffer.now) (lengthened (ends_short (record { space = c.args.space; number = c.args.number }) c.args.self.now) (record { space = c.args.space; number = c.args.number }) c.args.self.now)
reached g c at flights =
    let f : Flights = c.args.self.now in
    let page : PageName = record { space = c.args.space; number = c.args.number } in
    c.reach.ensures.reached ∙ ap (λ (x : Flights). lengthened (ends_short page x) page x) flights ∙ reached_write (ends_short page f) page (new_write at c.args.buffer.now) f

pub returns-clause-begins : goal.returns-clause-begins
returns-clause-begins g c =
    let s = c.in_ok-start.ensures.starts in
    let flights = reached g c s.0 (ap (λ (x : State). x.flights) s.2) in
    (s.0, s.1, (λ i. record { buffer = (s.2 i).buffer; flights = flights i }), s.3)

pub returns-clause-files : goal.returns-clause-files
returns-clause-files g c =
    let s = c.in_ok-start.ensures.starts in
    let after = (g.D.PageDisk.state c.start.new.disk).told in
    let flights = reached g c s.0 (ap (λ (x : State). x.flights) s.2) in
    λ had. subst (λ (x : Flights). ForTold after (HasFiles x.files)) (sym flights) (files_lengthened (record { space = c.args.space; number = c.args.number }) c.args.self.now (g.D.PageDisk.state c.args.disk.now).told after s.3 had)

pub returns-clause-stands : goal.returns-clause-stands
returns-clause-stands g c =
    let page : PageName = record { space = c.args.space; number = c.args.number } in
    λ copies st files known low. c.reach.ensures.stands c.start.new.buffer (with_noted page copies) (g.D.PageDisk.state c.start.new.disk).told (c.in_ok-start.ensures.stands copies st files known low)
