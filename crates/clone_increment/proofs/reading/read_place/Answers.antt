use Rattle.std.proofs.Common.{sym}
use Rattle.std.proofs.lemmas.Result.{on_ok_weaker}
use Rattle.std.proofs.Common.{refl}
use Rattle.clone_outside.specs.Disk.{ForTold, GivesQuiet}
use Rattle.clone_increment.specs.Readings.{ReadsPage, ReadsPlace}
use Rattle.clone_increment.proofs.ReadingLemmas.{for_told, reads_nothing, reads_place, told_weaker}
use Rattle.clone_increment.proofs.reading.read_place.Goals as goal

pub returns-then-is_within-clause-read : goal.returns-then-is_within-clause-read
returns-then-is_within-clause-read g c =
    let told = (g.D.PageDisk.state c.args.disk.now).told in
    let place = c.args.place in
    let old = c.args.pages.now in
    let new = c.read.new.self in
    let within = sym c.if-is_within.ensures in
    on_ok_weaker c.read.result
    (λ r. told_weaker told (λ m. GivesQuiet m place.0 place.1 r.0) (ReadsPlace c.args.sizes.now place old new) (λ m gives. reads_place m c.args.sizes.now place old new r.0 within r.1 gives) r.2) c.read.ensures.ok

pub returns-else-is_within-clause-read : goal.returns-else-is_within-clause-read
returns-else-is_within-clause-read g c =
    let told = (g.D.PageDisk.state c.args.disk.now).told in
    let beyond = sym c.if-is_within.ensures in
    for_told told (ReadsPlace c.args.sizes.now c.args.place c.args.pages.now c.args.pages.now) (λ m. reads_nothing m c.args.sizes.now c.args.place c.args.pages.now c.args.pages.now beyond refl)
