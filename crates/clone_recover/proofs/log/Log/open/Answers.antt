use Rattle.std.proofs.Common.{◌≡◌, ◌-◌, ◌*◌, ◌∙◌, min, refl}
use Rattle.std.specs.Prelude.{unwrap_or}
use Rattle.clone_recover.proofs.RedoPageLemmas.{opened}
use Rattle.clone_recover.proofs.log.Log.open.Goals as goal

pub returns-clause-reads : goal.returns-clause-reads
returns-clause-reads g c =
    let same = c.in_ok-pages.ensures.asks.told in
    let available : c.min.result ≡ min (c.args.end.now.lsn - c.args.end.now.checkpoint) (4096 * unwrap_or c.in_ok-pages.field-0 0) = cc in
    opened (g.R.PageDisk.state c.args.disk.now).told (g.R.PageDisk.state c.pages.new.self).told (g.R.PageDisk.state c.load.new.disk).told _ c.load.new.self c.load-2.new.self c.in_ok-pages.field-0 same (c.in_ok-load.ensures.reads.told ∙ same) c.in_ok-pages.ensures.count
    refl refl available c.in_ok-load.ensures.long
    (record { first = c.in_ok-load.ensures.first; at = c.in_ok-load.ensures.at; total = c.in_ok-load.ensures.total; available = c.in_ok-load.ensures.available })
    (record { first = c.in_ok-load-2.ensures.first; at = c.in_ok-load-2.ensures.at; total = c.in_ok-load-2.ensures.total; available = c.in_ok-load-2.ensures.available })
    c.in_ok-load.ensures.loads c.in_ok-load-2.ensures.loads
