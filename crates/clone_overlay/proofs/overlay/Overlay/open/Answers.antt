use Rattle.clone_overlay.specs.Covers.{covers_of}
use Rattle.clone_overlay.proofs.OpenLemmas.{opened_told}
use Rattle.clone_overlay.proofs.overlay.Overlay.open.Goals as goal

pub returns-clause-shows : goal.returns-clause-shows
returns-clause-shows g c =
    opened_told ((g.D.PageDisk.state c.args.disk.now).told) _ (covers_of c.in_ok-sheets.sheets.entries) c.deref.result.now c.in_ok-spaces.spaces.items c.spaces.ensures.asks.told c.deref.ensures.value c.in_ok-spaces.ensures.all c.in_ok-sheets.ensures.sheets
