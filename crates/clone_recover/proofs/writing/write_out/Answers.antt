use Rattle.std.proofs.Common.{List, ℕ, subst}
use Rattle.std.proofs.lemmas.Result.{on_ok_weaker}
use Rattle.clone_outside.specs.Disk.{Steps}
use Rattle.clone_overlay.specs.Covers.{Overlay, covers_of}
use Rattle.clone_recover.specs.Written.{without_spaces}
use Rattle.clone_recover.proofs.DiskStepLemmas.{all_written}
use Rattle.clone_recover.proofs.writing.write_out.Goals as goal

pub returns-clause-written : goal.returns-clause-written
returns-clause-written g c =
    let covers : Overlay = covers_of c.sheets-sheets.result.now.entries in
    let mid = (g.R.PageDisk.state c.spaces.new.self).told in
    let left = (g.R.PageDisk.state c.remove_gone.new.disk).told in
    on_ok_weaker c.write_sheets.result
    (λ written. all_written (g.R.PageDisk.state c.args.disk.now).told mid left (g.R.PageDisk.state c.write_sheets.new.disk).told c.args.overlay.now covers c.in_ok-spaces.spaces.items c.in_ok-spaces.ensures.asks.told c.sheets-sheets.ensures c.in_ok-spaces.ensures.all
    (subst (λ (spaces : List ℕ). Steps mid left (λ m. without_spaces covers m spaces)) c.deref.ensures.value c.in_ok-remove_gone.ensures.removed) written)
    c.write_sheets.ensures.written
