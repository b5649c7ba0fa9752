use Rattle.std.proofs.Common.{subst}
use Rattle.std.proofs.lemmas.Result.{on_ok_weaker}
use Rattle.clone_overlay.specs.Covers.{Overlay, covers_of}
use Rattle.clone_overlay.specs.Shown.{ShowsSame, ForBase, IsMisplaced}
use Rattle.clone_overlay.proofs.FetchLemmas.{fetched_ready, fetched_shows, gives_misplaced}
use Rattle.clone_overlay.proofs.overlay.Overlay.fetch.Goals as goal

pub returns-clause-ready : goal.returns-clause-ready
returns-clause-ready g c =
    on_ok_weaker c.fetch_in.result (fetched_ready ((g.D.PageDisk.state c.args.disk.now).told) c.args.space c.args.number (covers_of c.self.inside.sheets.entries) (covers_of c.fetch_in.new.sheets.entries)) c.fetch_in.ensures.ok

pub returns-clause-shows : goal.returns-clause-shows
returns-clause-shows g c =
    let told = (g.D.PageDisk.state c.args.disk.now).told in
    let new : Overlay = covers_of c.fetch_in.new.sheets.entries in
    on_ok_weaker c.fetch_in.result
    (λ f. subst (λ (o : Overlay). ShowsSame told o new) c.self.view_is (fetched_shows told c.args.space c.args.number (covers_of c.self.inside.sheets.entries) new f)) c.fetch_in.ensures.ok

pub returns-clause-header : goal.returns-clause-header
returns-clause-header g c = λ e.
    let told = (g.D.PageDisk.state c.args.disk.now).told in
    subst (λ (o : Overlay). ForBase told o (IsMisplaced c.args.space c.args.number)) c.self.view_is
    (gives_misplaced told c.args.space c.args.number (covers_of c.self.inside.sheets.entries) (c.fetch_in.ensures.header e))
