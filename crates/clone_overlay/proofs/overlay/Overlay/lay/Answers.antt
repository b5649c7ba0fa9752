use Rattle.std.proofs.Common.{sym, subst}
use Rattle.clone_page.specs.Bytes.{put_at}
use Rattle.clone_image.specs.Image.{with_edit, edited}
use Rattle.clone_overlay.specs.Covers.{Overlay, covers_of}
use Rattle.clone_overlay.specs.Shown.{Shows, IsReady}
use Rattle.clone_overlay.proofs.OverlayImageLemmas.{shows_laid}
use Rattle.clone_overlay.proofs.overlay.Overlay.lay.Goals as goal

pub returns : goal.returns
returns c = λ base image shows.
    subst (Shows base (with_edit image c.args.space (edited c.args.number (put_at c.args.offset c.args.bytes.now)))) (sym c.lay_in.ensures)
    (shows_laid base image (covers_of c.self.inside.sheets.entries) c.args.space c.args.number c.args.offset c.args.bytes.now
    (subst (λ (o : Overlay). IsReady o c.args.space c.args.number) (sym c.self.view_is) c.requires.ready) (subst (Shows base image) (sym c.self.view_is) shows))
