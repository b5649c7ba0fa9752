use Rattle.std.proofs.Common.{ℕ, replicate, subst}
use Rattle.clone_page.specs.Bytes.{put_at}
use Rattle.clone_undo.specs.Places.{header_offset}
use Rattle.clone_image.specs.Image.{with_edit, edited}
use Rattle.clone_image.specs.Recovered.{freed}
use Rattle.clone_overlay.specs.Images.{image_of}
use Rattle.clone_overlay.specs.Shown.{Shows}
use Rattle.clone_recover.proofs.OverlayReadLemmas.{for_shown}
use Rattle.clone_recover.proofs.rollback.free.Goals as goal

pub returns-clause-freed : goal.returns-clause-freed
returns-clause-freed g c =
    for_shown (g.R.PageDisk.state c.args.disk.now).told c.args.overlay.now c.fetch.new.overlay (λ m image. Shows (image_of m) (freed image c.args.slot) c.lay.new.self) c.in_ok-fetch.ensures.shows
    (λ m image shows. subst (λ (n : ℕ). Shows (image_of m) (with_edit image 0 (edited n (put_at header_offset (replicate 16 0)))) c.lay.new.self) c.header_page-number.ensures (c.lay.ensures (image_of m) image shows))
