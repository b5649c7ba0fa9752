use Rattle.clone_increment.specs.Copies.{IsImageOf, IsQuiet, KeepsAll}
use Rattle.clone_increment.specs.Readings.{AreSizesOf, ReadsAll}
use Rattle.clone_increment.proofs.ImageLemmas.{copied_image}
use Rattle.clone_increment.proofs.ReadingLemmas.{told_with}
use Rattle.clone_increment.proofs.tracking.copied.Goals as goal

pub returns-clause-image : goal.returns-clause-image
returns-clause-image g c =
    let told = (g.D.PageDisk.state c.args.disk.now).told in
    let sizes = c.in_ok-sizes.sizes in
    let pages = c.in_ok-pages.pages in
    told_with told _ (AreSizesOf sizes) (ReadsAll sizes pages) (λ m. IsQuiet m → IsImageOf (record { sizes = sizes; pages = pages }) m)
    c.sizes_of.ensures.asks.told (λ m same read quiet. copied_image m sizes pages same (read quiet same)) c.in_ok-sizes.ensures.sizes c.in_ok-pages.ensures.pages

pub returns-clause-kept : goal.returns-clause-kept
returns-clause-kept g c =
    let told = (g.D.PageDisk.state c.args.disk.now).told in
    let sizes = c.in_ok-sizes.sizes in
    let pages = c.in_ok-pages.pages in
    told_with told _ (AreSizesOf sizes) (ReadsAll sizes pages) (λ m. IsQuiet m → KeepsAll (record { sizes = sizes; pages = pages }) m)
    c.sizes_of.ensures.asks.told (λ m same read quiet. read quiet same) c.in_ok-sizes.ensures.sizes c.in_ok-pages.ensures.pages
