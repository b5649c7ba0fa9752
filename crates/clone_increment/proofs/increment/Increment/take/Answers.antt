use Rattle.std.proofs.Common.{◌∙◌, ◌+◌, ℕ, ap, cond, option_map, Bool, None}
use Rattle.std.specs.FinSet as set
use Rattle.clone_increment.specs.Copies.{IsQuiet, bytes_at}
use Rattle.clone_increment.specs.Readings.{AreSizesOf, ReadsPlaces}
use Rattle.clone_increment.specs.Tracked.{Changed, IsTaken}
use Rattle.clone_increment.proofs.ReadingLemmas.{places_found, told_with}
use Rattle.clone_increment.proofs.increment.Increment.take.Goals as goal

pub returns-clause-taken : goal.returns-clause-taken
returns-clause-taken g c =
    let told = (g.D.PageDisk.state c.args.disk.now).told in
    let sizes = c.in_ok-sizes.sizes in
    let pages = c.in_ok-pages.pages in
    let stay = c.in_ok-stay.stay in
    let changed : Changed = c.args.changes.now in
    let places = c.changes.inside.written.keys in
    told_with told _ (AreSizesOf sizes) (ReadsPlaces sizes places pages)
    (λ m. IsQuiet m → IsTaken changed m (record { number = c.args.number; next = c.args.number + 1; sizes = sizes; stay = stay; pages = pages })) c.sizes_of.ensures.asks.told
    (λ m same read quiet. record {
      sizes = same;
      stay = λ space. c.in_ok-stay.ensures space ∙ ap (option_map (λ size. cond (set.contains changed.made space) 0 size)) (same space);
      pages = λ place. places_found m places pages (read quiet same) place ∙ ap (λ (d : Changed). cond (set.contains d.written place) (bytes_at m place) None) c.changes.view_is;
    }) c.in_ok-sizes.ensures.sizes c.in_ok-pages.ensures.pages
