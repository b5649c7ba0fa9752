use Rattle.std.proofs.Common.{◌≡◌, ◌∙◌}
use Rattle.std.specs.FinMap as finite
use Rattle.clone_outside.specs.Disk.{page_count, space_numbers}
use Rattle.clone_increment.specs.Readings.{AreSizesOf, all_joined}
use Rattle.clone_increment.proofs.ReadingLemmas.{sizes_found, told_with}
use Rattle.clone_increment.proofs.reading.sizes_of.Goals as goal

pub returns-clause-sizes : goal.returns-clause-sizes
returns-clause-sizes g c =
    let told = (g.D.PageDisk.state c.args.disk.now).told in
    let sizes = c.in_ok-sizes.sizes in
    let listed = c.deref.result.now in
    told_with told _ (λ m. c.in_ok-spaces.spaces.items ≡ space_numbers m) (λ m. sizes ≡ all_joined (page_count m) finite.empty listed) (AreSizesOf sizes)
    c.spaces.ensures.asks.told (λ m all made. sizes_found m sizes listed (c.deref.ensures.value ∙ all) made) c.in_ok-spaces.ensures.all c.in_ok-sizes.ensures.sizes
