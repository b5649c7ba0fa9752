use Rattle.std.proofs.Common.{arith, ap, ◌∙◌}
use Rattle.std.proofs.lemmas.List.{take_all}
use Rattle.clone_space.specs.Entries.{dictionary, sizes}
use Rattle.clone_space.proofs.EntryLemmas.{length-dictionary}
use Rattle.clone_space.proofs.reading.sizes.Goals as goal

pub returns : goal.returns
returns c =
    let long = length-dictionary c.args.page.now in
    c.loop-entry_number.invariant ∙ ap sizes (take_all c.loop-entry_number.entry_number (dictionary c.args.page.now) (omega arith))
