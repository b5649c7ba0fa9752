use Rattle.std.proofs.Common.{◌∙◌, sym, ap}
use Rattle.clone_space.specs.Entries.{entry_on}
use Rattle.clone_space.proofs.EntryLemmas.{entry_in-dictionary, entry_is}
use Rattle.clone_space.proofs.reading.entry_at.Goals as goal

pub returns : goal.returns
returns c =
    entry_is (entry_on c.args.entry_number c.bytes-bytes.result.now) c.u32_at.ensures c.u32_at-2.ensures c.u32_at-3.ensures
    ∙ ap (entry_on c.args.entry_number) c.bytes-bytes.ensures.value ∙ sym (entry_in-dictionary c.args.entry_number c.args.page.now c.requires)
