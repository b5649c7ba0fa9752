use Rattle.std.proofs.Common.{◌∙◌, ap, sym}
use Rattle.clone_mtr.specs.Effects.{effect}
use Rattle.clone_mtr.specs.References.{record_of}
use Rattle.clone_mtr.proofs.reference.RecordRef.apply.Goals as goal

pub returns-in-Init : goal.returns-in-Init
returns-in-Init c = c.init.ensures ∙ ap (λ entry. effect c.args.lsn (record_of entry) c.args.page.now) (sym c.in-Init.is)
