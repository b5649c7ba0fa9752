use Rattle.clone_overlay.proofs.Entries.{taken_cover}
use Rattle.clone_overlay.proofs.overlay.remove_in.Goals as goal

pub returns : goal.returns
returns c = taken_cover c.args.sheets.now c.remove.new.self c.args.space c.remove.ensures.updates
