use Rattle.clone_overlay.proofs.Entries.{set_leaf}
use Rattle.clone_overlay.proofs.sheet.insert_in.Goals as goal

pub returns : goal.returns
returns c = set_leaf c.args.leaves.now c.insert.new.self c.args.number c.args.page c.in_ok-insert.ensures.updates
