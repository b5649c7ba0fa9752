use Rattle.std.proofs.Common.{◌∙◌, ap}
use Rattle.std.specs.FinMap as finite
use Rattle.clone_overlay.specs.Covers.{covers_of}
use Rattle.clone_overlay.proofs.Entries.{set_cover}
use Rattle.clone_overlay.proofs.overlay.put.Goals as goal

pub returns : goal.returns
returns c =
    set_cover c.args.sheets.now c.insert.new.self c.args.space _ c.in_ok-insert.ensures.updates ∙ ap (finite.insert (covers_of c.args.sheets.now.entries) c.args.space) c.new.ensures
