use Rattle.std.proofs.Common.{◌∙◌, sym, subst}
use Rattle.clone_overlay.specs.Covers.{covers_of}
use Rattle.clone_overlay.specs.Shown.{Shows}
use Rattle.clone_overlay.proofs.Counts.{counts_shown}
use Rattle.clone_overlay.proofs.overlay.Overlay.pages.Goals as goal

pub returns : goal.returns
returns c = λ base image shows. c.count_in.ensures ∙ counts_shown base image (covers_of c.self.inside.sheets.entries) c.args.space (subst (Shows base image) (sym c.self.view_is) shows)
