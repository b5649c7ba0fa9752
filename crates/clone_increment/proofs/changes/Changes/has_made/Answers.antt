use Rattle.std.proofs.Common.{◌∙◌, ap, sym}
use Rattle.std.specs.Cmp.{nat_cmp_total}
use Rattle.std.specs.FinSet as set
use Rattle.std.specs.FinSet.{contains-from_list}
use Rattle.clone_increment.specs.Tracked.{Changed}
use Rattle.clone_increment.proofs.changes.Changes.has_made.Goals as goal

pub returns : goal.returns
returns c = c.contains.ensures ∙ sym (contains-from_list nat_cmp_total c.self.inside.made.keys c.args.space) ∙ ap (λ (changed : Changed). set.contains changed.made c.args.space) c.self.view_is
